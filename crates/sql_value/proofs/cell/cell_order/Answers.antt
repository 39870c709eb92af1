use Rattle.sql_value.proofs.Total.{cell-ties, cell-total}
use Rattle.sql_value.proofs.cell.cell_order.Goals as goal

pub returns-clause-total : goal.returns-clause-total
returns-clause-total c = cell-total

pub returns-clause-ties : goal.returns-clause-ties
returns-clause-ties c = cell-ties
