use Rattle.std.proofs.Common.{List}
use Rattle.sql_value.specs.declared.cell.Cell.{Cell}
use Rattle.row_bag.specs.Sets.{same_cells}
use Rattle.row_bag.proofs.TupleBags.{same_cells-decides}
use Rattle.row_bag.proofs.OneRow.{exists-laws}
use Rattle.row_bag.proofs.laws.join_laws.Goals as goal

pub returns : goal.returns
returns c = record { exists = exists-laws same_cells same_cells-decides (List Cell) same_cells }
