use Rattle.graph_sql.proofs.Read.{cells, conds, filters}
use Rattle.graph_sql.proofs.laws.readings.Goals as goal

pub returns-clause-cells : goal.returns-clause-cells
returns-clause-cells c = cells

pub returns-clause-conditions : goal.returns-clause-conditions
returns-clause-conditions c = conds

pub returns-clause-filters : goal.returns-clause-filters
returns-clause-filters c = filters
