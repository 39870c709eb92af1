use Rattle.graph_sql.proofs.SelectRows.{repeated, selects, sources}
use Rattle.graph_sql.proofs.laws.select_laws.Goals as goal

pub returns-clause-selects : goal.returns-clause-selects
returns-clause-selects c = selects

pub returns-clause-items : goal.returns-clause-items
returns-clause-items c = sources

pub returns-clause-repeated : goal.returns-clause-repeated
returns-clause-repeated c = repeated
