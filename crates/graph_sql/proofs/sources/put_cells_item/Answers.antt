use Rattle.std.proofs.Common.{arith}
use Rattle.std.proofs.lemmas.Grind.{common_steps}
use Rattle.graph_sql.proofs.sources.put_cells_item.Goals as goal

pub returns : goal.returns
returns c = grind (arith, common_steps)
