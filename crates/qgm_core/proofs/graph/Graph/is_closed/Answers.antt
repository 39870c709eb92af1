use Rattle.std.proofs.Common.{arith}
use Rattle.std.proofs.lemmas.Grind.{common_steps}
use Rattle.qgm_core.proofs.graph.Graph.is_closed.Goals as goal

pub returns : goal.returns
returns c = grind (arith, common_steps)
