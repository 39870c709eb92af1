use Rattle.std.proofs.Common.{arith}
use Rattle.std.proofs.lemmas.Grind.{common_steps}
use Rattle.graph_print.proofs.index.find_box.Goals as goal

pub loop-node-preserved : goal.loop-node-preserved
loop-node-preserved c = grind (arith, common_steps)

pub returns-then-node-b : goal.returns-then-node-b
returns-then-node-b c = grind (arith, common_steps)
