use Rattle.std.proofs.Common.{arith}
use Rattle.std.proofs.lemmas.Grind.{common_steps}
use Rattle.qgm_wellformed.proofs.places.rank_in.Goals as goal

pub returns : goal.returns
returns c = grind (arith, common_steps)

pub loop-i-preserved : goal.loop-i-preserved
loop-i-preserved c = grind (arith, common_steps)

pub returns-then-nodes-i : goal.returns-then-nodes-i
returns-then-nodes-i c = grind (arith, common_steps)
