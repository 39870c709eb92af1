use Rattle.std.proofs.Common.{arith}
use Rattle.std.proofs.lemmas.Grind.{common_steps}
use Rattle.qgm_wellformed.proofs.closed.all_owned.Goals as goal

pub loop-q-preserved : goal.loop-q-preserved
loop-q-preserved c = grind (arith, common_steps)

pub returns-then-not-has : goal.returns-then-not-has
returns-then-not-has c = grind (arith, common_steps)
