use Rattle.std.proofs.Common.{arith}
use Rattle.std.proofs.lemmas.Grind.{common_steps}
use Rattle.qgm_build.proofs.finish.append.Goals as goal

pub loop-o-preserved : goal.loop-o-preserved
loop-o-preserved c = grind (arith, common_steps)
