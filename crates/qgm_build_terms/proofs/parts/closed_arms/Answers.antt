use Rattle.std.proofs.Common.{arith}
use Rattle.std.proofs.lemmas.Grind.{common_steps}
use Rattle.qgm_build_terms.proofs.parts.closed_arms.Goals as goal

pub loop-arm-preserved : goal.loop-arm-preserved
loop-arm-preserved c = grind (arith, common_steps)

pub loop-arm-init : goal.loop-arm-init
loop-arm-init c = grind (arith, common_steps)
