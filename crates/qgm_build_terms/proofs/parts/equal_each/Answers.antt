use Rattle.std.proofs.Common.{arith}
use Rattle.std.proofs.lemmas.Grind.{common_steps}
use Rattle.qgm_build_terms.proofs.parts.equal_each.Goals as goal

pub loop-y-preserved : goal.loop-y-preserved
loop-y-preserved c = grind (arith, common_steps)

pub loop-y-init : goal.loop-y-init
loop-y-init c = grind (arith, common_steps)
