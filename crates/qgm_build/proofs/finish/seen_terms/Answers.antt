use Rattle.std.proofs.Common.{arith}
use Rattle.std.proofs.lemmas.Grind.{common_steps}
use Rattle.qgm_build.proofs.finish.seen_terms.Goals as goal

pub returns : goal.returns
returns c = grind (arith, common_steps)

pub loop-x-init : goal.loop-x-init
loop-x-init c = grind (arith, common_steps)

pub loop-x-preserved : goal.loop-x-preserved
loop-x-preserved c = grind (arith, common_steps)
