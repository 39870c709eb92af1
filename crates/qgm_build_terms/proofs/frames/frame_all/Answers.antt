use Rattle.std.proofs.Common.{arith}
use Rattle.std.proofs.lemmas.Grind.{common_steps}
use Rattle.qgm_build_terms.proofs.Steps.{appended}
use Rattle.qgm_build_terms.proofs.frames.frame_all.Goals as goal

pub loop-x-preserved : goal.loop-x-preserved
loop-x-preserved c = record { frame = grind (arith, common_steps, appended); past = grind (arith, common_steps, appended) }

pub returns-clause-frame : goal.returns-clause-frame
returns-clause-frame c = grind (arith, common_steps)

pub returns-clause-past : goal.returns-clause-past
returns-clause-past c = grind (arith, common_steps)
