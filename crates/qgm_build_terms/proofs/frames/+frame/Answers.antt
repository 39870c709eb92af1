use Rattle.std.proofs.Common.{arith}
use Rattle.std.proofs.lemmas.Grind.{common_steps}
use Rattle.qgm_build_terms.proofs.frames.+frame.Goals as goal

pub returns-in_ok-frame-in-Crossed-clause-frame : goal.returns-in_ok-frame-in-Crossed-clause-frame
returns-in_ok-frame-in-Crossed-clause-frame t c = grind (arith, common_steps)

pub returns-in_ok-frame-in-Crossed-clause-past : goal.returns-in_ok-frame-in-Crossed-clause-past
returns-in_ok-frame-in-Crossed-clause-past t c = grind (arith, common_steps)
