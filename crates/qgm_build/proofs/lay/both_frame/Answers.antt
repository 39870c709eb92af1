use Rattle.std.proofs.Common.{arith}
use Rattle.std.proofs.lemmas.Grind.{common_steps}
use Rattle.qgm_build.proofs.Same.{frames_same}
use Rattle.qgm_build.proofs.lay.both_frame.Goals as goal

pub returns : goal.returns
returns c = grind (arith, common_steps, frames_same)
