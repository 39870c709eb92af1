use Rattle.std.proofs.Common.{arith}
use Rattle.std.proofs.lemmas.Grind.{common_steps}
use Rattle.qgm_build_terms.proofs.Grouped.{key_more}
use Rattle.qgm_build_terms.proofs.groups.key_frame.Goals as goal

pub loop-i-preserved : goal.loop-i-preserved
loop-i-preserved c = grind (arith, common_steps, key_more)

pub returns : goal.returns
returns c = grind (arith, common_steps)
