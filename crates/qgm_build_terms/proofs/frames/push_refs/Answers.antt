use Rattle.std.proofs.Common.{arith}
use Rattle.std.proofs.lemmas.Grind.{common_steps}
use Rattle.qgm_build_terms.proofs.Lists.{refs_more}
use Rattle.qgm_build_terms.proofs.frames.push_refs.Goals as goal

pub loop-k-preserved : goal.loop-k-preserved
loop-k-preserved c = grind (arith, common_steps, refs_more)

pub returns : goal.returns
returns c = grind (arith, common_steps)
