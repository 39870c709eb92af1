use Rattle.std.proofs.Common.{arith}
use Rattle.std.proofs.lemmas.Grind.{common_steps}
use Rattle.qgm_build_terms.proofs.parts.null_as.Goals as goal

pub returns-in-Varchar : goal.returns-in-Varchar
returns-in-Varchar c = grind (arith, common_steps)

pub returns-in-Integer : goal.returns-in-Integer
returns-in-Integer c = grind (arith, common_steps)
