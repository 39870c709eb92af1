use Rattle.std.proofs.Common.{arith}
use Rattle.std.proofs.lemmas.Grind.{common_steps}
use Rattle.qgm_build_terms.proofs.parts.quantified.Goals as goal

pub returns-in-All : goal.returns-in-All
returns-in-All c = grind (arith, common_steps)

pub returns-in-Any : goal.returns-in-Any
returns-in-Any c = grind (arith, common_steps)
