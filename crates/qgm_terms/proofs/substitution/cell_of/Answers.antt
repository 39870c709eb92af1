use Rattle.std.proofs.Common.{arith}
use Rattle.std.proofs.lemmas.Grind.{common_steps}
use Rattle.qgm_terms.proofs.substitution.cell_of.Goals as goal

pub returns-then-r-q : goal.returns-then-r-q
returns-then-r-q c = grind (arith, common_steps)

pub returns-else-k-gt0 : goal.returns-else-k-gt0
returns-else-k-gt0 c = grind (arith, common_steps)
