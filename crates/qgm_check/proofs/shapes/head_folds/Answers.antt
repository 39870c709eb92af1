use Rattle.std.proofs.Common.{arith}
use Rattle.std.proofs.lemmas.Grind.{common_steps}
use Rattle.qgm_check.proofs.shapes.head_folds.Goals as goal

pub returns-else-keys_unfolded : goal.returns-else-keys_unfolded
returns-else-keys_unfolded c = grind (arith, common_steps)

pub returns-then-keys_unfolded : goal.returns-then-keys_unfolded
returns-then-keys_unfolded c = grind (arith, common_steps)
