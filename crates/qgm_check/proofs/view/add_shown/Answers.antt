use Rattle.std.proofs.Common.{arith}
use Rattle.std.proofs.lemmas.Grind.{common_steps}
use Rattle.qgm_check.proofs.view.add_shown.Goals as goal

pub returns-then-is_select : goal.returns-then-is_select
returns-then-is_select c = grind (arith, common_steps)
