use Rattle.std.proofs.Common.{arith}
use Rattle.std.proofs.lemmas.Grind.{common_steps}
use Rattle.box_exec.proofs.handed_on.handed_on.Goals as goal

pub returns-then-in_order : goal.returns-then-in_order
returns-then-in_order c = grind (arith, common_steps)
