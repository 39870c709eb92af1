use Rattle.std.proofs.Common.{arith}
use Rattle.std.proofs.lemmas.Grind.{common_steps}
use Rattle.box_exec.proofs.handed_on.is_column.Goals as goal

pub returns-then-r-q : goal.returns-then-r-q
returns-then-r-q c = grind (arith, common_steps)

pub returns-in_default : goal.returns-in_default
returns-in_default c = grind (arith, common_steps)

pub returns-else-r-q : goal.returns-else-r-q
returns-else-r-q c = grind (arith, common_steps)
