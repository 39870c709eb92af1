use Rattle.std.proofs.Common.{arith}
use Rattle.std.proofs.lemmas.Grind.{common_steps}
use Rattle.box_exec.proofs.handed_on.in_order.Goals as goal

pub returns : goal.returns
returns c = grind (arith, common_steps)

pub returns-then-not-is_column : goal.returns-then-not-is_column
returns-then-not-is_column c = grind (arith, common_steps)

pub loop-i-preserved : goal.loop-i-preserved
loop-i-preserved c = grind (arith, common_steps)
