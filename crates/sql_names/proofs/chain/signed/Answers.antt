use Rattle.std.proofs.Common.{arith}
use Rattle.std.proofs.lemmas.Grind.{common_steps}
use Rattle.sql_names.proofs.chain.signed.Goals as goal

pub returns-in-Plus : goal.returns-in-Plus
returns-in-Plus c = grind (arith, common_steps)

pub returns-in_ok-x-in-Minus : goal.returns-in_ok-x-in-Minus
returns-in_ok-x-in-Minus c = grind (arith, common_steps)
