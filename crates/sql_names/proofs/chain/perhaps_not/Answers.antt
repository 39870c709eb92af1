use Rattle.std.proofs.Common.{arith}
use Rattle.std.proofs.lemmas.Grind.{common_steps}
use Rattle.sql_names.proofs.chain.perhaps_not.Goals as goal

pub returns-else-negative : goal.returns-else-negative
returns-else-negative c = grind (arith, common_steps)

pub returns-in_ok-p : goal.returns-in_ok-p
returns-in_ok-p c = grind (arith, common_steps)
