use Rattle.std.proofs.Common.{arith}
use Rattle.std.proofs.lemmas.Grind.{common_steps}
use Rattle.sql_names.proofs.stars.push_innermost.Goals as goal

pub returns-in-Outermost : goal.returns-in-Outermost
returns-in-Outermost c = grind (arith, common_steps)

pub returns-in-Inside : goal.returns-in-Inside
returns-in-Inside c = grind (arith, common_steps)
