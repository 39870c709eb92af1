use Rattle.std.proofs.Common.{arith}
use Rattle.std.proofs.lemmas.Grind.{common_steps}
use Rattle.sql_parser.proofs.naming.alias_at.Goals as goal

pub returns-in_ok-name-in-Key : goal.returns-in_ok-name-in-Key
returns-in_ok-name-in-Key c = grind (arith, common_steps)

pub returns-in_ok-name-in-Name : goal.returns-in_ok-name-in-Name
returns-in_ok-name-in-Name c = grind (arith, common_steps)
