use Rattle.std.proofs.Common.{arith}
use Rattle.std.proofs.lemmas.Grind.{common_steps}
use Rattle.sql_parser.proofs.naming.group_by.Goals as goal

pub returns-in-Some-Key-By-default : goal.returns-in-Some-Key-By-default
returns-in-Some-Key-By-default c = grind (arith, common_steps)
