use Rattle.std.proofs.Common.{arith}
use Rattle.std.proofs.lemmas.Grind.{common_steps}
use Rattle.sql_parser.proofs.naming.comma_name.Goals as goal

pub returns-in-Comma-clause-found : goal.returns-in-Comma-clause-found
returns-in-Comma-clause-found c = grind (arith, common_steps)
