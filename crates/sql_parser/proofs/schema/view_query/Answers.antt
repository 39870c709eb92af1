use Rattle.std.proofs.Common.{arith}
use Rattle.std.proofs.lemmas.Grind.{common_steps}
use Rattle.sql_parser.proofs.schema.view_query.Goals as goal

pub returns-in_default : goal.returns-in_default
returns-in_default c = grind (arith, common_steps)

pub returns-in-Some-Key-As-default : goal.returns-in-Some-Key-As-default
returns-in-Some-Key-As-default c = grind (arith, common_steps)
