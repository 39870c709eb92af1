use Rattle.std.proofs.Common.{arith}
use Rattle.std.proofs.lemmas.Grind.{common_steps}
use Rattle.sql_parser.proofs.schema.statement.Goals as goal

pub returns-in_default : goal.returns-in_default
returns-in_default c = grind (arith, common_steps)

pub returns-in_default-first : goal.returns-in_default-first
returns-in_default-first c = grind (arith, common_steps)

pub returns-in-Some-Key-View-default : goal.returns-in-Some-Key-View-default
returns-in-Some-Key-View-default c = grind (arith, common_steps)

pub returns-in-Some-Key-Table-default : goal.returns-in-Some-Key-Table-default
returns-in-Some-Key-Table-default c = grind (arith, common_steps)
