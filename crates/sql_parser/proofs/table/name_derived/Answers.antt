use Rattle.std.proofs.Common.{arith}
use Rattle.std.proofs.lemmas.Grind.{common_steps}
use Rattle.sql_parser.proofs.table.name_derived.Goals as goal

pub returns-in_default : goal.returns-in_default
returns-in_default c = grind (arith, common_steps)

pub returns-in_ok-named-in-Some-RightParen-default : goal.returns-in_ok-named-in-Some-RightParen-default
returns-in_ok-named-in-Some-RightParen-default c = grind (arith, common_steps)
