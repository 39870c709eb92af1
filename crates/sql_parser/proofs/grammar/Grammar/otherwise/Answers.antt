use Rattle.std.proofs.Common.{arith}
use Rattle.std.proofs.lemmas.Grind.{common_steps}
use Rattle.sql_parser.proofs.grammar.Grammar.otherwise.Goals as goal

pub returns-in_ok-value-in-Some-Key-Else-default : goal.returns-in_ok-value-in-Some-Key-Else-default
returns-in_ok-value-in-Some-Key-Else-default c = grind (arith, common_steps)
