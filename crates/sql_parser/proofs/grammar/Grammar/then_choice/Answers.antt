use Rattle.std.proofs.Common.{arith}
use Rattle.std.proofs.lemmas.Grind.{common_steps}
use Rattle.sql_parser.proofs.grammar.Grammar.then_choice.Goals as goal

pub returns-in_ok-then-in-Some-Key-Then-default : goal.returns-in_ok-then-in-Some-Key-Then-default
returns-in_ok-then-in-Some-Key-Then-default c = grind (arith, common_steps)
