use Rattle.std.proofs.Common.{arith}
use Rattle.std.proofs.lemmas.Grind.{common_steps}
use Rattle.sql_parser.proofs.grammar.Grammar.upper.Goals as goal

pub returns-in_ok-high-in-Some-Key-And-default : goal.returns-in_ok-high-in-Some-Key-And-default
returns-in_ok-high-in-Some-Key-And-default c = grind (arith, common_steps)
