use Rattle.std.proofs.Common.{arith}
use Rattle.std.proofs.lemmas.Grind.{common_steps}
use Rattle.sql_parser.proofs.grammar.Grammar.null_word.Goals as goal

pub returns-in-Some-Key-Null-default : goal.returns-in-Some-Key-Null-default
returns-in-Some-Key-Null-default c = grind (arith, common_steps)
