use Rattle.std.proofs.Common.{arith}
use Rattle.std.proofs.lemmas.Grind.{common_steps}
use Rattle.sql_parser.proofs.grammar.Grammar.from.Goals as goal

pub returns-in-Some-Key-From-default : goal.returns-in-Some-Key-From-default
returns-in-Some-Key-From-default c = grind (arith, common_steps)
