use Rattle.std.proofs.Common.{arith}
use Rattle.std.proofs.lemmas.Grind.{common_steps}
use Rattle.sql_parser.proofs.grammar.Grammar.on.Goals as goal

pub returns-in-Some-Key-On-default : goal.returns-in-Some-Key-On-default
returns-in-Some-Key-On-default c = grind (arith, common_steps)
