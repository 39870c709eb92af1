use Rattle.std.proofs.Common.{arith}
use Rattle.std.proofs.lemmas.Grind.{common_steps}
use Rattle.sql_parser.proofs.grammar.Grammar.case.Goals as goal

pub returns-in-Some-Key-When-default : goal.returns-in-Some-Key-When-default
returns-in-Some-Key-When-default c = grind (arith, common_steps)

pub simple-requires : goal.simple-requires
simple-requires c = grind (arith, common_steps)
