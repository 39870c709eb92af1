use Rattle.std.proofs.Common.{arith}
use Rattle.std.proofs.lemmas.Grind.{common_steps}
use Rattle.sql_parser.proofs.grammar.Grammar.cast_type.Goals as goal

pub returns-in_ok-data_type-in-Some-Key-As-default : goal.returns-in_ok-data_type-in-Some-Key-As-default
returns-in_ok-data_type-in-Some-Key-As-default c = grind (arith, common_steps)
