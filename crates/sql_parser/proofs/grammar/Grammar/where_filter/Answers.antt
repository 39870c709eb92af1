use Rattle.std.proofs.Common.{arith}
use Rattle.std.proofs.lemmas.Grind.{common_steps}
use Rattle.sql_parser.proofs.grammar.Grammar.where_filter.Goals as goal

pub returns-in_ok-cond-in-Some-Key-Where-default : goal.returns-in_ok-cond-in-Some-Key-Where-default
returns-in_ok-cond-in-Some-Key-Where-default c = grind (arith, common_steps)
