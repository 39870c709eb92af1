use Rattle.std.proofs.Common.{arith}
use Rattle.std.proofs.lemmas.Grind.{common_steps}
use Rattle.sql_parser.proofs.grammar.Grammar.exists.Goals as goal

pub returns-in_default : goal.returns-in_default
returns-in_default c = grind (arith, common_steps)

pub returns-in_ok-query-in-Some-LeftParen-default : goal.returns-in_ok-query-in-Some-LeftParen-default
returns-in_ok-query-in-Some-LeftParen-default c = grind (arith, common_steps)

pub nested_query-requires : goal.nested_query-requires
nested_query-requires c = grind (arith, common_steps)
