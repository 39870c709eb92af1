use Rattle.std.proofs.Common.{arith}
use Rattle.std.proofs.lemmas.Grind.{common_steps}
use Rattle.sql_parser.proofs.grammar.Grammar.paren.Goals as goal

pub returns-in_ok-operand : goal.returns-in_ok-operand
returns-in_ok-operand c = grind (arith, common_steps)

pub returns-in_ok-query : goal.returns-in_ok-query
returns-in_ok-query c = grind (arith, common_steps)

pub returns-in_err-query : goal.returns-in_err-query
returns-in_err-query c = grind (arith, common_steps)

pub returns-in_err-operand : goal.returns-in_err-operand
returns-in_err-operand c = grind (arith, common_steps)

pub nested_expr-requires : goal.nested_expr-requires
nested_expr-requires c = grind (arith, common_steps)

pub nested_query-requires : goal.nested_query-requires
nested_query-requires c = grind (arith, common_steps)
