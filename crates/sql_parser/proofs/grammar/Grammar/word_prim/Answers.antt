use Rattle.std.proofs.Common.{arith}
use Rattle.std.proofs.lemmas.Grind.{common_steps}
use Rattle.sql_parser.proofs.grammar.Grammar.word_prim.Goals as goal

pub aggregate-requires-in-Min : goal.aggregate-requires-in-Min
aggregate-requires-in-Min c = grind (arith, common_steps)

pub returns-in-Max : goal.returns-in-Max
returns-in-Max c = grind (arith, common_steps)

pub returns-in-Min : goal.returns-in-Min
returns-in-Min c = grind (arith, common_steps)

pub returns-in_default : goal.returns-in_default
returns-in_default c = grind (arith, common_steps)

pub aggregate-requires : goal.aggregate-requires
aggregate-requires c = grind (arith, common_steps)

pub coalesce-requires : goal.coalesce-requires
coalesce-requires c = grind (arith, common_steps)

pub returns-in-Sum : goal.returns-in-Sum
returns-in-Sum c = grind (arith, common_steps)

pub aggregate-requires-in-Avg : goal.aggregate-requires-in-Avg
aggregate-requires-in-Avg c = grind (arith, common_steps)

pub returns-in-Coalesce : goal.returns-in-Coalesce
returns-in-Coalesce c = grind (arith, common_steps)

pub returns-in-Cast : goal.returns-in-Cast
returns-in-Cast c = grind (arith, common_steps)

pub null_if-requires : goal.null_if-requires
null_if-requires c = grind (arith, common_steps)

pub returns-in-NullIf : goal.returns-in-NullIf
returns-in-NullIf c = grind (arith, common_steps)

pub count-requires : goal.count-requires
count-requires c = grind (arith, common_steps)

pub returns-in-Count : goal.returns-in-Count
returns-in-Count c = grind (arith, common_steps)

pub aggregate-requires-in-Max : goal.aggregate-requires-in-Max
aggregate-requires-in-Max c = grind (arith, common_steps)

pub returns-in-Case : goal.returns-in-Case
returns-in-Case c = grind (arith, common_steps)

pub returns-in-Avg : goal.returns-in-Avg
returns-in-Avg c = grind (arith, common_steps)
