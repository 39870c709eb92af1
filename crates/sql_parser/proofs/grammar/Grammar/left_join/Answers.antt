use Rattle.std.proofs.Common.{arith}
use Rattle.std.proofs.lemmas.Grind.{common_steps}
use Rattle.sql_parser.proofs.grammar.Grammar.left_join.Goals as goal

pub returns : goal.returns
returns c = grind (arith, common_steps)

pub returns-then-without_sub : goal.returns-then-without_sub
returns-then-without_sub c = grind (arith, common_steps)
