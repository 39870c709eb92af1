use Rattle.std.proofs.Common.{arith}
use Rattle.std.proofs.lemmas.Grind.{common_steps}
use Rattle.sql_parser.proofs.grammar.Grammar.join_after.Goals as goal

pub returns-in_ok-right-in-Cross : goal.returns-in_ok-right-in-Cross
returns-in_ok-right-in-Cross c = grind (arith, common_steps)

pub returns-in-Left : goal.returns-in-Left
returns-in-Left c = grind (arith, common_steps)

pub returns-in-Inner : goal.returns-in-Inner
returns-in-Inner c = grind (arith, common_steps)
