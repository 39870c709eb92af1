use Rattle.std.proofs.Common.{arith}
use Rattle.std.proofs.lemmas.Grind.{common_steps}
use Rattle.sql_parser.proofs.grammar.Grammar.test.Goals as goal

pub returns-else-opens_cond : goal.returns-else-opens_cond
returns-else-opens_cond c = grind (arith, common_steps)

pub returns-then-opens_cond : goal.returns-then-opens_cond
returns-then-opens_cond c = grind (arith, common_steps)
