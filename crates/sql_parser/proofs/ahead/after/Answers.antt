use Rattle.std.proofs.Common.{arith}
use Rattle.std.proofs.lemmas.Grind.{common_steps}
use Rattle.sql_parser.proofs.ahead.after.Goals as goal

pub tokens-preserved : goal.tokens-preserved
tokens-preserved c = grind (arith, common_steps)

pub returns-then-open-eq0 : goal.returns-then-open-eq0
returns-then-open-eq0 c = grind (arith, common_steps)
