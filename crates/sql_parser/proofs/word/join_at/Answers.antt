use Rattle.std.proofs.Common.{arith}
use Rattle.std.proofs.lemmas.Grind.{common_steps}
use Rattle.sql_parser.proofs.word.join_at.Goals as goal

pub returns-in_default-first : goal.returns-in_default-first
returns-in_default-first c = grind (arith, common_steps)

pub returns-in_default-first-3 : goal.returns-in_default-first-3
returns-in_default-first-3 c = grind (arith, common_steps)
