use Rattle.std.proofs.Common.{arith}
use Rattle.std.proofs.lemmas.Grind.{common_steps}
use Rattle.sql_parser.proofs.table.close_join.Goals as goal

pub returns : goal.returns
returns c = grind (arith, common_steps)

pub returns-in-Some-RightParen-default : goal.returns-in-Some-RightParen-default
returns-in-Some-RightParen-default c = grind (arith, common_steps)

pub returns-then-is_tprim : goal.returns-then-is_tprim
returns-then-is_tprim c = grind (arith, common_steps)
