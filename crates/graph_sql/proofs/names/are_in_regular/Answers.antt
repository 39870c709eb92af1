use Rattle.std.proofs.Common.{arith}
use Rattle.std.proofs.lemmas.Grind.{common_steps}
use Rattle.graph_sql.proofs.names.are_in_regular.Goals as goal

pub loop-c-preserved : goal.loop-c-preserved
loop-c-preserved c = grind (arith, common_steps)

pub returns-then-not-is_in_regular : goal.returns-then-not-is_in_regular
returns-then-not-is_in_regular c = grind (arith, common_steps)

pub returns : goal.returns
returns c = grind (arith, common_steps)
