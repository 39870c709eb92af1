use Rattle.std.proofs.Common.{arith}
use Rattle.std.proofs.lemmas.Grind.{common_steps}
use Rattle.sql_names.proofs.order.order_keys.Goals as goal

pub returns : goal.returns
returns c = grind (arith, common_steps)

pub loop-sort-preserved : goal.loop-sort-preserved
loop-sort-preserved c = grind (arith, common_steps)
