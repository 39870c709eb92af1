use Rattle.std.proofs.Common.{arith}
use Rattle.std.proofs.lemmas.Grind.{common_steps}
use Rattle.graph_sql.proofs.selects.put_leading_ranges.Goals as goal

pub loop-q-preserved : goal.loop-q-preserved
loop-q-preserved c = grind (arith, common_steps)
