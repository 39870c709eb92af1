use Rattle.std.proofs.Common.{arith}
use Rattle.std.proofs.lemmas.Grind.{common_steps}
use Rattle.sql_faults.proofs.types.first_known.Goals as goal

pub loop-sort-preserved : goal.loop-sort-preserved
loop-sort-preserved c = grind (arith, common_steps)
