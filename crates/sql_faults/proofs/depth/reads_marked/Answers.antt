use Rattle.std.proofs.Common.{arith}
use Rattle.std.proofs.lemmas.Grind.{common_steps}
use Rattle.sql_faults.proofs.depth.reads_marked.Goals as goal

pub loop-view-preserved : goal.loop-view-preserved
loop-view-preserved c = grind (arith, common_steps)

pub returns-in-empty : goal.returns-in-empty
returns-in-empty c = grind (arith, common_steps)

pub returns-then-contains : goal.returns-then-contains
returns-then-contains c = grind (arith, common_steps)
