use Rattle.std.proofs.Common.{arith}
use Rattle.std.proofs.lemmas.Grind.{common_steps}
use Rattle.sql_catalog.proofs.faults.one_is_bad.Goals as goal

pub loop-key-preserved : goal.loop-key-preserved
loop-key-preserved c = grind (arith, common_steps)

pub returns-then-branch : goal.returns-then-branch
returns-then-branch c = grind (arith, common_steps)
