use Rattle.std.proofs.Common.{arith}
use Rattle.std.proofs.lemmas.Grind.{common_steps}
use Rattle.sql_catalog.proofs.descriptor.in_primary.Goals as goal

pub returns-then-contains : goal.returns-then-contains
returns-then-contains c = grind (arith, common_steps)

pub loop-key-preserved : goal.loop-key-preserved
loop-key-preserved c = grind (arith, common_steps)
