use Rattle.std.proofs.Common.{arith}
use Rattle.std.proofs.lemmas.Grind.{common_steps}
use Rattle.qgm_check.proofs.check.first_fault.Goals as goal

pub loop-clause-preserved : goal.loop-clause-preserved
loop-clause-preserved c = grind (arith, common_steps)

pub returns-in-Some : goal.returns-in-Some
returns-in-Some c = grind (arith, common_steps)
