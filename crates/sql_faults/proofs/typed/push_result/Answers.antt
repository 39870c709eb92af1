use Rattle.std.proofs.Common.{arith}
use Rattle.std.proofs.lemmas.Grind.{common_steps}
use Rattle.sql_faults.proofs.typed.push_result.Goals as goal

pub returns-in-None-clause-fault : goal.returns-in-None-clause-fault
returns-in-None-clause-fault c = grind (arith, common_steps)

pub returns-in-None-clause-sorts : goal.returns-in-None-clause-sorts
returns-in-None-clause-sorts c = grind (arith, common_steps)

pub returns-in_ok-push-in-Some-clause-fault : goal.returns-in_ok-push-in-Some-clause-fault
returns-in_ok-push-in-Some-clause-fault c = grind (arith, common_steps)

pub returns-in_ok-push-in-Some-clause-sorts : goal.returns-in_ok-push-in-Some-clause-sorts
returns-in_ok-push-in-Some-clause-sorts c = grind (arith, common_steps)
