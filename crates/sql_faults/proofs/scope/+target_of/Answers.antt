use Rattle.std.proofs.Common.{arith}
use Rattle.std.proofs.lemmas.Grind.{common_steps}
use Rattle.sql_faults.proofs.scope.+target_of.Goals as goal

pub returns-in-None-clause-barred : goal.returns-in-None-clause-barred
returns-in-None-clause-barred t c = grind (arith, common_steps)

pub returns-in-None-found_in-clause-barred : goal.returns-in-None-found_in-clause-barred
returns-in-None-found_in-clause-barred t c = grind (arith, common_steps)

pub returns-in-Some-found_in-clause-barred : goal.returns-in-Some-found_in-clause-barred
returns-in-Some-found_in-clause-barred t c = grind (arith, common_steps)
