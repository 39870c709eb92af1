use Rattle.std.proofs.Common.{arith}
use Rattle.std.proofs.lemmas.Grind.{common_steps}
use Rattle.sql_faults.proofs.sources.named.Goals as goal

pub returns-clause-fault : goal.returns-clause-fault
returns-clause-fault c = grind (arith, common_steps)

pub returns-clause-tables : goal.returns-clause-tables
returns-clause-tables c = grind (arith, common_steps)
