use Rattle.std.proofs.Common.{arith}
use Rattle.std.proofs.lemmas.Grind.{common_steps}
use Rattle.sql_faults.proofs.lists.+push_star.Goals as goal

pub returns-in-Grouped-clause-columns : goal.returns-in-Grouped-clause-columns
returns-in-Grouped-clause-columns t c = grind (arith, common_steps)

pub returns-in-Grouped-clause-fault : goal.returns-in-Grouped-clause-fault
returns-in-Grouped-clause-fault t c = grind (arith, common_steps)
