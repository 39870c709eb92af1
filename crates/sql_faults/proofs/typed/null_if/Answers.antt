use Rattle.std.proofs.Common.{arith}
use Rattle.std.proofs.lemmas.Grind.{common_steps}
use Rattle.sql_faults.proofs.typed.null_if.Goals as goal

pub returns-clause-sort : goal.returns-clause-sort
returns-clause-sort c = grind (arith, common_steps)
