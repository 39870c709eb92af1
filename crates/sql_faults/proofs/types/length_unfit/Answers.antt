use Rattle.std.proofs.Common.{arith}
use Rattle.std.proofs.lemmas.Grind.{common_steps}
use Rattle.sql_faults.proofs.types.length_unfit.Goals as goal

pub returns-in-Varchar : goal.returns-in-Varchar
returns-in-Varchar c = grind (arith, common_steps)
