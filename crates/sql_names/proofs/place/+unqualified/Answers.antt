use Rattle.std.proofs.Common.{arith}
use Rattle.std.proofs.lemmas.Grind.{common_steps}
use Rattle.sql_names.proofs.place.+unqualified.Goals as goal

pub returns-in_ok-unqualified-in-None : goal.returns-in_ok-unqualified-in-None
returns-in_ok-unqualified-in-None t c = grind (arith, common_steps)
