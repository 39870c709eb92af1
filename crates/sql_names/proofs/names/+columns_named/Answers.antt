use Rattle.std.proofs.Common.{arith}
use Rattle.std.proofs.lemmas.Grind.{common_steps}
use Rattle.sql_names.proofs.names.+columns_named.Goals as goal

pub returns-in-None : goal.returns-in-None
returns-in-None t c = grind (arith, common_steps)
