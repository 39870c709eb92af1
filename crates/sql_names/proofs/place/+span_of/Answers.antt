use Rattle.std.proofs.Common.{arith}
use Rattle.std.proofs.lemmas.Grind.{common_steps}
use Rattle.sql_names.proofs.place.+span_of.Goals as goal

pub returns-in_ok-span_of-in-None : goal.returns-in_ok-span_of-in-None
returns-in_ok-span_of-in-None t c = grind (arith, common_steps)
