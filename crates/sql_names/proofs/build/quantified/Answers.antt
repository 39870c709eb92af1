use Rattle.std.proofs.Common.{arith}
use Rattle.std.proofs.lemmas.Grind.{common_steps}
use Rattle.sql_names.proofs.build.quantified.Goals as goal

pub returns : goal.returns
returns c = grind (arith, common_steps)
