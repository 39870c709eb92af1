use Rattle.std.proofs.Common.{arith}
use Rattle.std.proofs.lemmas.Grind.{common_steps}
use Rattle.sql_parser.proofs.elements.constraints.Goals as goal

pub constraints-preserved : goal.constraints-preserved
constraints-preserved c = grind (arith, common_steps)
