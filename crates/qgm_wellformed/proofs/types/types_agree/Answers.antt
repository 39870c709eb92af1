use Rattle.std.proofs.Common.{arith}
use Rattle.std.proofs.lemmas.Grind.{common_steps}
use Rattle.qgm_wellformed.proofs.types.types_agree.Goals as goal

pub returns-else-head_fits : goal.returns-else-head_fits
returns-else-head_fits c = grind (arith, common_steps)

pub returns-then-head_fits : goal.returns-then-head_fits
returns-then-head_fits c = grind (arith, common_steps)
