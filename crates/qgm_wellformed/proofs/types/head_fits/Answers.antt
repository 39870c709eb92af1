use Rattle.std.proofs.Common.{arith}
use Rattle.std.proofs.lemmas.Grind.{common_steps}
use Rattle.qgm_wellformed.proofs.types.head_fits.Goals as goal

pub returns : goal.returns
returns c = grind (arith, common_steps)

pub loop-x-preserved : goal.loop-x-preserved
loop-x-preserved c = grind (arith, common_steps)

pub returns-then-not-is_known : goal.returns-then-not-is_known
returns-then-not-is_known c = grind (arith, common_steps)
