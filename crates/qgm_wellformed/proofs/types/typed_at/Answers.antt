use Rattle.std.proofs.Common.{arith}
use Rattle.std.proofs.lemmas.Grind.{common_steps}
use Rattle.qgm_wellformed.proofs.types.typed_at.Goals as goal

pub loop-typed-preserved : goal.loop-typed-preserved
loop-typed-preserved c = grind (arith, common_steps)
