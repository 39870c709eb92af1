use Rattle.std.proofs.Common.{arith}
use Rattle.std.proofs.lemmas.Grind.{common_steps}
use Rattle.qgm_core.proofs.free.place_for.Goals as goal

pub returns-then-q-out-clause-not_less : goal.returns-then-q-out-clause-not_less
returns-then-q-out-clause-not_less c = grind (arith, common_steps)
