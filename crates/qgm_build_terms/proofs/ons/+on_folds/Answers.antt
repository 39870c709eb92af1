use Rattle.std.proofs.Common.{arith}
use Rattle.std.proofs.lemmas.Grind.{common_steps}
use Rattle.qgm_build_terms.proofs.ons.+on_folds.Goals as goal

pub returns-in-Joined : goal.returns-in-Joined
returns-in-Joined t c = grind (arith, common_steps)

pub returns-in-Crossed : goal.returns-in-Crossed
returns-in-Crossed t c = grind (arith, common_steps)
