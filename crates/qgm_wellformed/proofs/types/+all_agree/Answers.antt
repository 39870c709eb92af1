use Rattle.std.proofs.Common.{arith}
use Rattle.std.proofs.lemmas.Grind.{common_steps}
use Rattle.qgm_wellformed.proofs.types.+all_agree.Goals as goal

pub returns-then-agree : goal.returns-then-agree
returns-then-agree t c = grind (arith, common_steps)

pub returns-in_default-wanted : goal.returns-in_default-wanted
returns-in_default-wanted t c = grind (arith, common_steps)
