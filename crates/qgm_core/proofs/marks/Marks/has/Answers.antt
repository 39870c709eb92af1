use Rattle.std.proofs.Common.{arith}
use Rattle.std.proofs.lemmas.Grind.{common_steps}
use Rattle.qgm_core.proofs.marks.Marks.has.Goals as goal

pub returns-else-x-len : goal.returns-else-x-len
returns-else-x-len c = grind (arith, common_steps)
