use Rattle.std.proofs.Common.{arith}
use Rattle.std.proofs.lemmas.Grind.{common_steps}
use Rattle.qgm_build.proofs.whole.lay_wanted.Goals as goal

pub returns-else-is_wanted : goal.returns-else-is_wanted
returns-else-is_wanted c = grind (arith, common_steps)

pub returns-in_ok-lay_table : goal.returns-in_ok-lay_table
returns-in_ok-lay_table c = grind (arith, common_steps)
