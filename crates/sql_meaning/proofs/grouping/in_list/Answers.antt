use Rattle.std.proofs.Common.{arith}
use Rattle.std.proofs.lemmas.Grind.{common_steps}
use Rattle.sql_meaning.proofs.grouping.in_list.Goals as goal

pub returns-in-All : goal.returns-in-All
returns-in-All c = grind (arith, common_steps)
