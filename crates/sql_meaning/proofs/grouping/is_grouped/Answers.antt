use Rattle.std.proofs.Common.{arith}
use Rattle.std.proofs.lemmas.Grind.{common_steps}
use Rattle.sql_meaning.proofs.grouping.is_grouped.Goals as goal

pub returns-in-Given : goal.returns-in-Given
returns-in-Given c = grind (arith, common_steps)

pub returns-in-Absent : goal.returns-in-Absent
returns-in-Absent c = grind (arith, common_steps)

pub returns-in-len1-up : goal.returns-in-len1-up
returns-in-len1-up c = grind (arith, common_steps)
