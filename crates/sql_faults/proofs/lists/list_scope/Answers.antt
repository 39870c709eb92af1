use Rattle.std.proofs.Common.{arith}
use Rattle.std.proofs.lemmas.Grind.{common_steps}
use Rattle.sql_faults.proofs.lists.list_scope.Goals as goal

pub returns-else-is_grouped : goal.returns-else-is_grouped
returns-else-is_grouped c = grind (arith, common_steps)

pub returns-then-is_grouped : goal.returns-then-is_grouped
returns-then-is_grouped c = grind (arith, common_steps)
