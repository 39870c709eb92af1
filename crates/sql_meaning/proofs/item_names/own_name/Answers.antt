use Rattle.std.proofs.Common.{arith}
use Rattle.std.proofs.lemmas.Grind.{common_steps}
use Rattle.sql_meaning.proofs.item_names.own_name.Goals as goal

pub returns-in_ok-copy-in-Column : goal.returns-in_ok-copy-in-Column
returns-in_ok-copy-in-Column c = grind (arith, common_steps)

pub returns-in-Add : goal.returns-in-Add
returns-in-Add c = grind (arith, common_steps)
