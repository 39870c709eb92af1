use Rattle.std.proofs.Common.{arith}
use Rattle.std.proofs.lemmas.Grind.{common_steps}
use Rattle.sql_names.proofs.names.push_item_names.Goals as goal

pub returns-in_ok-item_name-in-Value : goal.returns-in_ok-item_name-in-Value
returns-in_ok-item_name-in-Value c = grind (arith, common_steps)

pub returns-in_ok-range_columns-in-AllOf : goal.returns-in_ok-range_columns-in-AllOf
returns-in_ok-range_columns-in-AllOf c = grind (arith, common_steps)
