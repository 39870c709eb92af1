use Rattle.std.proofs.Common.{arith}
use Rattle.std.proofs.lemmas.Grind.{common_steps}
use Rattle.sql_faults.proofs.checking.check_query.Goals as goal

pub returns-clause-ambiguous : goal.returns-clause-ambiguous
returns-clause-ambiguous c = grind (arith, common_steps)

pub returns-clause-valid : goal.returns-clause-valid
returns-clause-valid c = grind (arith, common_steps)

pub returns-clause-unknown_column : goal.returns-clause-unknown_column
returns-clause-unknown_column c = grind (arith, common_steps)

pub returns-clause-duplicate_range : goal.returns-clause-duplicate_range
returns-clause-duplicate_range c = grind (arith, common_steps)

pub returns-clause-aggregate_place : goal.returns-clause-aggregate_place
returns-clause-aggregate_place c = grind (arith, common_steps)

pub returns-clause-type_mismatch : goal.returns-clause-type_mismatch
returns-clause-type_mismatch c = grind (arith, common_steps)

pub returns-clause-order_column : goal.returns-clause-order_column
returns-clause-order_column c = grind (arith, common_steps)

pub returns-clause-unknown_table : goal.returns-clause-unknown_table
returns-clause-unknown_table c = grind (arith, common_steps)

pub returns-clause-grouping : goal.returns-clause-grouping
returns-clause-grouping c = grind (arith, common_steps)

pub returns-clause-degree : goal.returns-clause-degree
returns-clause-degree c = grind (arith, common_steps)

pub returns-clause-columns : goal.returns-clause-columns
returns-clause-columns c = grind (arith, common_steps)
