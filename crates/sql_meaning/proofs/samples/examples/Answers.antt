use Rattle.std.proofs.Common.{refl}
use Rattle.row_bag.specs.Sorted.{insert_row, sorted_rows}
use Rattle.sql_meaning.proofs.samples.examples.Goals as goal

pub returns-clause-cells : goal.returns-clause-cells
returns-clause-cells c = record { null = refl; case = refl; case_of_error = refl; simple_case = refl; coalesce = refl; null_if = refl; quotient = refl; overflow = refl; error_beside_null = refl }

pub returns-clause-conditions : goal.returns-clause-conditions
returns-clause-conditions c = record { unknown = refl; not_unknown = refl; unknown_or_true = refl; null = refl; error_beside_false = refl; error_alone = refl; error_beside_true = refl; unused = refl }

pub returns-clause-subqueries : goal.returns-clause-subqueries
returns-clause-subqueries c = record { not_in_with_null = refl; in_with_null = refl; scalar_of_two = refl; scalar_of_one = refl; exists = refl; all_over_nothing = refl; any_over_nothing = refl; count_bug = refl }

pub returns-clause-joins : goal.returns-clause-joins
returns-clause-joins c = record { inner = refl; left = refl; left_of_no_partner = refl; left_of_nothing = refl; left_of_error = refl; left_of_rows_at_no = refl; column_list = refl; range_of_outer = refl; views = refl }

pub returns-clause-groups : goal.returns-clause-groups
returns-clause-groups c = record { aggregates_over_nothing = refl; groups_over_nothing = refl; groups = refl; having = refl; seen_from_within = refl; counts = refl; least_and_mean = refl; exact_total = refl; total_too_large = refl; failed_key = refl; argument_error = refl; argument_error_unused = refl; rejected = refl; failed_and_rejected = refl; failed = refl }

pub returns-clause-sets : goal.returns-clause-sets
returns-clause-sets c = record { distinct_at_greatest = refl; except_all = refl; except = refl; intersect = refl; union = refl; distinct = refl; union_all = refl; rejected = refl; error_in_operand = refl }

pub returns-clause-answers : goal.returns-clause-answers
unfolding sorted_rows insert_row
returns-clause-answers c = record { descending = refl; unordered = refl; error = refl }
