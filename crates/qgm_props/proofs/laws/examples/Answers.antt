use Rattle.std.proofs.Common.{refl}
use Rattle.qgm_props.proofs.laws.examples.Goals as goal

pub returns-clause-expressions : goal.returns-clause-expressions
returns-clause-expressions c = record { literal = refl; null = refl; column = refl; no_column = refl; no_quantifier = refl; joined_texts = refl; joined_risky = refl; divided = refl; divided_twice = refl; by_zero = refl; by_minus_one = refl; by_column = refl; by_null = refl; risky_divided = refl; added = refl; minus = refl; chosen = refl; chosen_condition = refl; chosen_result = refl; chosen_else = refl; scalar = refl; scalar_of_several = refl; text_literal = refl; null_of_text = refl; largest = refl; lowest = refl; too_large = refl; too_low = refl; first_column = refl; column_beside = refl; column_of_count = refl; column_of_failing = refl; joined_nulls = refl; joined_column = refl; joined_twice = refl; joined_risky_left = refl; null_divided = refl; divided_by_one = refl; subtracted = refl; multiplied = refl; multiplied_by_zero = refl; subtracted_column = refl; added_null = refl; minus_null = refl; chosen_columns = refl; chosen_else_only = refl; chosen_of_two = refl; chosen_second = refl }

pub returns-clause-conditions : goal.returns-clause-conditions
returns-clause-conditions c = record { compared = refl; risky_compared = refl; joined = refl; joined_risky = refl; exists = refl; for_all = refl; exists_risky = refl; exists_over_errors = refl; for_all_over_errors = refl; constant = refl; either = refl; either_risky = refl; not_risky = refl; exists_any = refl; for_all_null = refl; for_all_risky = refl }

pub returns-clause-aggregates : goal.returns-clause-aggregates
returns-clause-aggregates c = record { rows = refl; counted = refl; averaged = refl; least = refl; greatest = refl; counted_risky = refl; summed = refl; summed_of_one = refl; single_of_several = refl; single_of_one = refl; single_risky = refl; rows_of_one = refl; counted_once = refl; averaged_risky = refl; least_risky = refl; greatest_risky = refl; summed_once = refl; summed_null = refl; single_literal = refl; single_null = refl; single_text = refl }

pub returns-clause-boxes : goal.returns-clause-boxes
returns-clause-boxes c = record { base_clean = refl; base_column = refl; no_column = refl; no_box = refl; select_column = refl; select_failing = refl; select_clean = refl; select_over_failing = refl; select_beside_failing = refl; group_clean = refl; group_risky_key = refl; group_risky_argument = refl; group_risky_column = refl; group_failing_count = refl; union_clean = refl; union_failing = refl; union_column = refl; union_risky = refl; intersect_clean = refl; intersect_column = refl; intersect_risky = refl; except_clean = refl; except_failing = refl; except_column = refl; join_clean = refl; join_failing = refl; join_column = refl; base_first_column = refl; base_second_column = refl; base_key_column = refl; base_place_zero = refl; base_keyed_clean = refl; base_below_clean = refl; base_without_keys_clean = refl; select_bare = refl; select_tested = refl; select_failing_second = refl; select_of_column = refl; select_of_risky = refl; group_without_keys = refl; group_of_two_keys = refl; group_of_failing = refl; group_key_column = refl; group_count_column = refl; group_least_column = refl; group_sum_column = refl; union_all_clean = refl; union_of_columns_clean = refl; union_all_of_columns_clean = refl; union_column_once = refl; union_column_of_column = refl; union_column_failing = refl; union_all_risky = refl; intersect_all_clean = refl; except_once_clean = refl; except_risky = refl; intersect_once_column = refl; except_all_column = refl; except_once_column = refl; intersect_failing_column = refl; join_bare = refl; join_tested = refl; join_constant = refl; join_left_column = refl; join_failing_left_column = refl; join_right_column = refl; join_risky_column = refl; join_no_column = refl }

pub returns-clause-rows : goal.returns-clause-rows
returns-clause-rows c = record { base = refl; group = refl; group_at_most = refl; group_by_key = refl; nothing = refl; over_one = refl; over_few = refl; over_few_at_most = refl; condition = refl; condition_at_most = refl; over_one_and_many = refl; beside_many = refl; set_of_ones = refl; join = refl; join_of_few = refl; join_of_few_at_most = refl; join_of_many = refl; group_of_group = refl; group_of_one = refl; group_of_few = refl; group_of_one_by_key = refl; over_ones = refl; over_one_and_few = refl; tested_nothing = refl; tested_nothing_exactly = refl; join_of_ones = refl; join_of_group = refl; join_of_bare = refl; join_of_one_at_most = refl; join_of_few_and_one = refl; join_of_ones_at_most = refl; join_of_many_left = refl }

pub returns-clause-nulls : goal.returns-clause-nulls
returns-clause-nulls c = record { declared = refl; not_declared = refl; key = refl; literal = refl; null = refl; column = refl; other_column = refl; added = refl; group_key = refl; rows = refl; counted = refl; least = refl; single = refl; left = refl; right = refl; left_nullable = refl; set = refl; declared_first = refl; declared_second = refl; declared_key = refl; number = refl; negative = refl; empty_text = refl; no_number = refl; joined_texts = refl; counted_all = refl; counted_null = refl; column_of_column = refl; column_of_null = refl; summed = refl }

pub returns-clause-keys : goal.returns-clause-keys
returns-clause-keys c = record { base_key = refl; base_more = refl; base_other = refl; base_nullable = refl; base_part = refl; distinct_all = refl; distinct_part = refl; not_distinct = refl; group_keys = refl; group_part = refl; set_all = refl; set_part = refl; set_with_all = refl; select_both = refl; select_left = refl; select_beside = refl; select_computed = refl; join_both = refl; join_right = refl; beside_one = refl; one_row = refl; many_rows = refl; base_second_key = refl; base_pair = refl; base_pair_nullable = refl; distinct_in_order = refl; distinct_one = refl; distinct_computed = refl; group_key = refl; group_more = refl; group_turned = refl; group_count = refl; union_all_columns = refl; intersect_all_columns = refl; except_turned = refl; intersect_with_all = refl; except_with_all = refl; select_one = refl; select_itself = refl; select_distinct = refl; select_of_select = refl; select_of_select_other = refl; select_lacking = refl; join_more = refl; join_itself = refl; join_of_few = refl; join_left = refl; one_row_group = refl; one_row_over_few = refl; one_row_join = refl; one_row_other = refl; groups_rows = refl }

pub returns-clause-scalars : goal.returns-clause-scalars
returns-clause-scalars c = record { of_one_row = refl; of_few = refl; of_null = refl; of_count = refl; of_many = refl; of_failing = refl; of_risky = refl }

pub returns-clause-calm : goal.returns-clause-calm
returns-clause-calm c = record { departments = refl; root_fails = refl; inner_fails = refl; names_risky = refl; owns_risky = refl; open_scalar = refl; closed_scalar = refl; magic_box = refl; magic_risky = refl; magic_open = refl }
