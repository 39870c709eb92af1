-- What is inferred of small graphs: for each sentence cases to which it applies, and cases that just miss.
use Rattle.std.specs.Prelude.{ℕ, zero, suc, pos, negsuc, codes, ◌≡◌, Bool, true, false, List, [], ◌∷◌}
use Rattle.sql_value.specs.declared.order_key.SqlType.TheVariants.{Integer}
use Rattle.qgm_core.specs.declared.node.Node.{Node}
use Rattle.qgm_core.specs.declared.owned.OwnedQuant.{OwnedQuant}
use Rattle.qgm_core.specs.declared.kinds.QuantKind.TheVariants.{E, S}
use Rattle.qgm_core.specs.declared.kinds.Distinct.TheVariants.{Enforce}
use Rattle.qgm_core.specs.declared.kinds.Role.TheVariants.{Magic}
use Rattle.qgm_core.specs.declared.kinds.BoxKind.TheVariants.{Base, Select, Group, SetOp, OuterJoin}
use Rattle.qgm_core.specs.declared.kinds.SetOperator.{SetOperator}
use Rattle.qgm_core.specs.declared.kinds.SetOperator.TheVariants.{UnionAll, Union, IntersectAll, Intersect, ExceptAll, Except}
use Rattle.qgm_terms.specs.Terms.{Term, int, text, null_int, null_text, col, both, minus_of, choose, count_all, fold, single, count, sum, avg, least, greatest, each_once, all_of, no_arm, arm, Cond, always, compare, equal, below, is_null, and, or, not}
use Rattle.qgm_terms.specs.Terms as terms
use Rattle.qgm_terms.specs.declared.tree.Op.TheVariants.{Add, Sub, Mul, Div, Cat}
use Rattle.qgm_meaning.specs.Examples.{box, f, t}
use Rattle.qgm_props.specs.Calm.{calm}
use Rattle.qgm_props.specs.Inferred.{Fact, Facts, at_most_one, clean, error_free, exactly_one, inferred_once, not_null, says}
use Rattle.qgm_props.specs.Keys.{holds_key}

-- nothing is known, and what is inferred in so many rounds
abbrev unknown : Facts
unknown = record { clean = λ b. false; error_free = λ b k. false; not_null = λ b k. false; at_most_one = λ b. false; exactly_one = λ b. false }

abbrev after : ℕ → List Node → Facts
after zero boxes = unknown
after (suc rounds) boxes = inferred_once boxes (after rounds boxes)

-- in six rounds, more than a change takes to come up through these graphs
abbrev said : List Node → Fact → Bool
said boxes fact = says (after 6 boxes) fact

abbrev i : ℕ → Term
i k = int (pos k)

-- a cell that may fail by the sentences, though it is 2
abbrev risky : Term
risky = both Add (i 1) (i 1)

abbrev e : ℕ → ℕ → OwnedQuant
e q b = record { id = q; kind = E; over = b }

abbrev s : ℕ → ℕ → OwnedQuant
s q b = record { id = q; kind = S; over = b }

-- a base of two columns with these keys and not-null columns
abbrev base : ℕ → List (List ℕ) → List ℕ → Node
base b keys filled = box b (Base (record { name = codes "T"; types = Integer ∷ Integer ∷ []; keys = keys; not_null = filled })) [] [] []

abbrev select : ℕ → List Cond → List Term → List OwnedQuant → Node
select b conds head quants = box b Select conds head quants

abbrev distinct : ℕ → List Term → List OwnedQuant → Node
distinct b head quants = record (box b Select [] head quants) { parts = record (box b Select [] head quants).parts { distinct = Enforce } }

-- one row of a number
abbrev one : ℕ → Node
one b = select b [] (i 7 ∷ []) []

-- what the quantifiers of box 1 range over: a count, a select that isn't clean, and a base
abbrev behind : List Node
behind =
    box 2 (Group 0) [] (count_all ∷ []) (f 20 9 ∷ []) ∷ select 3 (compare equal risky (i 1) ∷ []) (i 1 ∷ []) (f 30 9 ∷ []) ∷ t 9 ∷ []

abbrev own : List OwnedQuant
own = f 1 9 ∷ e 2 9 ∷ s 3 9 ∷ s 4 2 ∷ e 5 3 ∷ []

-- the cell is error-free as a column of box 1, and the condition as one of box 1
abbrev cell : Term → Bool
cell x = said (select 1 [] (x ∷ []) own ∷ behind) (error_free 1 1)

abbrev tests : Cond → Bool
tests p = said (select 1 (p ∷ []) [] own ∷ behind) (clean 1)

pub record OfExpressions : Type 0 where
  pub literal : cell (i 1) ≡ true
  pub null : cell null_int ≡ true
  pub column : cell (col 1 2) ≡ true
  -- a third column of two, and a quantifier that nobody owns
  pub no_column : cell (col 1 3) ≡ false
  pub no_quantifier : cell (col 8 1) ≡ false
  pub joined_texts : cell (both Cat (text (codes "a")) null_text) ≡ true
  pub joined_risky : cell (both Cat (text (codes "a")) risky) ≡ false
  pub divided : cell (both Div (col 1 1) (i 2)) ≡ true
  pub divided_twice : cell (both Div (both Div (col 1 1) (i 2)) (int (negsuc 1))) ≡ true
  pub by_zero : cell (both Div (col 1 1) (i 0)) ≡ false
  pub by_minus_one : cell (both Div (col 1 1) (int (negsuc 0))) ≡ false
  pub by_column : cell (both Div (i 1) (col 1 1)) ≡ false
  pub by_null : cell (both Div (i 1) null_int) ≡ false
  pub risky_divided : cell (both Div risky (i 2)) ≡ false
  pub added : cell (both Add (i 1) (i 1)) ≡ false
  pub minus : cell (minus_of (i 1)) ≡ false
  pub chosen : cell (choose (arm (is_null (col 1 1)) (i 1) no_arm) null_int) ≡ true
  pub chosen_condition : cell (choose (arm (is_null risky) (i 1) no_arm) null_int) ≡ false
  pub chosen_result : cell (choose (arm (is_null (col 1 1)) risky no_arm) null_int) ≡ false
  pub chosen_else : cell (choose (arm (is_null (col 1 1)) (i 1) no_arm) risky) ≡ false
  -- of a group without keys, and of a base
  pub scalar : cell (terms.scalar 4) ≡ true
  pub scalar_of_several : cell (terms.scalar 3) ≡ false
  -- literals and nulls, up to the range of integers
  pub text_literal : cell (text (codes "a")) ≡ true
  pub null_of_text : cell null_text ≡ true
  pub largest : cell (int (pos 9223372036854775807)) ≡ true
  pub lowest : cell (int (negsuc 9223372036854775807)) ≡ true
  pub too_large : cell (int (pos 9223372036854775808)) ≡ false
  pub too_low : cell (int (negsuc 9223372036854775808)) ≡ false
  pub first_column : cell (col 1 1) ≡ true
  pub column_beside : cell (col 2 2) ≡ true
  pub column_of_count : cell (col 4 1) ≡ true
  -- of a box that isn't clean
  pub column_of_failing : cell (col 5 1) ≡ true
  pub joined_nulls : cell (both Cat null_text null_text) ≡ true
  pub joined_column : cell (both Cat (col 1 1) (text (codes "a"))) ≡ true
  pub joined_twice : cell (both Cat (both Cat (col 1 1) (col 1 2)) (col 2 1)) ≡ true
  pub joined_risky_left : cell (both Cat risky (text (codes "a"))) ≡ false
  pub null_divided : cell (both Div null_int (i 2)) ≡ true
  pub divided_by_one : cell (both Div (col 1 2) (i 1)) ≡ true
  -- other arithmetic isn't, whatever the operands
  pub subtracted : cell (both Sub (i 1) (i 1)) ≡ false
  pub multiplied : cell (both Mul (i 1) (i 1)) ≡ false
  pub multiplied_by_zero : cell (both Mul (col 1 1) (i 0)) ≡ false
  pub subtracted_column : cell (both Sub (col 1 1) (i 0)) ≡ false
  pub added_null : cell (both Add null_int null_int) ≡ false
  pub minus_null : cell (minus_of null_int) ≡ false
  pub chosen_columns : cell (choose (arm (is_null (col 1 1)) (col 1 2) no_arm) (col 1 1)) ≡ true
  pub chosen_else_only : cell (choose no_arm (i 1)) ≡ true
  pub chosen_of_two : cell (choose (arm (is_null (col 1 1)) (i 1) (arm (is_null (col 1 2)) (i 2) no_arm)) (i 3)) ≡ true
  pub chosen_second : cell (choose (arm (is_null (col 1 1)) (i 1) (arm (is_null (col 1 2)) risky no_arm)) (i 3)) ≡ false

pub record OfConditions : Type 0 where
  pub compared : tests (compare equal (col 1 1) (i 1)) ≡ true
  pub risky_compared : tests (compare equal (col 1 1) risky) ≡ false
  pub joined : tests (and (not (is_null (col 1 1))) (compare below (col 1 2) null_int)) ≡ true
  pub joined_risky : tests (and (compare equal risky (i 1)) (is_null (col 1 1))) ≡ false
  pub exists : tests (terms.some 2 (compare equal (col 2 1) (col 1 1))) ≡ true
  pub for_all : tests (terms.every 2 (compare equal (col 2 1) (col 1 1))) ≡ true
  pub exists_risky : tests (terms.some 2 (compare equal (col 2 1) risky)) ≡ false
  -- over a box that isn't clean
  pub exists_over_errors : tests (terms.some 5 always) ≡ false
  pub for_all_over_errors : tests (terms.every 5 always) ≡ false
  pub constant : tests always ≡ true
  pub either : tests (or (is_null (col 1 1)) (compare equal (col 1 2) (i 1))) ≡ true
  pub either_risky : tests (or (is_null (col 1 1)) (is_null risky)) ≡ false
  pub not_risky : tests (not (is_null risky)) ≡ false
  pub exists_any : tests (terms.some 2 always) ≡ true
  pub for_all_null : tests (terms.every 2 (is_null (col 2 2))) ≡ true
  pub for_all_risky : tests (terms.every 2 (is_null risky)) ≡ false

-- a group by so many keys over the columns of a select over a base
abbrev groups : ℕ → List Term → List Term → List Node
groups k head cells = box 1 (Group k) [] head (f 1 2 ∷ []) ∷ select 2 [] cells (f 2 9 ∷ []) ∷ t 9 ∷ []

-- an aggregate is error-free over a base, and over one row
abbrev aggregate : Term → Bool
aggregate x = said (box 1 (Group 0) [] (x ∷ []) (f 1 9 ∷ []) ∷ t 9 ∷ []) (error_free 1 1)

abbrev of_one : Term → Bool
of_one x = said (box 1 (Group 0) [] (x ∷ []) (f 1 9 ∷ []) ∷ one 9 ∷ []) (error_free 1 1)

pub record OfAggregates : Type 0 where
  pub rows : aggregate count_all ≡ true
  pub counted : aggregate (fold count all_of (col 1 1)) ≡ true
  pub averaged : aggregate (fold avg each_once (col 1 1)) ≡ true
  pub least : aggregate (fold least all_of (col 1 1)) ≡ true
  pub greatest : aggregate (fold greatest each_once (col 1 2)) ≡ true
  pub counted_risky : aggregate (fold count all_of risky) ≡ false
  pub summed : aggregate (fold sum all_of (col 1 1)) ≡ false
  pub summed_of_one : of_one (fold sum all_of (col 1 1)) ≡ false
  pub single_of_several : aggregate (fold single all_of (col 1 1)) ≡ false
  pub single_of_one : of_one (fold single all_of (col 1 1)) ≡ true
  pub single_risky : of_one (fold single all_of risky) ≡ false
  pub rows_of_one : of_one count_all ≡ true
  pub counted_once : aggregate (fold count each_once (col 1 2)) ≡ true
  pub averaged_risky : aggregate (fold avg all_of risky) ≡ false
  pub least_risky : aggregate (fold terms.least each_once risky) ≡ false
  pub greatest_risky : aggregate (fold terms.greatest all_of risky) ≡ false
  pub summed_once : aggregate (fold sum each_once (col 1 1)) ≡ false
  pub summed_null : of_one (fold sum all_of null_int) ≡ false
  pub single_literal : of_one (fold single all_of (i 1)) ≡ true
  pub single_null : of_one (fold single all_of null_int) ≡ true
  pub single_text : of_one (fold single all_of (text (codes "a"))) ≡ true

-- a set operation on the first columns of a base and of a select with this cell and this condition
abbrev set : SetOperator → Term → List Cond → Fact → Bool
set form x conds fact = said (box 1 (SetOp form (Integer ∷ [])) [] [] (f 1 2 ∷ f 2 3 ∷ []) ∷ select 2 [] (col 3 1 ∷ []) (f 3 9 ∷ []) ∷ select 3 conds (x ∷ []) (f 4 9 ∷ []) ∷ t 9 ∷ []) fact

-- an outer join of a base and a select with these conditions
abbrev joined : List Cond → Fact → Bool
joined conds fact = said (box 1 OuterJoin conds (col 1 1 ∷ col 2 1 ∷ []) (f 1 9 ∷ f 2 2 ∷ []) ∷ select 2 [] (col 3 1 ∷ []) (f 3 9 ∷ []) ∷ t 9 ∷ []) fact

abbrev fails : List Cond
fails = compare equal risky (i 1) ∷ []

pub record OfBoxes : Type 0 where
  pub base_clean : said (t 1 ∷ []) (clean 1) ≡ true
  pub base_column : said (t 1 ∷ []) (error_free 1 2) ≡ true
  pub no_column : said (t 1 ∷ []) (error_free 1 3) ≡ false
  pub no_box : said (t 1 ∷ []) (clean 2) ≡ false
  -- an error-free column of a select that isn't clean, and a risky one of one that is
  pub select_column : said (select 1 fails (col 1 1 ∷ []) (f 1 9 ∷ []) ∷ t 9 ∷ []) (error_free 1 1) ≡ true
  pub select_failing : said (select 1 fails (col 1 1 ∷ []) (f 1 9 ∷ []) ∷ t 9 ∷ []) (clean 1) ≡ false
  pub select_clean : said (select 1 [] (risky ∷ []) (f 1 9 ∷ []) ∷ t 9 ∷ []) (clean 1) ≡ true
  pub select_over_failing : said (select 1 [] [] (f 1 2 ∷ []) ∷ select 2 fails [] [] ∷ []) (clean 1) ≡ false
  -- what an E quantifier ranges over doesn't matter where it isn't named
  pub select_beside_failing : said (select 1 [] [] (e 1 2 ∷ []) ∷ select 2 fails [] [] ∷ []) (clean 1) ≡ true
  pub group_clean : said (groups 1 (col 1 1 ∷ []) (col 2 1 ∷ [])) (clean 1) ≡ true
  pub group_risky_key : said (groups 1 (col 1 1 ∷ []) (risky ∷ [])) (clean 1) ≡ false
  -- of a risky argument: the group is clean, its column isn't error-free
  pub group_risky_argument : said (groups 0 (fold count all_of (col 1 1) ∷ []) (risky ∷ [])) (clean 1) ≡ true
  pub group_risky_column : said (groups 0 (fold count all_of (col 1 1) ∷ []) (risky ∷ [])) (error_free 1 1) ≡ false
  -- a count in a group that isn't clean
  pub group_failing_count : said (groups 1 (col 1 1 ∷ count_all ∷ []) (risky ∷ [])) (error_free 1 2) ≡ false
  pub union_clean : set Union risky [] (clean 1) ≡ true
  pub union_failing : set UnionAll (i 1) fails (clean 1) ≡ false
  pub union_column : set UnionAll (i 1) fails (error_free 1 1) ≡ true
  pub union_risky : set Union risky [] (error_free 1 1) ≡ false
  pub intersect_clean : set Intersect (i 1) [] (clean 1) ≡ true
  pub intersect_column : set IntersectAll (i 1) [] (error_free 1 1) ≡ true
  pub intersect_risky : set IntersectAll risky [] (clean 1) ≡ false
  pub except_clean : set ExceptAll (i 1) [] (clean 1) ≡ true
  pub except_failing : set Except (i 1) fails (clean 1) ≡ false
  -- error-free columns of both arms, one of which isn't clean
  pub except_column : set Except (i 1) fails (error_free 1 1) ≡ false
  pub join_clean : joined (compare equal (col 1 1) (col 2 1) ∷ []) (clean 1) ≡ true
  pub join_failing : joined fails (clean 1) ≡ false
  pub join_column : joined fails (error_free 1 2) ≡ true
  pub base_first_column : said (t 1 ∷ []) (error_free 1 1) ≡ true
  pub base_second_column : said (base 1 [] [] ∷ []) (error_free 1 2) ≡ true
  pub base_key_column : said (base 1 ((1 ∷ []) ∷ []) (1 ∷ []) ∷ []) (error_free 1 1) ≡ true
  pub base_place_zero : said (t 1 ∷ []) (error_free 1 0) ≡ false
  pub base_keyed_clean : said (base 1 ((1 ∷ []) ∷ []) (1 ∷ []) ∷ []) (clean 1) ≡ true
  pub base_below_clean : said (one 1 ∷ t 9 ∷ []) (clean 9) ≡ true
  pub base_without_keys_clean : said (base 1 [] [] ∷ []) (clean 1) ≡ true
  pub select_bare : said (select 1 [] [] [] ∷ []) (clean 1) ≡ true
  pub select_tested : said (select 1 (is_null (col 1 1) ∷ []) [] (f 1 9 ∷ []) ∷ t 9 ∷ []) (clean 1) ≡ true
  -- one of two conditions
  pub select_failing_second : said (select 1 (is_null (col 1 1) ∷ fails) [] (f 1 9 ∷ []) ∷ t 9 ∷ []) (clean 1) ≡ false
  -- a column of a column
  pub select_of_column : said (select 1 [] (col 1 1 ∷ []) (f 1 2 ∷ []) ∷ one 2 ∷ []) (error_free 1 1) ≡ true
  pub select_of_risky : said (select 1 [] (col 1 1 ∷ []) (f 1 2 ∷ []) ∷ select 2 [] (risky ∷ []) [] ∷ []) (error_free 1 1) ≡ false
  pub group_without_keys : said (groups 0 (count_all ∷ []) (col 2 1 ∷ [])) (clean 1) ≡ true
  pub group_of_two_keys : said (groups 2 (col 1 1 ∷ col 1 2 ∷ []) (col 2 1 ∷ i 1 ∷ [])) (clean 1) ≡ true
  pub group_of_failing : said (box 1 (Group 0) [] (count_all ∷ []) (f 1 2 ∷ []) ∷ select 2 fails (i 1 ∷ []) [] ∷ []) (clean 1) ≡ false
  pub group_key_column : said (groups 1 (col 1 1 ∷ []) (col 2 1 ∷ [])) (error_free 1 1) ≡ true
  pub group_count_column : said (groups 1 (col 1 1 ∷ count_all ∷ []) (col 2 1 ∷ [])) (error_free 1 2) ≡ true
  pub group_least_column : said (groups 0 (fold least all_of (col 1 1) ∷ []) (col 2 1 ∷ [])) (error_free 1 1) ≡ true
  pub group_sum_column : said (groups 0 (fold sum all_of (col 1 1) ∷ []) (col 2 1 ∷ [])) (error_free 1 1) ≡ false
  pub union_all_clean : set UnionAll risky [] (clean 1) ≡ true
  pub union_of_columns_clean : set Union (col 4 1) [] (clean 1) ≡ true
  pub union_all_of_columns_clean : set UnionAll (col 4 1) [] (clean 1) ≡ true
  pub union_column_once : set Union (i 1) [] (error_free 1 1) ≡ true
  pub union_column_of_column : set Union (col 4 2) [] (error_free 1 1) ≡ true
  pub union_column_failing : set Union (i 1) fails (error_free 1 1) ≡ true
  pub union_all_risky : set UnionAll risky [] (error_free 1 1) ≡ false
  pub intersect_all_clean : set IntersectAll (col 4 1) [] (clean 1) ≡ true
  pub except_once_clean : set Except (i 1) [] (clean 1) ≡ true
  pub except_risky : set Except risky [] (clean 1) ≡ false
  pub intersect_once_column : set Intersect (col 4 1) [] (error_free 1 1) ≡ true
  pub except_all_column : set ExceptAll (i 1) [] (error_free 1 1) ≡ true
  pub except_once_column : set Except (col 4 2) [] (error_free 1 1) ≡ true
  pub intersect_failing_column : set Intersect (i 1) fails (error_free 1 1) ≡ false
  pub join_bare : joined [] (clean 1) ≡ true
  pub join_tested : joined (is_null (col 2 1) ∷ []) (clean 1) ≡ true
  pub join_constant : joined (always ∷ []) (clean 1) ≡ true
  pub join_left_column : joined [] (error_free 1 1) ≡ true
  pub join_failing_left_column : joined fails (error_free 1 1) ≡ true
  pub join_right_column : joined [] (error_free 1 2) ≡ true
  pub join_risky_column : said (box 1 OuterJoin [] (risky ∷ []) (f 1 9 ∷ f 2 9 ∷ []) ∷ t 9 ∷ []) (error_free 1 1) ≡ false
  pub join_no_column : joined [] (error_free 1 3) ≡ false

-- an outer join of these two
abbrev joined_of : Node → Node → Fact → Bool
joined_of left right fact = said (box 1 OuterJoin [] (i 1 ∷ []) (f 1 left.id ∷ f 2 right.id ∷ []) ∷ left ∷ right ∷ t 9 ∷ []) fact

-- at most one row
abbrev few : ℕ → Node
few b = select b (is_null (i 1) ∷ []) (i 7 ∷ []) []

pub record OfRows : Type 0 where
  pub base : said (t 1 ∷ []) (at_most_one 1) ≡ false
  pub group : said (groups 0 [] []) (exactly_one 1) ≡ true
  pub group_at_most : said (groups 0 [] []) (at_most_one 1) ≡ true
  pub group_by_key : said (groups 1 (col 1 1 ∷ []) (col 2 1 ∷ [])) (at_most_one 1) ≡ false
  pub nothing : said (select 1 [] [] [] ∷ []) (exactly_one 1) ≡ true
  pub over_one : said (select 1 [] [] (f 1 2 ∷ []) ∷ one 2 ∷ []) (exactly_one 1) ≡ true
  pub over_few : said (select 1 [] [] (f 1 2 ∷ []) ∷ few 2 ∷ []) (exactly_one 1) ≡ false
  pub over_few_at_most : said (select 1 [] [] (f 1 2 ∷ []) ∷ few 2 ∷ []) (at_most_one 1) ≡ true
  -- a condition, though one that always holds
  pub condition : said (select 1 (always ∷ []) [] (f 1 2 ∷ []) ∷ one 2 ∷ []) (exactly_one 1) ≡ false
  pub condition_at_most : said (select 1 (always ∷ []) [] (f 1 2 ∷ []) ∷ one 2 ∷ []) (at_most_one 1) ≡ true
  pub over_one_and_many : said (select 1 [] [] (f 1 2 ∷ f 2 9 ∷ []) ∷ one 2 ∷ t 9 ∷ []) (at_most_one 1) ≡ false
  -- several rows under E
  pub beside_many : said (select 1 [] [] (e 2 9 ∷ []) ∷ t 9 ∷ []) (exactly_one 1) ≡ true
  pub set_of_ones : said (box 1 (SetOp Union (Integer ∷ [])) [] [] (f 1 2 ∷ f 2 2 ∷ []) ∷ one 2 ∷ []) (at_most_one 1) ≡ false
  pub join : joined_of (one 2) (few 3) (exactly_one 1) ≡ true
  pub join_of_few : joined_of (few 2) (one 3) (exactly_one 1) ≡ false
  pub join_of_few_at_most : joined_of (few 2) (few 3) (at_most_one 1) ≡ true
  pub join_of_many : joined_of (one 2) (select 3 [] (i 1 ∷ []) (f 3 9 ∷ [])) (at_most_one 1) ≡ false
  -- a group of a group, of one row, and of none
  pub group_of_group : said (box 1 (Group 0) [] [] (f 1 2 ∷ []) ∷ box 2 (Group 0) [] [] (f 2 9 ∷ []) ∷ t 9 ∷ []) (exactly_one 1) ≡ true
  pub group_of_one : said (box 1 (Group 0) [] [] (f 1 2 ∷ []) ∷ one 2 ∷ []) (exactly_one 1) ≡ true
  pub group_of_few : said (box 1 (Group 0) [] [] (f 1 2 ∷ []) ∷ few 2 ∷ []) (exactly_one 1) ≡ true
  pub group_of_one_by_key : said (box 1 (Group 1) [] (col 1 1 ∷ []) (f 1 2 ∷ []) ∷ one 2 ∷ []) (at_most_one 1) ≡ false
  pub over_ones : said (select 1 [] [] (f 1 2 ∷ f 2 3 ∷ []) ∷ one 2 ∷ one 3 ∷ []) (exactly_one 1) ≡ true
  pub over_one_and_few : said (select 1 [] [] (f 1 2 ∷ f 2 3 ∷ []) ∷ one 2 ∷ few 3 ∷ []) (at_most_one 1) ≡ true
  pub tested_nothing : said (few 1 ∷ []) (at_most_one 1) ≡ true
  pub tested_nothing_exactly : said (few 1 ∷ []) (exactly_one 1) ≡ false
  pub join_of_ones : joined_of (one 2) (one 3) (exactly_one 1) ≡ true
  pub join_of_group : joined_of (box 2 (Group 0) [] [] (f 4 9 ∷ [])) (few 3) (exactly_one 1) ≡ true
  pub join_of_bare : joined_of (select 2 [] [] []) (one 3) (exactly_one 1) ≡ true
  pub join_of_one_at_most : joined_of (one 2) (few 3) (at_most_one 1) ≡ true
  pub join_of_few_and_one : joined_of (few 2) (one 3) (at_most_one 1) ≡ true
  pub join_of_ones_at_most : joined_of (one 2) (one 3) (at_most_one 1) ≡ true
  pub join_of_many_left : joined_of (select 2 [] (i 1 ∷ []) (f 3 9 ∷ [])) (one 3) (at_most_one 1) ≡ false

abbrev over_base : Term → Bool
over_base x = said (select 1 [] (x ∷ []) (f 1 2 ∷ []) ∷ base 2 [] (2 ∷ []) ∷ []) (not_null 1 1)

abbrev grouped : Term → Bool
grouped x = said (box 1 (Group 1) [] (col 1 2 ∷ x ∷ []) (f 1 2 ∷ []) ∷ base 2 [] (2 ∷ []) ∷ []) (not_null 1 2)

abbrev beside : ℕ → Bool
beside k = said (box 1 OuterJoin [] (col 1 2 ∷ col 2 2 ∷ col 1 1 ∷ []) (f 1 2 ∷ f 2 2 ∷ []) ∷ base 2 [] (2 ∷ []) ∷ []) (not_null 1 k)

pub record OfNulls : Type 0 where
  pub declared : said (base 1 [] (2 ∷ []) ∷ []) (not_null 1 2) ≡ true
  pub not_declared : said (base 1 [] (2 ∷ []) ∷ []) (not_null 1 1) ≡ false
  -- a key says nothing of nulls
  pub key : said (base 1 ((1 ∷ []) ∷ []) [] ∷ []) (not_null 1 1) ≡ false
  pub literal : over_base (text (codes "a")) ≡ true
  pub null : over_base null_text ≡ false
  pub column : over_base (col 1 2) ≡ true
  pub other_column : over_base (col 1 1) ≡ false
  pub added : over_base (both Add (i 1) (i 1)) ≡ false
  pub group_key : said (box 1 (Group 1) [] (col 1 2 ∷ []) (f 1 2 ∷ []) ∷ base 2 [] (2 ∷ []) ∷ []) (not_null 1 1) ≡ true
  pub rows : grouped count_all ≡ true
  pub counted : grouped (fold count each_once (col 1 1)) ≡ true
  pub least : grouped (fold least all_of (col 1 2)) ≡ false
  pub single : grouped (fold single all_of (col 1 2)) ≡ false
  pub left : beside 1 ≡ true
  pub right : beside 2 ≡ false
  pub left_nullable : beside 3 ≡ false
  pub set : said (box 1 (SetOp UnionAll (Integer ∷ Integer ∷ [])) [] [] (f 1 2 ∷ f 2 2 ∷ []) ∷ base 2 [] (2 ∷ []) ∷ []) (not_null 1 2) ≡ false
  pub declared_first : said (base 1 [] (1 ∷ 2 ∷ []) ∷ []) (not_null 1 1) ≡ true
  pub declared_second : said (base 1 [] (1 ∷ 2 ∷ []) ∷ []) (not_null 1 2) ≡ true
  -- a key's columns are declared beside it
  pub declared_key : said (base 1 ((1 ∷ []) ∷ []) (1 ∷ []) ∷ []) (not_null 1 1) ≡ true
  pub number : over_base (i 0) ≡ true
  pub negative : over_base (int (negsuc 0)) ≡ true
  pub empty_text : over_base (text []) ≡ true
  pub no_number : over_base null_int ≡ false
  pub joined_texts : over_base (both Cat (text (codes "a")) (text (codes "b"))) ≡ false
  pub counted_all : grouped (fold count all_of (col 1 2)) ≡ true
  pub counted_null : grouped (fold count all_of null_int) ≡ true
  pub column_of_column : said (select 1 [] (col 3 1 ∷ []) (f 3 2 ∷ []) ∷ select 2 [] (col 1 2 ∷ []) (f 1 9 ∷ []) ∷ base 9 [] (2 ∷ []) ∷ []) (not_null 1 1) ≡ true
  pub column_of_null : said (select 1 [] (col 3 1 ∷ []) (f 3 2 ∷ []) ∷ select 2 [] (col 1 1 ∷ []) (f 1 9 ∷ []) ∷ base 9 [] (2 ∷ []) ∷ []) (not_null 1 1) ≡ false
  pub summed : grouped (fold sum all_of (col 1 2)) ≡ false

abbrev keyed : List Node → List ℕ → Bool
keyed boxes ks = holds_key (after 6 boxes).at_most_one boxes 1 ks

-- over two bases whose first columns are keys: the head has that of the first one at 1, and of the second one at 3
abbrev pairs : Node → List Node
pairs n = n ∷ base 8 ((1 ∷ []) ∷ []) (1 ∷ []) ∷ base 9 ((1 ∷ []) ∷ []) (1 ∷ []) ∷ []

abbrev two : List Term
two = col 1 1 ∷ col 1 2 ∷ col 2 1 ∷ col 2 2 ∷ []

abbrev set_of : SetOperator → List ℕ → Bool
set_of form ks = keyed (box 1 (SetOp form (Integer ∷ Integer ∷ [])) [] [] (f 1 9 ∷ f 2 9 ∷ []) ∷ t 9 ∷ []) ks

pub record OfKeys : Type 0 where
  pub base_key : keyed (base 1 ((1 ∷ []) ∷ []) (1 ∷ []) ∷ []) (1 ∷ []) ≡ true
  pub base_more : keyed (base 1 ((1 ∷ []) ∷ []) (1 ∷ []) ∷ []) (2 ∷ 1 ∷ []) ≡ true
  pub base_other : keyed (base 1 ((1 ∷ []) ∷ []) (1 ∷ []) ∷ []) (2 ∷ []) ≡ false
  -- UNIQUE over a column that may be null
  pub base_nullable : keyed (base 1 ((1 ∷ []) ∷ []) (2 ∷ []) ∷ []) (1 ∷ []) ≡ false
  pub base_part : keyed (base 1 ((1 ∷ 2 ∷ []) ∷ []) (1 ∷ 2 ∷ []) ∷ []) (1 ∷ []) ≡ false
  pub distinct_all : keyed (distinct 1 (i 1 ∷ col 1 2 ∷ []) (f 1 9 ∷ []) ∷ t 9 ∷ []) (2 ∷ 1 ∷ []) ≡ true
  pub distinct_part : keyed (distinct 1 (i 1 ∷ col 1 2 ∷ []) (f 1 9 ∷ []) ∷ t 9 ∷ []) (2 ∷ []) ≡ false
  pub not_distinct : keyed (select 1 [] (i 1 ∷ col 1 2 ∷ []) (f 1 9 ∷ []) ∷ t 9 ∷ []) (1 ∷ 2 ∷ []) ≡ false
  pub group_keys : keyed (box 1 (Group 2) [] (col 1 1 ∷ col 1 2 ∷ count_all ∷ []) (f 1 9 ∷ []) ∷ t 9 ∷ []) (1 ∷ 2 ∷ []) ≡ true
  pub group_part : keyed (box 1 (Group 2) [] (col 1 1 ∷ col 1 2 ∷ count_all ∷ []) (f 1 9 ∷ []) ∷ t 9 ∷ []) (1 ∷ 3 ∷ []) ≡ false
  pub set_all : set_of Except (1 ∷ 2 ∷ []) ≡ true
  pub set_part : set_of Intersect (1 ∷ []) ≡ false
  pub set_with_all : set_of UnionAll (1 ∷ 2 ∷ []) ≡ false
  pub select_both : keyed (pairs (select 1 [] two (f 1 8 ∷ f 2 9 ∷ []))) (3 ∷ 1 ∷ []) ≡ true
  pub select_left : keyed (pairs (select 1 [] two (f 1 8 ∷ f 2 9 ∷ []))) (1 ∷ 2 ∷ []) ≡ false
  -- the right one under E
  pub select_beside : keyed (pairs (select 1 [] two (f 1 8 ∷ e 2 9 ∷ []))) (1 ∷ []) ≡ true
  -- the key's column stands in no cell alone
  pub select_computed : keyed (pairs (select 1 [] (both Div (col 1 1) (i 1) ∷ []) (f 1 8 ∷ []))) (1 ∷ []) ≡ false
  pub join_both : keyed (pairs (box 1 OuterJoin [] two (f 1 8 ∷ f 2 9 ∷ []))) (1 ∷ 3 ∷ []) ≡ true
  pub join_right : keyed (pairs (box 1 OuterJoin [] two (f 1 8 ∷ f 2 9 ∷ []))) (3 ∷ 4 ∷ []) ≡ false
  -- no key is asked of a box of at most one row
  pub beside_one : keyed (select 1 [] two (f 1 8 ∷ f 2 2 ∷ []) ∷ few 2 ∷ base 8 ((1 ∷ []) ∷ []) (1 ∷ []) ∷ []) (1 ∷ []) ≡ true
  pub one_row : keyed (few 1 ∷ []) [] ≡ true
  pub many_rows : keyed (t 1 ∷ []) [] ≡ false
  pub base_second_key : keyed (base 1 ((1 ∷ []) ∷ (2 ∷ []) ∷ []) (1 ∷ 2 ∷ []) ∷ []) (2 ∷ []) ≡ true
  pub base_pair : keyed (base 1 ((1 ∷ 2 ∷ []) ∷ []) (1 ∷ 2 ∷ []) ∷ []) (2 ∷ 1 ∷ []) ≡ true
  -- one of the two columns may be null
  pub base_pair_nullable : keyed (base 1 ((1 ∷ 2 ∷ []) ∷ []) (1 ∷ []) ∷ []) (1 ∷ 2 ∷ []) ≡ false
  pub distinct_in_order : keyed (distinct 1 (i 1 ∷ col 1 2 ∷ []) (f 1 9 ∷ []) ∷ t 9 ∷ []) (1 ∷ 2 ∷ []) ≡ true
  pub distinct_one : keyed (distinct 1 (col 1 2 ∷ []) (f 1 9 ∷ []) ∷ t 9 ∷ []) (1 ∷ []) ≡ true
  pub distinct_computed : keyed (distinct 1 (both Div (col 1 2) (i 2) ∷ []) (f 1 9 ∷ []) ∷ t 9 ∷ []) (1 ∷ []) ≡ true
  pub group_key : keyed (groups 1 (col 1 1 ∷ count_all ∷ []) (col 2 1 ∷ [])) (1 ∷ []) ≡ true
  pub group_more : keyed (groups 1 (col 1 1 ∷ count_all ∷ []) (col 2 1 ∷ [])) (2 ∷ 1 ∷ []) ≡ true
  pub group_turned : keyed (box 1 (Group 2) [] (col 1 1 ∷ col 1 2 ∷ count_all ∷ []) (f 1 9 ∷ []) ∷ t 9 ∷ []) (2 ∷ 1 ∷ []) ≡ true
  pub group_count : keyed (groups 1 (col 1 1 ∷ count_all ∷ []) (col 2 1 ∷ [])) (2 ∷ []) ≡ false
  pub union_all_columns : set_of Union (1 ∷ 2 ∷ []) ≡ true
  pub intersect_all_columns : set_of Intersect (2 ∷ 1 ∷ []) ≡ true
  pub except_turned : set_of Except (2 ∷ 1 ∷ []) ≡ true
  pub intersect_with_all : set_of IntersectAll (1 ∷ 2 ∷ []) ≡ false
  pub except_with_all : set_of ExceptAll (1 ∷ 2 ∷ []) ≡ false
  pub select_one : keyed (pairs (select 1 [] two (f 1 8 ∷ []))) (1 ∷ []) ≡ true
  -- one base under both
  pub select_itself : keyed (pairs (select 1 [] two (f 1 8 ∷ f 2 8 ∷ []))) (1 ∷ 3 ∷ []) ≡ true
  -- an ENFORCE select has both kinds
  pub select_distinct : keyed (pairs (distinct 1 two (f 1 8 ∷ f 2 9 ∷ []))) (1 ∷ 3 ∷ []) ≡ true
  pub select_of_select : keyed (select 1 [] (col 3 2 ∷ []) (f 3 2 ∷ []) ∷ pairs (select 2 [] (col 1 2 ∷ col 1 1 ∷ []) (f 1 8 ∷ []))) (1 ∷ []) ≡ true
  pub select_of_select_other : keyed (select 1 [] (col 3 1 ∷ []) (f 3 2 ∷ []) ∷ pairs (select 2 [] (col 1 2 ∷ col 1 1 ∷ []) (f 1 8 ∷ []))) (1 ∷ []) ≡ false
  -- the head lacks the key's column
  pub select_lacking : keyed (pairs (select 1 [] (col 1 2 ∷ []) (f 1 8 ∷ []))) (1 ∷ []) ≡ false
  pub join_more : keyed (pairs (box 1 OuterJoin [] two (f 1 8 ∷ f 2 9 ∷ []))) (3 ∷ 2 ∷ 1 ∷ []) ≡ true
  pub join_itself : keyed (pairs (box 1 OuterJoin [] two (f 1 8 ∷ f 2 8 ∷ []))) (1 ∷ 3 ∷ []) ≡ true
  pub join_of_few : keyed (box 1 OuterJoin [] (col 1 1 ∷ col 2 1 ∷ []) (f 1 8 ∷ f 2 2 ∷ []) ∷ few 2 ∷ base 8 ((1 ∷ []) ∷ []) (1 ∷ []) ∷ []) (1 ∷ []) ≡ true
  pub join_left : keyed (pairs (box 1 OuterJoin [] two (f 1 8 ∷ f 2 9 ∷ []))) (1 ∷ 2 ∷ []) ≡ false
  pub one_row_group : keyed (groups 0 [] []) [] ≡ true
  pub one_row_over_few : keyed (select 1 [] [] (f 1 2 ∷ []) ∷ few 2 ∷ []) [] ≡ true
  pub one_row_join : keyed (box 1 OuterJoin [] (i 1 ∷ []) (f 1 2 ∷ f 2 3 ∷ []) ∷ one 2 ∷ few 3 ∷ []) [] ≡ true
  -- with a column that isn't there
  pub one_row_other : keyed (few 1 ∷ []) (5 ∷ []) ≡ true
  pub groups_rows : keyed (groups 1 (col 1 1 ∷ []) (col 2 1 ∷ [])) [] ≡ false

-- SELECT D.DNO FROM DEPT D WHERE D.BUDGET < (SELECT SUM(E.SAL) FROM EMP E WHERE E.DNO = D.DNO), with these conditions of the outer select and of the inner one
abbrev counted : List Cond → List Cond → List Node
counted conds inner =
    select 1 conds (col 1 1 ∷ []) (f 1 8 ∷ s 2 2 ∷ []) ∷ select 2 [] (col 3 1 ∷ []) (f 3 3 ∷ []) ∷ box 3 (Group 0) [] (fold sum all_of (col 4 1) ∷ []) (f 4 4 ∷ [])
    ∷ select 4 inner (col 5 2 ∷ []) (f 5 9 ∷ []) ∷ t 8 ∷ t 9 ∷ []

abbrev is_calm : List Node → Bool
is_calm boxes = calm boxes (after 8 boxes) 1

abbrev magic : Node → Node
magic n = record n { parts = record n.parts { role = Magic } }

abbrev correlated : List Cond
correlated = compare equal (col 5 1) (col 1 1) ∷ []

-- a scalar of box 2
abbrev scalar_of : Node → Bool
scalar_of n = said (select 1 [] (terms.scalar 3 ∷ []) (s 3 2 ∷ []) ∷ n ∷ t 9 ∷ []) (error_free 1 1)

pub record OfScalars : Type 0 where
  pub of_one_row : scalar_of (one 2) ≡ true
  pub of_few : scalar_of (few 2) ≡ true
  pub of_null : scalar_of (select 2 [] (null_text ∷ []) []) ≡ true
  pub of_count : scalar_of (box 2 (Group 0) [] (count_all ∷ []) (f 4 9 ∷ [])) ≡ true
  pub of_many : scalar_of (select 2 [] (col 4 1 ∷ []) (f 4 9 ∷ [])) ≡ false
  pub of_failing : scalar_of (select 2 fails (i 1 ∷ []) []) ≡ false
  pub of_risky : scalar_of (select 2 [] (risky ∷ []) []) ≡ false

pub record OfCalm : Type 0 where
  pub departments : is_calm (counted (compare below (col 1 2) (terms.scalar 2) ∷ []) correlated) ≡ true
  -- the root may fail, and another box not
  pub root_fails : is_calm (counted fails correlated) ≡ true
  pub inner_fails : is_calm (counted [] fails) ≡ false
  -- the inner box names a column that may fail
  pub names_risky : is_calm (select 1 [] [] (f 1 2 ∷ f 5 3 ∷ []) ∷ select 2 [] (risky ∷ []) [] ∷ select 3 (is_null (col 1 1) ∷ []) [] [] ∷ []) ≡ false
  pub owns_risky : is_calm (select 1 (is_null (col 1 1) ∷ []) [] (f 1 2 ∷ []) ∷ select 2 [] (risky ∷ []) [] ∷ []) ≡ true
  -- a scalar of an open box of several rows, and of a closed one
  pub open_scalar : is_calm (select 1 [] [] (f 1 9 ∷ s 2 2 ∷ []) ∷ select 2 [] (both Add (col 1 1) (i 1) ∷ []) (f 3 9 ∷ []) ∷ t 9 ∷ []) ≡ false
  pub closed_scalar : is_calm (select 1 [] [] (f 1 9 ∷ s 2 2 ∷ []) ∷ select 2 [] (risky ∷ []) (f 3 9 ∷ []) ∷ t 9 ∷ []) ≡ true
  pub magic_box : is_calm (select 1 [] [] (f 1 2 ∷ []) ∷ magic (distinct 2 (col 3 1 ∷ []) (f 3 9 ∷ [])) ∷ t 9 ∷ []) ≡ true
  pub magic_risky : is_calm (select 1 [] [] (f 1 2 ∷ []) ∷ magic (distinct 2 (risky ∷ []) (f 3 9 ∷ [])) ∷ t 9 ∷ []) ≡ false
  pub magic_open : is_calm (select 1 [] [] (f 4 9 ∷ f 1 2 ∷ []) ∷ magic (distinct 2 (col 4 1 ∷ []) (f 3 9 ∷ [])) ∷ t 9 ∷ []) ≡ false
