-- How the SELECT of a box is written.
use Rattle.std.specs.Prelude.{ℕ, zero, suc, ◌==◌, ◌++◌, ◌&&◌, ◌||◌, if◌then◌else◌, Bool, true, false, List, [], ◌∷◌, None, codes, decimal, length, map}
use Rattle.std.specs.Char.{is_ascii_digit, is_ascii_uppercase, to_ascii_lowercase}
use Rattle.std.specs.List.{flat_map, list_all, list_any}
use Rattle.graph_print.specs.GraphText.{quoted}
use Rattle.qgm_core.specs.declared.kinds.SetOperator.{SetOperator}
use Rattle.qgm_core.specs.declared.kinds.SetOperator.TheVariants.{Union, UnionAll, Intersect, IntersectAll, Except, ExceptAll}
use Rattle.qgm_terms.specs.Terms.{Aggregate, single, count, sum, avg, least, greatest, Taken, all_of, each_once}
use Rattle.sql_value.specs.declared.order_key.SqlType.{SqlType}
use Rattle.sql_value.specs.declared.order_key.SqlType.TheVariants.{Integer, Varchar}
use Rattle.graph_sql.specs.Bodies.{Arm, Body, GroupCell, Stored, cell, combined, counted_all, folded, grouped, outer_joined, selected, stored}
use Rattle.graph_sql.specs.Statement.{Test}
use Rattle.graph_sql.specs.Text.{column_text, expression_text, test_text}

-- ---- names: what the schema writes without quotes has capitals here, and small letters in PostgreSQL

-- a capital, a digit or `_`
abbrev pub in_regular : ℕ → Bool
in_regular c = is_ascii_uppercase c || (is_ascii_digit c || (c == 95))

abbrev pub is_regular : List ℕ → Bool
is_regular [] = false
is_regular (c ∷ cs) = is_ascii_uppercase c && list_all in_regular cs

unfoldable pub name_text : List ℕ → List ℕ
name_text name = quoted (if is_regular name then map to_ascii_lowercase name else name)

-- ---- lists

-- what f writes of each place from 1 to n
abbrev pub numbered : (ℕ → List ℕ) → ℕ → List ℕ
numbered f zero = []
numbered f (suc n) = numbered f n ++ (if n == 0 then [] else codes ", ") ++ f (suc n)

-- the columns of a FROM item
abbrev pub columns_text : ℕ → List ℕ
columns_text n = codes " (" ++ numbered (λ k. codes "c" ++ decimal k) n ++ codes ")"

abbrev pub next_text : {X : Type 0} → (X → List ℕ) → X → List ℕ
next_text f x = codes ", " ++ f x

-- a list; a box without columns has one that nobody names
abbrev pub list_text : {X : Type 0} → (X → List ℕ) → List X → List ℕ
list_text f [] = codes "1"
list_text f (x ∷ xs) = f x ++ flat_map (next_text f) xs

-- FROM, with a word between its items
abbrev pub from_text : List ℕ → List (List ℕ) → List ℕ
from_text word [] = []
from_text word (r ∷ rs) = codes " FROM " ++ r ++ flat_map (λ s. word ++ s) rs

abbrev pub and_text : (ℕ → ℕ) → Test (List ℕ) → List ℕ
and_text at p = codes " AND " ++ test_text at None p

-- a word and tests; another word where there are none
abbrev pub tests_text : (ℕ → ℕ) → List ℕ → List ℕ → List (Test (List ℕ)) → List ℕ
tests_text at word none [] = none
tests_text at word none (p ∷ ps) = word ++ test_text at None p ++ flat_map (and_text at) ps

-- ---- stored tables

abbrev pub cast_text : SqlType → List ℕ
cast_text Integer = codes " AS bigint)"
cast_text Varchar = codes " AS text) COLLATE \"C\""

unfoldable pub stored_text : Stored → List ℕ
stored_text c = codes "CAST(t." ++ name_text c.name ++ cast_text c.type

-- ---- groups

abbrev pub taken_word : Taken → List ℕ
taken_word all_of = []
taken_word each_once = codes "DISTINCT "

-- an aggregate of a group's rows
abbrev pub fold_text : Aggregate → Taken → List ℕ → List ℕ
fold_text single t x = codes "ARRAY_AGG(" ++ x ++ codes ")"
fold_text count t x = codes "COUNT(" ++ taken_word t ++ x ++ codes ")"
fold_text sum t x = codes "SUM(" ++ taken_word t ++ x ++ codes ")"
fold_text avg t x = codes "DIV(SUM(" ++ taken_word t ++ x ++ codes "), COUNT(" ++ taken_word t ++ x ++ codes "))"
fold_text least t x = codes "MIN(" ++ taken_word t ++ x ++ codes ")"
fold_text greatest t x = codes "MAX(" ++ taken_word t ++ x ++ codes ")"

-- a cell in the list of the group
abbrev pub group_text : (ℕ → ℕ) → GroupCell (List ℕ) → List ℕ
group_text at (cell x) = expression_text at x
group_text at counted_all = codes "COUNT(*)"
group_text at (folded f t x) = fold_text f t (expression_text at x)

-- an aggregate that is made a cell outside the group: a sum and a mean are exact within it
abbrev pub is_wrapped_fold : Aggregate → Bool
is_wrapped_fold single = true
is_wrapped_fold count = false
is_wrapped_fold sum = true
is_wrapped_fold avg = true
is_wrapped_fold least = false
is_wrapped_fold greatest = false

abbrev pub is_wrapped : GroupCell (List ℕ) → Bool
is_wrapped (cell x) = false
is_wrapped counted_all = false
is_wrapped (folded f t x) = is_wrapped_fold f

abbrev pub group_column : ℕ → List ℕ
group_column k = codes "g.c" ++ decimal k

abbrev pub over_fold : Aggregate → ℕ → List ℕ
over_fold single k = codes "(SELECT u.c1 FROM UNNEST(" ++ group_column k ++ codes ") AS u (c1))"
over_fold count k = group_column k
over_fold sum k = codes "CAST(" ++ group_column k ++ codes " AS bigint)"
over_fold avg k = codes "CAST(" ++ group_column k ++ codes " AS bigint)"
over_fold least k = group_column k
over_fold greatest k = group_column k

-- the cell at place k of a group, outside it
abbrev pub over_text : ℕ → GroupCell (List ℕ) → List ℕ
over_text k (cell x) = group_column k
over_text k counted_all = group_column k
over_text k (folded f t x) = over_fold f k

abbrev pub overs_text : ℕ → List (GroupCell (List ℕ)) → List ℕ
overs_text k [] = []
overs_text k (x ∷ xs) = (if k == 0 then [] else codes ", ") ++ over_text (suc k) x ++ overs_text (suc k) xs

-- one group, which has no cell
abbrev pub having_text : {X : Type 0} → List X → List ℕ
having_text [] = codes " HAVING TRUE"
having_text (x ∷ xs) = []

-- keys by their places
abbrev pub by_text : {X : Type 0} → ℕ → List X → List ℕ
by_text keys xs = if keys == 0 then having_text xs else codes " GROUP BY " ++ numbered decimal keys

unfoldable pub inner_text : (ℕ → ℕ) → ℕ → List (GroupCell (List ℕ)) → List (List ℕ) → List ℕ
inner_text at keys xs from = codes "SELECT " ++ list_text (group_text at) xs ++ from_text (codes ", ") from ++ by_text keys xs

abbrev pub wrapped_text : List (GroupCell (List ℕ)) → List ℕ → List ℕ
wrapped_text xs inner = codes "SELECT " ++ overs_text 0 xs ++ codes " FROM (" ++ inner ++ codes ") AS g" ++ columns_text (length xs)

-- ---- set operations

abbrev pub operator_word : SetOperator → List ℕ
operator_word Union = codes " UNION "
operator_word UnionAll = codes " UNION ALL "
operator_word Intersect = codes " INTERSECT "
operator_word IntersectAll = codes " INTERSECT ALL "
operator_word Except = codes " EXCEPT "
operator_word ExceptAll = codes " EXCEPT ALL "

abbrev pub arm_cells : (ℕ → ℕ) → ℕ → ℕ → List ℕ
arm_cells at n q = if n == 0 then codes "1" else numbered (column_text at q) n

abbrev pub arm_text : (ℕ → ℕ) → ℕ → Arm (List ℕ) → List ℕ
arm_text at width a = codes "SELECT " ++ arm_cells at width a.quant ++ codes " FROM " ++ a.range

abbrev pub arms_text : (ℕ → ℕ) → SetOperator → ℕ → List (Arm (List ℕ)) → List ℕ
arms_text at operator width [] = []
arms_text at operator width (a ∷ rest) = arm_text at width a ++ flat_map (λ b. operator_word operator ++ arm_text at width b) rest

-- ---- all

unfoldable pub body_text : (ℕ → ℕ) → Body (List ℕ) → List ℕ
body_text at (stored name columns) = codes "SELECT " ++ list_text stored_text columns ++ codes " FROM " ++ name_text name ++ codes " AS t"
body_text at (selected distinct cells from tests) = codes "SELECT " ++ (if distinct then codes "DISTINCT " else []) ++ list_text (expression_text at) cells ++ from_text (codes ", ") from ++ tests_text at (codes " WHERE ") [] tests
body_text at (grouped keys cells from) = if list_any is_wrapped cells then wrapped_text cells (inner_text at keys cells from) else inner_text at keys cells from
body_text at (combined operator width arms) = arms_text at operator width arms
body_text at (outer_joined cells from tests) = codes "SELECT " ++ list_text (expression_text at) cells ++ from_text (codes " LEFT JOIN ") from ++ tests_text at (codes " ON ") (codes " ON TRUE") tests

-- ---- for EXISTS, which asks whether there is a row: a select's own FROM items, its cells as one more, and its conditions before the test of a row; any other box as one item

abbrev pub alone_text : List ℕ → List ℕ
alone_text text = codes "LATERAL (" ++ text ++ codes ")"

abbrev pub leading_range : List ℕ → List ℕ
leading_range r = r ++ codes ", "

abbrev pub leading_test : (ℕ → ℕ) → Test (List ℕ) → List ℕ
leading_test at p = test_text at None p ++ codes " AND "

-- of a box of this text: what stands before the name of the item that has its cells
abbrev pub source_text : (ℕ → ℕ) → List ℕ → Body (List ℕ) → List ℕ
source_text at text (stored name columns) = alone_text text
source_text at text (selected distinct cells from tests) = flat_map leading_range from ++ alone_text (codes "SELECT " ++ list_text (expression_text at) cells)
source_text at text (grouped keys cells from) = alone_text text
source_text at text (combined operator width arms) = alone_text text
source_text at text (outer_joined cells from tests) = alone_text text

-- and what stands behind the columns of that item
abbrev pub where_text : (ℕ → ℕ) → Body (List ℕ) → List ℕ
where_text at (stored name columns) = codes " WHERE "
where_text at (selected distinct cells from tests) = codes " WHERE " ++ flat_map (leading_test at) tests
where_text at (grouped keys cells from) = codes " WHERE "
where_text at (combined operator width arms) = codes " WHERE "
where_text at (outer_joined cells from tests) = codes " WHERE "
