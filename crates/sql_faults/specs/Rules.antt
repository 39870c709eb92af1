-- The rules of a valid query, each at one node: its number where it is broken, and else 0. A default stands where a name was not found, so that no lesser number is raised by it.
use Rattle.std.specs.Prelude.{ℕ, zero, suc, min, Bool, true, false, not, ◌&&◌, ◌||◌, nat_eq, nat_le, nat_lt, ℤ, pos, negsuc, List, [], ◌∷◌, map, Option, Some, None, filter, length}
use Rattle.std.specs.List.{list_any}
use Rattle.sql_ast.specs.declared.name.Column.{Column}
use Rattle.sql_ast.specs.declared.text.Sort.{Sort}
use Rattle.sql_ast.specs.declared.text.SortKey.{SortKey}
use Rattle.sql_ast.specs.declared.text.SortKey.TheVariants as sort_key
use Rattle.sql_ast.specs.declared.word.DataType.{DataType}
use Rattle.sql_ast.specs.declared.word.DataType.TheVariants as type
use Rattle.sql_ast.specs.declared.word.SetFunction.{SetFunction}
use Rattle.sql_ast.specs.declared.word.SetFunction.TheVariants as function
use Rattle.sql_ast.specs.Names.{has_twins}
use Rattle.sql_value.specs.declared.order_key.SqlType.{SqlType}
use Rattle.sql_value.specs.declared.order_key.SqlType.TheVariants.{Integer, Varchar}
use Rattle.sql_faults.specs.Scopes.{Scope, Scopes, has_name, is_name_barred, is_own, is_range_barred, is_some, is_star_barred, scope_of}
use Rattle.sql_faults.specs.declared.column.TypedColumn.{TypedColumn}
use Rattle.sql_faults.specs.declared.column.TypedRange.{TypedRange}
use Rattle.sql_faults.specs.declared.site.Site.{Site}
use Rattle.sql_faults.specs.declared.site.Site.TheVariants as place

-- the lesser of two numbers, of which 0 is none
abbrev pub lesser : ℕ → ℕ → ℕ
lesser zero b = b
lesser (suc a) zero = suc a
lesser (suc a) (suc b) = min (suc a) (suc b)

abbrev pub fault_if : Bool → ℕ → ℕ
fault_if true n = n
fault_if false n = 0

-- ---- 6: a table name is neither a table nor a view

abbrev pub table_unknown : Option (List TypedColumn) → ℕ
table_unknown columns = fault_if (not (is_some columns)) 6

-- ---- 7: two ranges of one FROM, or two names of one column list, are equal

abbrev pub ranges_equal : List TypedRange → ℕ
ranges_equal ranges = fault_if (has_twins (map (λ (r : TypedRange). r.name) ranges)) 7

abbrev pub names_equal : List (List ℕ) → ℕ
names_equal names = fault_if (has_twins names) 7

-- ---- 8 and 9: a column's name finds no range or no column, or more than one column

abbrev pub one_of : List TypedColumn → ℕ
one_of [] = 8
one_of (c ∷ []) = 0
one_of (c ∷ d ∷ cs) = 9

-- 8: `r.*` finds no range
abbrev pub range_unknown : Option Scope → ℕ
range_unknown found = fault_if (not (is_some found)) 8

-- ---- 10: types don't fit

-- a type is known, and another one
abbrev pub is_other : SqlType → Option SqlType → Bool
is_other t None = false
is_other Integer (Some Integer) = false
is_other Integer (Some Varchar) = true
is_other Varchar (Some Integer) = true
is_other Varchar (Some Varchar) = false

-- two types are known, and differ
abbrev pub differ : Option SqlType → Option SqlType → Bool
differ None other = false
differ (Some t) other = is_other t other

-- two of the types are known, and differ
abbrev pub some_differ : List (Option SqlType) → Bool
some_differ types = list_any (is_other Integer) types && list_any (is_other Varchar) types

-- an operand isn't of the type
abbrev pub wants : SqlType → Option SqlType → ℕ
wants t found = fault_if (is_other t found) 10

-- the argument of SUM or AVG isn't INTEGER
abbrev pub wants_argument : SetFunction → Option SqlType → ℕ
wants_argument function.Count found = 0
wants_argument function.Sum found = wants Integer found
wants_argument function.Avg found = wants Integer found
wants_argument function.Min found = 0
wants_argument function.Max found = 0

-- compared expressions differ
abbrev pub pair_differs : Option SqlType → Option SqlType → ℕ
pair_differs a b = fault_if (differ a b) 10

-- the parts of a COALESCE differ
abbrev pub parts_differ : List (Option SqlType) → ℕ
parts_differ types = fault_if (some_differ types) 10

-- the operand of an IN list differs from one of the list
abbrev pub list_differs : Option SqlType → List (Option SqlType) → ℕ
list_differs t types = fault_if (list_any (differ t) types) 10

-- the results of a CASE, NULL aside, differ, or all are NULL
abbrev pub results_differ : List (Option SqlType) → ℕ
results_differ [] = 10
results_differ (t ∷ types) = fault_if (some_differ (t ∷ types)) 10

-- columns of set operands at the same place differ
abbrev pub places_differ : List TypedColumn → List TypedColumn → Bool
places_differ [] ys = false
places_differ (x ∷ xs) [] = false
places_differ (x ∷ xs) (y ∷ ys) = differ x.sort y.sort || places_differ xs ys

abbrev pub operands_differ : List TypedColumn → List TypedColumn → ℕ
operands_differ xs ys = fault_if (places_differ xs ys) 10

-- the length of a CAST is outside 1 to 4,096
abbrev pub fits : ℤ → Bool
fits (pos n) = nat_le 1 n && nat_le n 4096
fits (negsuc n) = false

abbrev pub length_unfit : DataType → ℕ
length_unfit type.Integer = 0
length_unfit type.Int = 0
length_unfit (type.Varchar n) = fault_if (not (fits n)) 10

-- ---- 11: a number of columns doesn't fit

-- a subquery in place of a value, after IN, ANY, SOME or ALL hasn't one column
abbrev pub not_one : List TypedColumn → ℕ
not_one columns = fault_if (not (nat_eq (length columns) 1)) 11

-- set operands differ in number of columns
abbrev pub operands_unequal : List TypedColumn → List TypedColumn → ℕ
operands_unequal xs ys = fault_if (not (nat_eq (length xs) (length ys))) 11

-- a column list that is written has another length than its columns
abbrev pub list_unequal : List (List ℕ) → List TypedColumn → ℕ
list_unequal [] columns = 0
list_unequal (name ∷ names) columns = fault_if (not (nat_eq (length (name ∷ names)) (length columns))) 11

-- a query has over 1,024 columns
abbrev pub too_wide : List TypedColumn → ℕ
too_wide columns = fault_if (nat_lt 1024 (length columns)) 11

-- ---- 12: a grouped block names a column that isn't a grouping column, or groups by one that isn't of its own FROM

abbrev pub name_ungrouped : Column → Scopes → ℕ
name_ungrouped c scopes = fault_if (is_name_barred c (scope_of c scopes)) 12

abbrev pub range_ungrouped : List ℕ → Option Scope → ℕ
range_ungrouped name found = fault_if (is_star_barred name found) 12

abbrev pub star_ungrouped : Scopes → ℕ
star_ungrouped [] = 0
star_ungrouped (s ∷ scopes) = fault_if (list_any (is_range_barred s.grouping) s.ranges) 12

abbrev pub grouping_outer : Column → Scopes → ℕ
grouping_outer c scopes = fault_if (not (is_own c scopes)) 12

-- ---- 13: an aggregate stands where none may, or its argument holds what it may not

-- in WHERE, ON or an aggregate's argument
abbrev pub aggregate_misplaced : Site → ℕ
aggregate_misplaced place.Listed = 0
aggregate_misplaced place.Filtered = 13
aggregate_misplaced place.Argument = 13

-- an aggregate's argument holds a subquery
abbrev pub sub_misplaced : Site → ℕ
sub_misplaced place.Listed = 0
sub_misplaced place.Filtered = 0
sub_misplaced place.Argument = 13

-- an aggregate's argument holds a column that isn't of its own block's FROM
abbrev pub column_misplaced : Site → Column → Scopes → ℕ
column_misplaced place.Listed c scopes = 0
column_misplaced place.Filtered c scopes = 0
column_misplaced place.Argument c scopes = fault_if (not (is_own c scopes)) 13

-- ---- 14: a key of ORDER BY is not exactly one output column

-- how many columns have this name
abbrev pub how_many : List ℕ → List TypedColumn → ℕ
how_many name columns = length (filter (has_name name) columns)

-- a number is from 1 to this many
abbrev pub is_place : ℕ → ℤ → Bool
is_place width (pos n) = nat_le 1 n && nat_le n width
is_place width (negsuc n) = false

abbrev pub key_unfit : List TypedColumn → SortKey → ℕ
key_unfit columns (sort_key.Name name) = fault_if (not (nat_eq (how_many name columns) 1)) 14
key_unfit columns (sort_key.Number n) = fault_if (not (is_place (length columns) n)) 14

abbrev pub keys_unfit : List TypedColumn → List Sort → ℕ
keys_unfit columns [] = 0
keys_unfit columns (x ∷ xs) = lesser (key_unfit columns x.key) (keys_unfit columns xs)
