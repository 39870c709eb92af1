-- How the rows of a FROM are put together, and those of queries (SQL-92, 7.4, 7.5 and 7.10).
use Rattle.std.specs.Prelude.{ℕ, Bool, true, false, List, [], ◌∷◌, ◌++◌, Option, Some, None}
use Rattle.row_bag.specs.Bags.{bind, keep, unit}
use Rattle.row_bag.specs.Errors.{error_in}
use Rattle.row_bag.specs.Sets.{collapsed, distinct, except, except_all, intersect, intersect_all, same_cells, union}
use Rattle.row_bag.specs.declared.row.Row.{Row}
use Rattle.sql_ast.specs.declared.word.SetOperator.{SetOperator}
use Rattle.sql_ast.specs.declared.word.SetOperator.TheVariants as operator
use Rattle.sql_value.specs.declared.cell.Cell.{Cell}
use Rattle.sql_value.specs.declared.cell.Kind.{Kind}
use Rattle.sql_value.specs.declared.truth.Truth.{Truth}
use Rattle.sql_meaning.specs.Names.{Relation}
use Rattle.sql_meaning.specs.Scopes.{Frame}
pub use Rattle.row_bag.specs.Joins.{how_many, left_join, or_else, partners, product}

-- ---- FROM

-- a table's rows, each as a frame of one range; none where there is no such table, which isn't so in a valid query
abbrev pub ranged : List ℕ → Option Relation → List (Row Frame)
ranged name None = []
ranged name (Some table) = bind table.rows (λ cells. unit (record { name = name; columns = table.columns; cells = cells } ∷ []))

-- the rows that a condition keeps, each at the least of its level and the condition's true-level
abbrev pub kept : {T : Type 0} → (T → Truth) → List (Row T) → List (Row T)
kept test rows = bind rows (λ row. keep (test row).t (unit row))

-- ---- blocks

-- what a list gives of each of the rows that a condition keeps
abbrev pub selected : {T : Type 0} → (T → Truth) → (T → List Cell) → List (Row T) → List (Row (List Cell))
selected test list rows = bind rows (λ row. keep (test row).t (unit (list row)))

-- with DISTINCT each tuple once, at its greatest level
abbrev pub distinct_if : Bool → List (Row (List Cell)) → List (Row (List Cell))
distinct_if true rows = distinct same_cells rows
distinct_if false rows = rows

-- ---- set operations, with ALL where true stands; what one row of an error is

-- UNION keeps each tuple once at its greatest level, UNION ALL appends; EXCEPT is one row of the greatest error where an operand has one
abbrev pub combined : SetOperator → Bool → (Kind → List Cell) → List (Row (List Cell)) → List (Row (List Cell)) → List (Row (List Cell))
combined operator.Union true failed xs ys = xs ++ ys
combined operator.Union false failed xs ys = union same_cells xs ys
combined operator.Except true failed xs ys = collapsed error_in failed (xs ++ ys) (except_all same_cells xs ys)
combined operator.Except false failed xs ys = collapsed error_in failed (xs ++ ys) (except same_cells xs ys)

-- INTERSECT is one row of the greatest error where an operand has one
abbrev pub intersected : Bool → (Kind → List Cell) → List (Row (List Cell)) → List (Row (List Cell)) → List (Row (List Cell))
intersected true failed xs ys = collapsed error_in failed (xs ++ ys) (intersect_all same_cells xs ys)
intersected false failed xs ys = collapsed error_in failed (xs ++ ys) (intersect same_cells xs ys)
