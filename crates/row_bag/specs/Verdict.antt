-- The answer of a query: its rows, or the greatest error that they hold.
use Rattle.std.specs.Prelude.{Bool, true, false, List, Option, Some, None, filter}
use Rattle.sql_value.specs.Cells.{worst_of}
use Rattle.sql_value.specs.declared.cell.Cell.{Cell}
use Rattle.sql_value.specs.declared.cell.Kind.{Kind}
use Rattle.row_bag.specs.Bags.{if_there}
use Rattle.row_bag.specs.Errors.{error_among, error_at, error_in}
use Rattle.row_bag.specs.declared.row.Row.{Row}
use Rattle.row_bag.specs.declared.outcome.Verdict.{Verdict}
use Rattle.row_bag.specs.declared.outcome.Verdict.TheVariants.{Rows, Error}

-- the greatest error of a row: of its level and its cells where it is there, and else none
abbrev pub error_of_row : Row (List Cell) → Option Kind
error_of_row r = if_there None (λ cells level. worst_of (error_at level) (error_in cells)) r.cells r.level

-- a row is there
abbrev pub is_there : {T : Type 0} → Row T → Bool
is_there r = if_there false (λ cells level. true) r.cells r.level

-- the rows that are there, in their order
abbrev pub those_there : {T : Type 0} → List (Row T) → List (Row T)
those_there rows = filter is_there rows

-- the error, where there is one, and else these rows
abbrev pub error_or_rows : Option Kind → List (Row (List Cell)) → Verdict
error_or_rows (Some k) rows = Error k
error_or_rows None rows = Rows rows

-- the greatest error among the rows that are there, where there is one, and else all of them
abbrev pub verdict : List (Row (List Cell)) → Verdict
verdict rows = error_or_rows (error_among error_in rows) (those_there rows)
