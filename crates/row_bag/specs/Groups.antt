-- Groups of rows by their first cells.
use Rattle.std.specs.Prelude.{ℕ, List, take, Option, None}
use Rattle.sql_value.specs.Cells.{worst_of}
use Rattle.sql_value.specs.declared.cell.Cell.{Cell}
use Rattle.sql_value.specs.declared.cell.Kind.{Kind}
use Rattle.row_bag.specs.Bags.{bind, if_there, unit}
use Rattle.row_bag.specs.Errors.{error_among, error_at, error_in}
use Rattle.row_bag.specs.Sets.{of_group, once, same_cells}
use Rattle.row_bag.specs.declared.row.Row.{Row}

-- the first n cells of each row that is there, each tuple of them once
abbrev pub keys_of : ℕ → List (Row (List Cell)) → List (Row (List Cell))
keys_of n rows = once same_cells (bind rows (λ cells. unit (take n cells)))

-- the rows whose first n cells are this key, in their order
abbrev pub rows_of : ℕ → List Cell → List (Row (List Cell)) → List (Row (List Cell))
rows_of n key rows = of_group same_cells (take n) key rows

-- the greatest error of a row among its level and its first n cells; none of a row that isn't there
abbrev pub key_error_of : ℕ → Row (List Cell) → Option Kind
key_error_of n r = if_there None (λ cells level. worst_of (error_at level) (error_in (take n cells))) r.cells r.level

-- the greatest error among the levels and the first n cells of the rows that are there
abbrev pub key_error : ℕ → List (Row (List Cell)) → Option Kind
key_error n rows = error_among (λ cells. error_in (take n cells)) rows
