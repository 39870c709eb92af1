-- The order of rows.
use Rattle.std.specs.Prelude.{ℕ, Bool, List, [], ◌∷◌, get_or, if◌then◌else◌}
use Rattle.std.specs.Cmp.Lexicographic.{slice_cmp}
use Rattle.std.specs.Ordering.{is_lt, nat_cmp, ordering_then}
use Rattle.std.specs.declared.cmp.Ordering.{Ordering}
use Rattle.sql_value.specs.Cells.{cell_compare}
use Rattle.sql_value.specs.Level.{rank}
use Rattle.sql_value.specs.declared.cell.Cell.{Cell}
use Rattle.sql_value.specs.declared.cell.Cell.TheVariants.{Null}
use Rattle.sql_value.specs.declared.order_key.OrderKey.{OrderKey}
use Rattle.row_bag.specs.declared.row.Row.{Row}

-- the first cells that differ decide, from the left, and else the numbers of cells, and else the levels: rows that tie are equal then, and rows of an answer, all at yes, are ordered by their cells alone
abbrev pub row_compare : Row (List Cell) → Row (List Cell) → Ordering
row_compare a b = ordering_then (slice_cmp cell_compare a.cells b.cells) (nat_cmp (rank a.level) (rank b.level))

-- the cell of a column, counted from 1; null where the row has no such column
abbrev pub cell_of : ℕ → List Cell → Cell
cell_of column cells = get_or (Null ∷ cells) column Null

-- by the cells of the key's column: ascending with null first, or the reverse of it
abbrev pub key_compare : OrderKey → Row (List Cell) → Row (List Cell) → Ordering
key_compare key a b =
    if key.descending then cell_compare (cell_of key.column b.cells) (cell_of key.column a.cells) else cell_compare (cell_of key.column a.cells) (cell_of key.column b.cells)

-- by the keys, the first of which decides first, and where they tie by all columns ascending
abbrev pub compare_by : List OrderKey → Row (List Cell) → Row (List Cell) → Ordering
compare_by [] a b = row_compare a b
compare_by (key ∷ keys) a b = ordering_then (key_compare key a b) (compare_by keys a b)

-- the first row stands below the second
abbrev pub row_less : List OrderKey → Row (List Cell) → Row (List Cell) → Bool
row_less keys a b = is_lt (compare_by keys a b)
