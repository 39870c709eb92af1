-- The cells of keys.
use Rattle.std.specs.Prelude.{ℕ, if◌then◌else◌, Bool, true, false, map, List, [], ◌∷◌, slice_get, Option, Some, None, option_and_then}
use Rattle.std.specs.Cmp.Lexicographic.{pointwise}
use Rattle.std.specs.Hash as fed
use Rattle.std.specs.List.{list_any}
use Rattle.std.specs.Ordering.{eq_by_cmp}
use Rattle.row_bag.specs.declared.row.Row.{Row}
use Rattle.sql_value.specs.Cells.{cell_compare}
use Rattle.sql_value.specs.declared.cell.Cell.{Cell}
use Rattle.sql_value.specs.declared.cell.Cell.TheVariants as cell
use Rattle.sql_catalog.specs.declared.descriptor.KeyDescriptor.{KeyDescriptor}
use Rattle.csv_tables.specs.declared.content.Content.{Content}
use Rattle.csv_tables.specs.declared.content.Content.TheVariants.{Holds, BadInteger, TooLong, BadUtf8}

abbrev pub is_null_cell : Cell → Bool
is_null_cell (cell.Int z) = false
is_null_cell (cell.Text text) = false
is_null_cell cell.Null = true
is_null_cell (cell.Err k) = false

-- two cells tie in the order of cells, and so are equal
abbrev pub same_cell : Cell → Cell → Bool
same_cell = eq_by_cmp cell_compare

abbrev pub same_cells : List Cell → List Cell → Bool
same_cells = pointwise same_cell

-- the first, and then the rest with it; none where there is no first
infixl 10 ◌>>=◌
abbrev pub ◌>>=◌ : {A B : Type 0} → Option A → (A → Option B) → Option B
first >>= rest = option_and_then rest first

-- the cell that a field holds
abbrev pub held : Option Content → Option Cell
held None = None
held (Some (Holds c)) = Some c
held (Some BadInteger) = None
held (Some TooLong) = None
held (Some BadUtf8) = None

-- the cells at these places of a record, or none where one of its fields holds no cell
unfoldable pub cells_at : List ℕ → List Content → Option (List Cell)
cells_at [] xs = Some []
cells_at (p ∷ ps) xs = do
  cell ← held (slice_get xs p)
  cells ← cells_at ps xs
  Some (cell ∷ cells)

-- a key of these cells counts, unless it is UNIQUE and one of them is null
abbrev pub if_counted : Bool → List Cell → Option (List Cell)
if_counted primary cells = if primary then Some cells else if list_any is_null_cell cells then None else Some cells

-- the cells of a key in a record, where they count
abbrev pub key_cells : KeyDescriptor → List Content → Option (List Cell)
key_cells k xs = do
  cells ← cells_at k.places xs
  if_counted k.primary cells

-- what the fields of a row held
abbrev pub contents_in : Row (List Cell) → List Content
contents_in row = map (λ (c : Cell). Holds c) row.cells

abbrev pub with_some : Option (List Cell) → List (List Cell) → List (List Cell)
with_some None tuples = tuples
with_some (Some cells) tuples = cells ∷ tuples

-- the cells of a key in each of these rows, where they count
abbrev pub keys_in : KeyDescriptor → List (Row (List Cell)) → List (List Cell)
keys_in k [] = []
keys_in k (row ∷ rows) = with_some (key_cells k (contents_in row)) (keys_in k rows)

abbrev pub is_among : List (List Cell) → Option (List Cell) → Bool
is_among tuples None = false
is_among tuples (Some cells) = list_any (same_cells cells) tuples

-- the cells of a key in a record count, and equal those of an earlier row
abbrev pub repeats : List (Row (List Cell)) → List Content → KeyDescriptor → Bool
repeats before xs k = is_among (keys_in k before) (key_cells k xs)

-- what a hash is fed of a cell
abbrev pub cell_writes : Cell → fed.HashWrites
cell_writes (cell.Int z) = fed.i64 z
cell_writes (cell.Text text) = fed.slice fed.char text
cell_writes cell.Null = fed.u8 0
cell_writes (cell.Err k) = fed.u8 1
