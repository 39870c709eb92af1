-- Rows of which no two have equal cells of a key, and hashes of such cells.
use Rattle.std.specs.Prelude.{ℕ, Bool, true, ◌&&◌, not, fold, List, [], ◌∷◌, ◌++◌}
use Rattle.std.specs.Hash.FoldHasher.{finish, initial, write}
use Rattle.std.specs.List.{list_all}
use Rattle.std.specs.declared.hash.FoldHasher.{FoldHasher}
use Rattle.row_bag.specs.declared.row.Row.{Row}
use Rattle.sql_value.specs.declared.cell.Cell.{Cell}
use Rattle.sql_catalog.specs.declared.descriptor.KeyDescriptor.{KeyDescriptor}
use Rattle.csv_tables.specs.KeyCells.{cell_writes, contents_in, repeats}

-- the cells of the key in each of these rows differ from those in each row before it, the rows that stand among them
unfoldable pub rows_differ : KeyDescriptor → List (Row (List Cell)) → List (Row (List Cell)) → Bool
rows_differ k before [] = true
rows_differ k before (row ∷ rows) = not (repeats before (contents_in row) k) && rows_differ k (before ++ row ∷ []) rows

-- the rows differ in each of these keys
abbrev pub keys_differ : List KeyDescriptor → List (Row (List Cell)) → Bool
keys_differ ks rows = list_all (λ k. rows_differ k [] rows) ks

-- a hasher that is fed one more cell
abbrev pub fed_with : FoldHasher → Cell → FoldHasher
fed_with hasher cell = fold write hasher (cell_writes cell)

-- the hash of cells
abbrev pub hash_of : List Cell → ℕ
hash_of cells = finish (fold fed_with initial cells)
