-- The keys of a table, with their cells in the records so far.
use Rattle.std.specs.Prelude.{Bool, List, [], ◌∷◌, ◌++◌, Option, Some, None}
use Rattle.row_bag.specs.declared.row.Row.{Row}
use Rattle.sql_value.specs.declared.cell.Cell.{Cell}
use Rattle.sql_catalog.specs.declared.descriptor.KeyDescriptor.{KeyDescriptor}
use Rattle.csv_tables.specs.declared.content.Content.{Content}
use Rattle.csv_tables.specs.declared.seen.SeenKey.{SeenKey}
use Rattle.csv_tables.specs.KeyCells.{is_among, key_cells, keys_in}

abbrev pub nothing_of : KeyDescriptor → SeenKey
nothing_of k = record { key = k; cells = [] }

abbrev pub has_seen : List Content → SeenKey → Bool
has_seen xs s = is_among s.cells (key_cells s.key xs)

-- those that stand, and the cells of one more record last, where they count
abbrev pub and_some : List (List Cell) → Option (List Cell) → List (List Cell)
and_some tuples None = tuples
and_some tuples (Some cells) = tuples ++ cells ∷ []

abbrev pub seen_with : List Content → SeenKey → SeenKey
seen_with xs s = record { key = s.key; cells = and_some s.cells (key_cells s.key xs) }

-- the keys after these rows
abbrev pub seen_in : List (Row (List Cell)) → KeyDescriptor → SeenKey
seen_in rows k = record { key = k; cells = keys_in k rows }
