-- The keys of rows that are loaded, and then the records that are left.
use Rattle.std.specs.Prelude.{◌≡◌, ◌+◌, if◌then◌else◌, Bool, true, false, List, [], ◌∷◌, ◌++◌, length, map, Result, Ok, Err}
use Rattle.std.specs.List.{list_any}
use Rattle.row_bag.specs.declared.row.Row.{Row}
use Rattle.sql_value.specs.declared.cell.Cell.{Cell}
use Rattle.sql_catalog.specs.declared.descriptor.KeyDescriptor.{KeyDescriptor}
use Rattle.sql_catalog.specs.declared.descriptor.TableDescriptor.{TableDescriptor}
use Rattle.csv_tables.specs.declared.rule.Rule.TheVariants.{DuplicateKey}
use Rattle.csv_tables.specs.declared.seen.SeenKey.{SeenKey}
use Rattle.csv_tables.specs.KeyCells.{contents_in, repeats}
use Rattle.csv_tables.specs.Records.{Fields}
use Rattle.csv_tables.specs.Rules.{Fault}
use Rattle.csv_tables.specs.Seen.{seen_in}
use Rattle.csv_tables.specs.Tables.{◌>>=◌, rows_after}

-- the columns of a table, with these keys
abbrev pub with_keys : TableDescriptor → List KeyDescriptor → TableDescriptor
with_keys t ks = record { columns = t.columns; keys = ks }

-- the record that follows these rows repeats a key
abbrev pub repeated : List (Row (List Cell)) → Fault
repeated before = record { rule = DuplicateKey; record_number = length before + 1 }

-- the keys with the cells of the rows that stand and of these, up to the first that repeats a key
unfoldable pub keys_checked : List KeyDescriptor → List (Row (List Cell)) → List (Row (List Cell)) → Result (List SeenKey) Fault
keys_checked ks before [] = Ok (map (seen_in before) ks)
keys_checked ks before (row ∷ rows) = if list_any (repeats before (contents_in row)) ks then Err (repeated before) else keys_checked ks (before ++ row ∷ []) rows

-- these rows, once their keys are checked, and then a row for each record that is left
abbrev pub checked : TableDescriptor → List (Row (List Cell)) → List Fields → Result (List (Row (List Cell))) Fault
checked t rows rs = do
  seen ← keys_checked t.keys [] rows
  rows_after t rows rs

-- the record that stopped, and those after it
abbrev pub left : Bool → Fields → List Fields → List Fields
left true fields rs = fields ∷ rs
left false fields rs = []

-- under any keys, reading these records comes to checking the rows that were taken, and then the records that are left
abbrev pub TakesRows : TableDescriptor → List Fields → List (Row (List Cell)) → List Fields → Type 0
TakesRows keyless records rows rest = (keys : List KeyDescriptor) → rows_after (with_keys keyless keys) [] records ≡ checked (with_keys keyless keys) rows rest
