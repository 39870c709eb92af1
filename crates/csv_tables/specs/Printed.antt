-- The text of a header and rows.
use Rattle.std.specs.Prelude.{ℕ, ◌+◌, true, map, List, [], ◌∷◌, ◌++◌, Option, Some, None, codes, decimal, encode_utf8_all}
use Rattle.std.specs.List.{flat_map}
use Rattle.csv.specs.Writing.{default_writer, row_text, with_flexible}
use Rattle.csv.specs.declared.writer.WriterBuilder.{WriterBuilder}
use Rattle.row_bag.specs.declared.row.Row.{Row}
use Rattle.sql_value.specs.declared.cell.Cell.{Cell}
use Rattle.csv_tables.specs.Cells.{cell_text}
use Rattle.csv_tables.specs.Records.{Fields}

-- the name of the column of a place, from 1; COLn where it has none
abbrev pub column_text : ℕ → Option (List ℕ) → List ℕ
column_text place None = codes "COL" ++ decimal place
column_text place (Some name) = encode_utf8_all name

-- the names of columns, of which the first has this place
unfoldable pub header_from : ℕ → List (Option (List ℕ)) → Fields
header_from place [] = []
header_from place (name ∷ names) = column_text place name ∷ header_from (place + 1) names

-- the defaults of `csv`, with a line feed at the end of a record
abbrev pub row_writer : WriterBuilder
row_writer = with_flexible default_writer true

abbrev pub rows_text : List Fields → List ℕ
rows_text rows = flat_map (row_text row_writer) rows

abbrev pub row_fields : Row (List Cell) → Fields
row_fields row = map cell_text row.cells

abbrev pub printed_rows : List (Option (List ℕ)) → List (Row (List Cell)) → List ℕ
printed_rows names rows = rows_text (header_from 1 names ∷ map row_fields rows)
