-- The rows that the bytes of a table's file stand for, or the first rule that is broken.
use Rattle.std.specs.Prelude.{ℕ, ◌+◌, ◌==◌, ◌&&◌, ◌||◌, if◌then◌else◌, nat_le, Bool, true, false, map, List, [], ◌∷◌, ◌++◌, length, Option, Some, None, Result, Ok, Err, encode_utf8_all}
use Rattle.std.specs.Char.{to_ascii_uppercase}
use Rattle.std.specs.Cmp.Lexicographic.{pointwise}
use Rattle.std.specs.List.{list_any}
use Rattle.std.specs.Str.{bytes_eq}
use Rattle.row_bag.specs.declared.row.Row.{Row}
use Rattle.sql_catalog.specs.declared.descriptor.ColumnDescriptor.{ColumnDescriptor}
use Rattle.sql_catalog.specs.declared.descriptor.TableDescriptor.{TableDescriptor}
use Rattle.sql_value.specs.declared.cell.Cell.{Cell}
use Rattle.sql_value.specs.declared.level.Level.TheVariants.{Yes}
use Rattle.csv_tables.specs.declared.content.Content.{Content}
use Rattle.csv_tables.specs.declared.content.Content.TheVariants as content
use Rattle.csv_tables.specs.declared.rule.Rule.{Rule}
use Rattle.csv_tables.specs.declared.rule.Rule.TheVariants.{Header, FieldCount, BadInteger, TooLong, NullInNotNull, DuplicateKey, BadUtf8, TooManyRows}
use Rattle.csv_tables.specs.Contents.{content_of}
use Rattle.csv_tables.specs.KeyCells.{is_null_cell, repeats}
use Rattle.csv_tables.specs.Records.{Fields, records_of}
use Rattle.csv_tables.specs.Rules.{Fault}

-- the first, and then the rest with it; a fault ends it
infixl 10 ◌>>=◌
abbrev pub ◌>>=◌ : {A B : Type 0} → Result A Fault → (A → Result B Fault) → Result B Fault
Ok x >>= rest = rest x
Err fault >>= rest = Err fault

-- what the fields of a record hold, each by its column's type
unfoldable pub contents_of : List ColumnDescriptor → Fields → List Content
contents_of [] fs = []
contents_of (c ∷ cs) [] = []
contents_of (c ∷ cs) (f ∷ fs) = content_of c.data_type f ∷ contents_of cs fs

-- the cells among them
abbrev pub cells_of : List Content → List Cell
cells_of [] = []
cells_of (content.Holds c ∷ xs) = c ∷ cells_of xs
cells_of (content.BadInteger ∷ xs) = cells_of xs
cells_of (content.TooLong ∷ xs) = cells_of xs
cells_of (content.BadUtf8 ∷ xs) = cells_of xs

abbrev pub is_bad_integer : Content → Bool
is_bad_integer (content.Holds c) = false
is_bad_integer content.BadInteger = true
is_bad_integer content.TooLong = false
is_bad_integer content.BadUtf8 = false

abbrev pub is_too_long : Content → Bool
is_too_long (content.Holds c) = false
is_too_long content.BadInteger = false
is_too_long content.TooLong = true
is_too_long content.BadUtf8 = false

abbrev pub is_bad_utf8 : Content → Bool
is_bad_utf8 (content.Holds c) = false
is_bad_utf8 content.BadInteger = false
is_bad_utf8 content.TooLong = false
is_bad_utf8 content.BadUtf8 = true

abbrev pub holds_null : Content → Bool
holds_null (content.Holds c) = is_null_cell c
holds_null content.BadInteger = false
holds_null content.TooLong = false
holds_null content.BadUtf8 = false

-- null in a column that takes none
abbrev pub has_refused_null : List ColumnDescriptor → List Content → Bool
has_refused_null [] xs = false
has_refused_null (c ∷ cs) [] = false
has_refused_null (c ∷ cs) (x ∷ xs) = (c.not_null && holds_null x) || has_refused_null cs xs

-- the rule of the least number that a record of these contents breaks after these rows; a table has at most 1,000,000 rows
unfoldable pub broken_by : TableDescriptor → List (Row (List Cell)) → List Content → Option Rule
broken_by t before xs =
    if list_any is_bad_integer xs then Some BadInteger
    else if list_any is_too_long xs then Some TooLong
    else if has_refused_null t.columns xs then Some NullInNotNull
    else if list_any (repeats before xs) t.keys then Some DuplicateKey
    else if list_any is_bad_utf8 xs then Some BadUtf8
    else if nat_le 1000000 (length before) then Some TooManyRows
    else None

-- a row of a table, which is wholly there
abbrev pub table_row : List Cell → Row (List Cell)
table_row cells = record { cells = cells; level = Yes }

-- a row of these cells, unless the record breaks a rule; a record's number is one more than the number of the rows before it
abbrev pub row_unless : ℕ → List Cell → Option Rule → Result (Row (List Cell)) Fault
row_unless before cells None = Ok (table_row cells)
row_unless before cells (Some rule) = Err (record { rule = rule; record_number = before + 1 })

abbrev pub row_of_contents : TableDescriptor → List (Row (List Cell)) → List Content → Result (Row (List Cell)) Fault
row_of_contents t before xs = row_unless (length before) (cells_of xs) (broken_by t before xs)

-- the row of a record that follows these rows: exactly one field for each column
unfoldable pub row_after : TableDescriptor → List (Row (List Cell)) → Fields → Result (Row (List Cell)) Fault
row_after t before fields =
    if length fields == length t.columns then row_of_contents t before (contents_of t.columns fields)
    else row_unless (length before) [] (Some FieldCount)

-- these rows, and then a row for each record, up to the first that breaks a rule
unfoldable pub rows_after : TableDescriptor → List (Row (List Cell)) → List Fields → Result (List (Row (List Cell))) Fault
rows_after t before [] = Ok before
rows_after t before (r ∷ rs) = do
  row ← row_after t before r
  rows_after t (before ++ row ∷ []) rs

-- a field of the header is for the column of a name that it equals in UTF-8, or that its ASCII upper-case form equals
abbrev pub fits_name : List ℕ → List ℕ → Bool
fits_name name field = bytes_eq field (encode_utf8_all name) || bytes_eq (map to_ascii_uppercase field) (encode_utf8_all name)

abbrev pub fits_column : ColumnDescriptor → List ℕ → Bool
fits_column c field = fits_name c.name field

-- a rule that the header breaks, or the file as a whole
abbrev pub at_header : Rule → Fault
at_header rule = record { rule = rule; record_number = 0 }

-- the rows under a header that has exactly the columns, in declared order
abbrev pub under_header : TableDescriptor → List Fields → Result (List (Row (List Cell))) Fault
under_header t [] = Err (at_header Header)
under_header t (header ∷ records) = if pointwise fits_column t.columns header then rows_after t [] records else Err (at_header Header)

-- the rows of a table's file, in its order
unfoldable pub table_rows : TableDescriptor → List ℕ → Result (List (Row (List Cell))) Fault
table_rows t bytes = under_header t (records_of bytes)
