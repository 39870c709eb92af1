-- The table that its file holds, or why it is refused.
use Rattle.std.specs.Prelude.{ℕ, List, ◌++◌, Option, Some, None, Result, Ok, Err, codes, encode_utf8_all}
use Rattle.io_edge.specs.Outcome.{Outcome, done, read, ◌>>=◌}
use Rattle.io_edge.specs.Outside.{File}
use Rattle.row_bag.specs.declared.row.Row.{Row}
use Rattle.sql_value.specs.declared.cell.Cell.{Cell}
use Rattle.row_bag.specs.declared.tables.Table.{Table}
use Rattle.sql_ast.specs.declared.schema.TableDecl.{TableDecl}
use Rattle.sql_catalog.specs.Descriptor.{describe}
use Rattle.csv_tables.specs.declared.rule.Rule.TheVariants.{TooManyRows}
use Rattle.csv_tables.specs.Rules.{Fault, number_of}
use Rattle.csv_tables.specs.Tables.{at_header, table_rows}

-- the number of the rule that is broken, the table, and the record, where the header is record 0
pub record Refusal : Type 0 where
  pub number : ℕ
  pub table : List ℕ
  pub row : ℕ

abbrev pub refused : TableDecl → Fault → Refusal
refused d fault = record { number = number_of fault.rule; table = d.name; row = fault.record_number }

abbrev pub table_with : TableDecl → Result (List (Row (List Cell))) Fault → Result Table Refusal
table_with d (Ok rows) = Ok (record { name = d.name; bag = rows })
table_with d (Err fault) = Err (refused d fault)

-- the table that these bytes hold; they are none where they are more than the limit
abbrev pub table_of : TableDecl → Option (List ℕ) → Result Table Refusal
table_of d None = Err (refused d (at_header TooManyRows))
table_of d (Some bytes) = table_with d (table_rows (describe d.elements) bytes)

-- the directory, `/`, the table's name in UTF-8, and `.csv`
abbrev pub path_of : List ℕ → List ℕ → List ℕ
path_of dir name = dir ++ (codes "/" ++ (encode_utf8_all name ++ codes ".csv"))

-- the table, from its file of at most 67,108,864 bytes
abbrev pub table_read : TableDecl → List ℕ → List File → Outcome (Result Table Refusal)
table_read d dir files = read files (path_of dir d.name) 67108864 >>= (λ bytes. done (table_of d bytes))

-- the rest, unless this is a refusal
abbrev pub or_refused : {X Y : Type 0} → (X → Outcome (Result Y Refusal)) → Result X Refusal → Outcome (Result Y Refusal)
or_refused rest (Ok x) = rest x
or_refused rest (Err why) = done (Err why)

-- first this, and then the rest, unless this comes to a refusal
abbrev pub unless_refused : {X Y : Type 0} → Outcome (Result X Refusal) → (X → Outcome (Result Y Refusal)) → Outcome (Result Y Refusal)
unless_refused first rest = first >>= (λ result. or_refused rest result)
