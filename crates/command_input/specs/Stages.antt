-- What the files of a schema, of a query and of tables are to come to: the names that are read, in order, and a question, or the report that refuses them.
-- The order is one: schema, views, query, tables. The first refusal in this order is the report.
use Rattle.std.specs.Prelude.{ℕ, List, [], Option, Some, None, Result, Ok, Err, encode_utf8_all}
use Rattle.csv_tables.specs.Load.{tables_of}
use Rattle.csv_tables.specs.TableFile.{Refusal}
use Rattle.io_edge.specs.Outcome.{Ended, Outcome, answered, done, faulted, read, starved, ◌>>=◌}
use Rattle.io_edge.specs.Outside.{File}
use Rattle.io_edge.specs.declared.fetch.Interruption.{Interruption}
use Rattle.io_edge.specs.declared.fetch.Interruption.TheVariants.{ReadFault, Memory}
use Rattle.row_bag.specs.declared.tables.Table.{Table}
use Rattle.sql_ast.specs.Syntax as s
use Rattle.sql_ast.specs.Declarations.{Declared}
use Rattle.sql_faults.specs.Views.{view_refusal}
use Rattle.command_input.specs.Questions.{Request, request_of}
use Rattle.command_input.specs.Texts.{catalog_of, valid_query}
use Rattle.command_input.specs.declared.question.Request as held
use Rattle.command_input.specs.declared.report.Report.TheVariants.{SchemaRefused, ViewRefused, DataRefused, QueryRefused}

-- the question, once the tables are read, or the report that refuses them
abbrev pub with_tables : Declared → s.QueryText → Result (List Table) Refusal → Request
with_tables catalog query (Ok tables) = Ok (record { catalog = catalog; query = query; tables = tables })
with_tables catalog query (Err why) = Err (DataRefused why.number why.table why.row)

-- the tables' files are read
abbrev pub from_tables : List ℕ → Declared → s.QueryText → List File → Outcome Request
from_tables dir catalog query files = tables_of catalog.tables dir files >>= (λ tables. done (with_tables catalog query tables))

-- the question over the tables of a folder; over none where there is no folder, and no table is read
unfoldable pub from_folder : Option (List ℕ) → Declared → s.QueryText → List File → Outcome Request
from_folder None catalog query files = done (Ok (record { catalog = catalog; query = query; tables = [] }))
from_folder (Some dir) catalog query files = from_tables dir catalog query files

-- the query, or the number that refuses it; and then the tables
unfoldable pub with_query : Option (List ℕ) → Declared → List File → Result s.QueryText ℕ → Outcome Request
with_query dir catalog files (Err number) = done (Err (QueryRefused number))
with_query dir catalog files (Ok query) = from_folder dir catalog query files

-- the query's file is read, and then the tables' files
abbrev pub from_query : List ℕ → Option (List ℕ) → Declared → List File → Outcome Request
from_query query dir catalog files = read files query 65536 >>= (λ text. with_query dir catalog files (valid_query catalog text))

-- the first view that isn't valid, or none; and then the query
unfoldable pub with_views : List ℕ → Option (List ℕ) → Declared → List File → Option (List ℕ × ℕ) → Outcome Request
with_views query dir catalog files (Some (view, number)) = done (Err (ViewRefused view number))
with_views query dir catalog files None = from_query query dir catalog files

-- the catalog, or the number that refuses the schema; and then its views
unfoldable pub with_catalog : List ℕ → Option (List ℕ) → List File → Result Declared ℕ → Outcome Request
with_catalog query dir files (Err number) = done (Err (SchemaRefused number))
with_catalog query dir files (Ok catalog) = with_views query dir catalog files (view_refusal catalog)

-- the schema's file is read, and then the query's
abbrev pub from_schema : List ℕ → List ℕ → Option (List ℕ) → List File → Outcome Request
from_schema schema query dir files = read files schema 65536 >>= (λ text. with_catalog query dir files (catalog_of text))

-- how the search for a question ended
abbrev pub request_end : Result held.Request Interruption → Ended Request
request_end (Ok found) = answered (request_of found)
request_end (Err (ReadFault name)) = faulted (encode_utf8_all name)
request_end (Err Memory) = starved
