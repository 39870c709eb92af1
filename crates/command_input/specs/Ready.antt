-- What the program knows of a query that it has checked.
use Rattle.std.specs.Prelude.{ℕ, ◌≡◌, ⊤, true, List, [], Option, None, Some, map}
use Rattle.csv_tables.specs.Fits.{FitsSchema}
use Rattle.row_bag.specs.declared.tables.Table.{Table}
use Rattle.sql_ast.specs.Declarations.{Declared}
use Rattle.sql_ast.specs.Grammatical.{is_query}
use Rattle.sql_ast.specs.Shown as written
use Rattle.sql_ast.specs.Syntax as s
use Rattle.sql_catalog.specs.Catalog.{fault}
use Rattle.sql_catalog.specs.Shown as catalogs
use Rattle.sql_check.specs.Checked.{AreViews, IsFilled, answer_of}
use Rattle.sql_check.specs.declared.checked.Checked.{Checked}
use Rattle.sql_check.specs.declared.checked.Views.{Views}
use Rattle.sql_meaning.specs.Meaning.{answer, known_of, order_key}
use Rattle.sql_meaning.specs.ResolvedShown as shown
use Rattle.sql_faults.specs.Columns.{columns}
use Rattle.sql_faults.specs.Laws.{column_names}
use Rattle.sql_faults.specs.Views.{fault as query_fault, heads_of}
use Rattle.sql_names.specs.Resolved.{query}
use Rattle.sql_names.specs.Schema.{schema_columns}
use Rattle.qgm_translation_laws.specs.Buildable.{AreQueries}
use Rattle.command_input.specs.declared.question.Request.{Request}
use Rattle.command_input.specs.declared.question.Request.TheVariants.{Asked, Refused}
use Rattle.command_input.specs.declared.question.Question.{Question}

-- the views of a schema that isn't refused, and is of the grammar
pub record AreReady (catalog : Declared) (views : Views) : Type 0 where
  pub valid : fault catalog ≡ None
  pub queries : AreQueries catalog.views
  pub of_catalog : AreViews catalog views

-- a text of the grammar is a valid query, and this is it with its names resolved: its columns, names and keys are the query's, and over all tables of the catalog it has the answer of the text
pub record IsChecked (catalog : Declared) (views : Views) (text : s.QueryText) (x : Checked) : Type 0 where
  pub grammar : is_query text.query ≡ true
  pub valid : query_fault catalog text ≡ 0
  pub query : shown.query x.query ≡ query (schema_columns catalog) [] text.query
  pub columns : x.columns ≡ columns (heads_of catalog) text.query []
  pub names : x.names ≡ column_names x.columns
  pub order : x.order ≡ map (order_key x.names) text.order
  pub answer : (tables : List Table) → IsFilled catalog tables → answer_of views x tables ≡ answer (known_of catalog tables) text

-- the query of a question is checked
pub record IsSound (q : Question) : Type 0 where
  pub views : AreReady (catalogs.catalog q.catalog) q.views
  pub checked : IsChecked (catalogs.catalog q.catalog) q.views (written.query_text q.valid.query) q.valid.checked

-- a question may be answered: its query is checked, and its tables fit the catalog
pub record IsReady (q : Question) : Type 0 where
  pub views : AreReady (catalogs.catalog q.catalog) q.views
  pub checked : IsChecked (catalogs.catalog q.catalog) q.views (written.query_text q.valid.query) q.valid.checked
  pub tables : FitsSchema (catalogs.catalog q.catalog).tables q.tables

-- a question that was found may be
abbrev pub IsRequestReady : Request → Type 0
IsRequestReady (Asked q) = IsReady q
IsRequestReady (Refused report) = ⊤

-- the query of a question that was found is checked
abbrev pub IsRequestSound : Request → Type 0
IsRequestSound (Asked q) = IsSound q
IsRequestSound (Refused report) = ⊤

-- a question that was found may be answered where there is a folder of tables, else its query is checked
abbrev pub IsRequestReadyOver : Option (List ℕ) → Request → Type 0
IsRequestReadyOver None found = IsRequestSound found
IsRequestReadyOver (Some dir) found = IsRequestReady found
