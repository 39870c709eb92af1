-- Valid queries and views with their names resolved, and what they mean by places.
use Rattle.std.specs.Prelude.{◌≡◌, ℕ, List, [], None}
use Rattle.row_bag.specs.Tables.{bag_named}
use Rattle.row_bag.specs.Verdict.{verdict}
use Rattle.row_bag.specs.declared.row.Row.{Row}
use Rattle.row_bag.specs.declared.tables.Table.{Table}
use Rattle.sql_ast.specs.Declarations.{Declared, table_named}
use Rattle.sql_catalog.specs.Catalog.{fault}
use Rattle.sql_meaning.specs.Meaning.{Answer, relation_of}
use Rattle.sql_meaning.specs.Meaning as named
use Rattle.sql_value.specs.declared.cell.Cell.{Cell}
use Rattle.sql_meaning.specs.ResolvedMeaning as places
use Rattle.sql_meaning.specs.ResolvedShown as shown
use Rattle.sql_meaning.specs.ResolvedViews.{known_of}
use Rattle.sql_faults.specs.Views.{view_heads, view_refusal}
use Rattle.sql_names.specs.Agreed.{IsWide}
use Rattle.sql_names.specs.Schema.{schema_columns, view_trees}
use Rattle.sql_names.specs.Shapes.{columns_among}
use Rattle.sql_check.specs.declared.checked.Checked.{Checked}
use Rattle.sql_check.specs.declared.checked.Views.{Views}

-- the views of a catalog, all of which are valid
pub record AreViews (catalog : Declared) (views : Views) : Type 0 where
  -- no view is refused
  pub valid : view_refusal catalog ≡ None
  -- the columns of the views, with their types
  pub heads : views.heads.list ≡ view_heads catalog
  -- the names of the columns of tables and views
  pub columns : columns_among views.schema.known ≡ schema_columns catalog
  -- the bodies of the views, resolved
  pub bodies : shown.views views.schema.views ≡ view_trees catalog

-- tables of a catalog that isn't refused: rows of declared tables alone, each with a cell for each column
pub record IsFilled (catalog : Declared) (tables : List Table) : Type 0 where
  pub valid : fault catalog ≡ None
  pub declared : (name : List ℕ) → table_named catalog.tables name ≡ None → bag_named tables name ≡ None
  pub wide : (name : List ℕ) → IsWide (relation_of catalog tables name)

-- the rows of a checked query over views and tables
abbrev pub rows_of : Views → Checked → List Table → List (Row (List Cell))
rows_of views checked tables = places.rows (known_of (shown.views views.schema.views) tables) (shown.query checked.query) []

-- and its answer: the error of its rows, or these in the order of its keys under its names
abbrev pub answer_of : Views → Checked → List Table → Answer
answer_of views checked tables = named.answer_of checked.names checked.order (verdict (rows_of views checked tables))
