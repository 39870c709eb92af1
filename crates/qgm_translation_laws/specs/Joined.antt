-- A graph that is built of a valid query over a valid schema is well-formed, its root's columns have the types that the checks state, and its root's bag is the query's rows.
use Rattle.std.specs.Prelude.{◌≡◌, ◌≤◌, ℕ, Bool, true, List, [], Option, None, All}
use Rattle.row_bag.specs.declared.tables.Table.{Table}
use Rattle.sql_ast.specs.Declarations.{Declared}
use Rattle.sql_ast.specs.Grammatical.{is_query}
use Rattle.sql_ast.specs.Syntax as s
use Rattle.sql_value.specs.declared.order_key.OrderKey.{OrderKey}
use Rattle.sql_value.specs.declared.order_key.SqlType.{SqlType}
use Rattle.sql_meaning.specs.Meaning as named
use Rattle.sql_meaning.specs.ResolvedMeaning.{rows}
use Rattle.sql_meaning.specs.ResolvedViews.{known_of}
use Rattle.sql_names.specs.Laws.{HasDeclaredRows, HasWideTables}
use Rattle.sql_names.specs.Resolved.{query}
use Rattle.sql_names.specs.Schema.{schema_columns, view_trees}
use Rattle.sql_faults.specs.Columns.{columns}
use Rattle.sql_faults.specs.Views.{fault as query_fault, heads_of}
use Rattle.qgm_core.specs.Boxes.{Ordered, QueryGraph, ids_in}
use Rattle.list_laws.specs.Lists.{times}
use Rattle.qgm_terms.specs.Terms.{Term}
use Rattle.qgm_meaning.specs.Meaning.{root_bag}
use Rattle.qgm_wellformed.specs.WellFormed.{fault}
use Rattle.qgm_translation_laws.specs.Formed.{SharedOrOnce, Told, TypesFound}
use Rattle.qgm_translation.specs.Buildable.{Buildable}
use Rattle.qgm_translation.specs.Law.{IsBuiltOf, StandFor}
use Rattle.qgm_translation.specs.Sources.{Sources}
use Rattle.qgm_translation_laws.specs.Buildable.{Knows}
use Rattle.qgm_translation_laws.specs.Sources.{sources_of}
use Rattle.qgm_translation_laws.specs.Typing.{ValidSchema, known_types}

-- a query of the grammar over a schema, both valid
pub record ValidQuery (catalog : Declared) (text : s.QueryText) : Type 0 where
  pub schema : ValidSchema catalog
  pub grammar : is_query text.query ≡ true
  pub valid : query_fault catalog text ≡ 0

-- boxes can be made for it and for each view, where the names that stand for columns are known
pub record IsBuildableOver (catalog : Declared) (sources : Sources) (has : List ℕ → Bool) (text : s.QueryText) : Type 0 where
  pub body : Buildable sources has (query (schema_columns catalog) [] text.query)
  pub views : All (λ (view : s.ViewDecl). Buildable sources has (query (schema_columns catalog) [] view.query)) catalog.views

abbrev pub ValidQueryIsBuildable : Type 0
ValidQueryIsBuildable =
    (catalog : Declared) (shared : List ℕ → ℕ) (typed : Term → SqlType) (has : List ℕ → Bool) (text : s.QueryText)
    → ValidQuery catalog text → Knows has (heads_of catalog) → IsBuildableOver catalog (sources_of catalog shared typed) has text

-- a graph is built of it, with its names resolved
abbrev pub IsBuiltOver : Declared → Sources → s.QueryText → List (Option (List ℕ)) → List OrderKey → QueryGraph → Type 0
IsBuiltOver catalog sources text names order g = IsBuiltOf sources (query (schema_columns catalog) [] text.query) names order g

-- its boxes stand in order, no two quantifiers have one number, the sources tell the types that are found, and no other box than those of tables and views is shared
pub record IsLaidOut (sources : Sources) (g : QueryGraph) : Type 0 where
  pub ordered : Ordered g.boxes
  pub once : (q : ℕ) → times q (ids_in g.boxes) ≤ 1
  pub told : Told sources g.boxes
  pub apart : (b : ℕ) → SharedOrOnce sources g.boxes b

-- it is well-formed, its expressions have types, and its root's columns these
pub record IsFormed (types : List SqlType) (g : QueryGraph) : Type 0 where
  pub formed : fault g ≡ None
  pub typed : TypesFound types g

-- the types that the checks state of the columns of a query
abbrev pub stated_types : Declared → s.QueryText → List SqlType
stated_types catalog text = known_types (columns (heads_of catalog) text.query [])

abbrev pub ValidIsWellFormed : Type 0
ValidIsWellFormed =
    (catalog : Declared) (shared : List ℕ → ℕ) (typed : Term → SqlType) (text : s.QueryText) (names : List (Option (List ℕ))) (order : List OrderKey) (g : QueryGraph)
    → ValidQuery catalog text → IsBuiltOver catalog (sources_of catalog shared typed) text names order g → IsLaidOut (sources_of catalog shared typed) g → IsFormed (stated_types catalog text) g

-- ---- rows

-- no rows are there of a table that isn't declared, and each row of a table has a cell for each column
pub record AreTablesOf (catalog : Declared) (tables : List Table) : Type 0 where
  pub loaded : HasDeclaredRows catalog tables
  pub wide : HasWideTables catalog tables

-- names stand for the rows of tables, and of the resolved bodies of views
abbrev pub SchemaNamesStand : Type 0
SchemaNamesStand =
    (catalog : Declared) (shared : List ℕ → ℕ) (typed : Term → SqlType) (tables : List Table) → ValidSchema catalog → AreTablesOf catalog tables
    → StandFor tables (sources_of catalog shared typed) (known_of (view_trees catalog) tables)

-- the root's bag is the rows that the resolved query has by places, and so those that the query means by names
pub record HasRows (catalog : Declared) (tables : List Table) (text : s.QueryText) (g : QueryGraph) : Type 0 where
  pub places : root_bag tables g ≡ rows (known_of (view_trees catalog) tables) (query (schema_columns catalog) [] text.query) []
  pub meant : root_bag tables g ≡ named.rows (named.known_of catalog tables) text.query []

abbrev pub ValidRootAgrees : Type 0
ValidRootAgrees =
    (catalog : Declared) (shared : List ℕ → ℕ) (typed : Term → SqlType) (text : s.QueryText) (names : List (Option (List ℕ))) (order : List OrderKey) (g : QueryGraph) (tables : List Table)
    → ValidQuery catalog text → IsBuiltOver catalog (sources_of catalog shared typed) text names order g → AreTablesOf catalog tables → HasRows catalog tables text g
