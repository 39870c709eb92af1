-- A query of the grammar without faults has the types that the checks state of its columns, and its expressions have types.
use Rattle.std.specs.Prelude.{◌≡◌, ℕ, true, false, List, [], ◌∷◌, Option, Some, None}
use Rattle.sql_ast.specs.Declarations.{Declared, table_named, view_named}
use Rattle.sql_ast.specs.Grammatical.{is_query}
use Rattle.sql_ast.specs.Syntax as s
use Rattle.sql_catalog.specs.Catalog.{fault as refusal}
use Rattle.sql_meaning.specs.ResolvedTrees as q
use Rattle.sql_value.specs.declared.order_key.SqlType.{SqlType}
use Rattle.sql_names.specs.Resolved.{Columns, bare, query}
use Rattle.sql_names.specs.Schema.{schema_columns}
use Rattle.sql_faults.specs.Columns.{columns, columns_or_none}
use Rattle.sql_faults.specs.Faults.{query_fault}
use Rattle.sql_faults.specs.Laws.{AreTypedHeads, SameColumns}
use Rattle.sql_faults.specs.Scopes.{Heads, is_empty}
use Rattle.sql_faults.specs.Views.{fault, heads_of, view_refusal}
use Rattle.sql_faults.specs.declared.column.TypedColumn.{TypedColumn}
use Rattle.qgm_translation_laws.specs.Formed.{SourcesTyped}
use Rattle.qgm_translation_laws.specs.Typed.{IsOfTypes}
use Rattle.qgm_translation.specs.Sources.{Sources}
use Rattle.qgm_translation_laws.specs.Buildable.{AreQueries, Counts}

-- ---- the types that the checks state

abbrev pub with_type : Option SqlType → List SqlType → List SqlType
with_type None types = types
with_type (Some t) types = t ∷ types

-- the types of columns; one that isn't known is left out, which isn't so in a valid query
abbrev pub known_types : List TypedColumn → List SqlType
known_types [] = []
known_types (c ∷ cs) = with_type c.sort (known_types cs)

-- those of the columns of tables and views, by name
abbrev pub kinds_of : Heads → List ℕ → List SqlType
kinds_of heads name = known_types (columns_or_none (heads name))

-- ---- over any tables and views

-- each of them has a column
abbrev pub HaveColumns : Heads → Type 0
HaveColumns heads = (name : List ℕ) (found : List TypedColumn) → heads name ≡ Some found → is_empty found ≡ false

-- a query's expressions have types, and its columns those that the checks state
abbrev pub ValidHasTypes : Type 0
ValidHasTypes =
    (heads : Heads) (known : Columns) → SameColumns heads (bare known) → AreTypedHeads heads → HaveColumns heads
    → (body : s.Query) → is_query body ≡ true → query_fault heads body [] ≡ 0 → IsOfTypes (kinds_of heads) [] (query known [] body) (known_types (columns heads body []))

-- ---- over a schema

-- neither what it declares is refused nor any of its views, and all of these are of the grammar
pub record ValidSchema (catalog : Declared) : Type 0 where
  pub accepted : refusal catalog ≡ None
  pub views : view_refusal catalog ≡ None
  pub queries : AreQueries catalog.views

abbrev pub ValidTextHasTypes : Type 0
ValidTextHasTypes =
    (catalog : Declared) → ValidSchema catalog → (text : s.QueryText) → is_query text.query ≡ true → fault catalog text ≡ 0
    → IsOfTypes (kinds_of (heads_of catalog)) [] (query (schema_columns catalog) [] text.query) (known_types (columns (heads_of catalog) text.query []))

-- the body of each view has the types that the view has as a source
abbrev pub ValidViewsHaveTypes : Type 0
ValidViewsHaveTypes =
    (catalog : Declared) → ValidSchema catalog → (name : List ℕ) (view : s.ViewDecl) → table_named catalog.tables name ≡ None → view_named catalog.views name ≡ Some view
    → IsOfTypes (kinds_of (heads_of catalog)) [] (query (schema_columns catalog) [] view.query) (kinds_of (heads_of catalog) name)

-- ---- what names stand for where boxes are made

-- this is the body of the view of a name, with its names resolved
abbrev pub IsBodyOf : Declared → List ℕ → q.Query → Type 0
IsBodyOf catalog name body =
    (view : s.ViewDecl) × ((table_named catalog.tables name ≡ None) × (view_named catalog.views name ≡ Some view) × (body ≡ query (schema_columns catalog) [] view.query))

-- the sources say of names what the schema says: how many columns they have, and of what types, and the bodies of views
pub record SourcesOf (catalog : Declared) (sources : Sources) : Type 0 where
  pub counts : Counts sources (schema_columns catalog)
  pub tables : (name : List ℕ) → sources.body name ≡ None → (sources.stored name).types ≡ kinds_of (heads_of catalog) name
  pub views : (name : List ℕ) (body : q.Query) → sources.body name ≡ Some body → IsBodyOf catalog name body

-- then tables and views have columns of the types that the checks state
abbrev pub ValidSourcesTyped : Type 0
ValidSourcesTyped = (catalog : Declared) (sources : Sources) → ValidSchema catalog → SourcesOf catalog sources → SourcesTyped (kinds_of (heads_of catalog)) sources
