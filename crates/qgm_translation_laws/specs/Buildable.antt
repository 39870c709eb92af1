-- A query of the grammar without faults is one that boxes can be made for.
use Rattle.std.specs.Prelude.{◌≡◌, ℕ, Bool, true, List, [], length, None, All}
use Rattle.sql_ast.specs.Declarations.{Declared}
use Rattle.sql_ast.specs.Grammatical.{is_query}
use Rattle.sql_ast.specs.Syntax as s
use Rattle.sql_meaning.specs.Names.{columns_of}
use Rattle.sql_names.specs.Resolved.{Columns, bare, query}
use Rattle.sql_names.specs.Schema.{schema_columns}
use Rattle.sql_faults.specs.Faults.{query_fault}
use Rattle.sql_faults.specs.Laws.{NestsShallow, SameColumns, shapes}
use Rattle.sql_faults.specs.Scopes.{Heads, Scopes, is_some}
use Rattle.sql_faults.specs.Views.{fault, heads_of, view_refusal}
use Rattle.qgm_translation.specs.Sources.{Sources}
use Rattle.qgm_translation.specs.Buildable.{Buildable}

-- the sources give each name as many columns as its table or view has
abbrev pub Counts : Sources → Columns → Type 0
Counts sources columns = (name : List ℕ) → sources.columns name ≡ length (columns_of (bare columns name))

-- each name that stands for columns is known
abbrev pub Knows : (List ℕ → Bool) → Heads → Type 0
Knows has heads = (name : List ℕ) → is_some (heads name) ≡ true → has name ≡ true

-- over any tables and views, in any scopes
abbrev pub ValidIsBuildable : Type 0
ValidIsBuildable =
    (heads : Heads) (columns : Columns) (sources : Sources) (has : List ℕ → Bool) → SameColumns heads (bare columns) → Counts sources columns → Knows has heads
    → (body : s.Query) (scopes : Scopes) → is_query body ≡ true → query_fault heads body scopes ≡ 0 → Buildable sources has (query columns (shapes scopes) body)

-- over a schema
abbrev pub ValidTextIsBuildable : Type 0
ValidTextIsBuildable =
    (catalog : Declared) (sources : Sources) (has : List ℕ → Bool) → Counts sources (schema_columns catalog) → Knows has (heads_of catalog)
    → (text : s.QueryText) → is_query text.query ≡ true → fault catalog text ≡ 0 → Buildable sources has (query (schema_columns catalog) [] text.query)

-- the bodies of views are of the grammar
abbrev pub AreQueries : List s.ViewDecl → Type 0
AreQueries views = All (λ (view : s.ViewDecl). is_query view.query ≡ true) views

-- the bodies of a schema's views, none of which is refused
abbrev pub ValidViewsAreBuildable : Type 0
ValidViewsAreBuildable =
    (catalog : Declared) (sources : Sources) (has : List ℕ → Bool) → Counts sources (schema_columns catalog) → Knows has (heads_of catalog)
    → NestsShallow catalog → view_refusal catalog ≡ None → AreQueries catalog.views
    → All (λ (view : s.ViewDecl). Buildable sources has (query (schema_columns catalog) [] view.query)) catalog.views
