-- What the names of a schema stand for where boxes are made of a query over it.
use Rattle.std.specs.Prelude.{ℕ, suc, ◌++◌, not, Bool, List, [], ◌∷◌, filter, length, map, Option, Some, None, if◌then◌else◌}
use Rattle.sql_ast.specs.declared.schema.TableDecl.{TableDecl}
use Rattle.sql_ast.specs.Declarations.{Declared, table_named, view_named}
use Rattle.sql_ast.specs.Syntax as s
use Rattle.sql_catalog.specs.Descriptor.{describe}
use Rattle.sql_catalog.specs.declared.descriptor.ColumnDescriptor.{ColumnDescriptor}
use Rattle.sql_catalog.specs.declared.descriptor.KeyDescriptor.{KeyDescriptor}
use Rattle.sql_catalog.specs.declared.descriptor.TableDescriptor.{TableDescriptor}
use Rattle.sql_meaning.specs.ResolvedTrees.{Query}
use Rattle.sql_value.specs.declared.order_key.SqlType.{SqlType}
use Rattle.sql_names.specs.Schema.{view_body}
use Rattle.sql_faults.specs.Columns.{type_of_declared}
use Rattle.sql_faults.specs.Views.{heads_of}
use Rattle.qgm_core.specs.declared.kinds.BaseTable.{BaseTable}
use Rattle.qgm_terms.specs.Terms.{Term}
use Rattle.qgm_translation_laws.specs.Formed.{SourcesTyped}
use Rattle.qgm_translation.specs.Sources.{Sources}
use Rattle.qgm_translation_laws.specs.Typing.{SourcesOf, ValidSchema, kinds_of}

-- ---- tables

-- the places of a key's columns, from 1
abbrev pub key_places : KeyDescriptor → List ℕ
key_places key = map suc key.places

abbrev pub is_primary : KeyDescriptor → Bool
is_primary key = key.primary

abbrev pub is_unique : KeyDescriptor → Bool
is_unique key = not key.primary

-- PRIMARY KEY, then each UNIQUE
abbrev pub places_of_keys : List KeyDescriptor → List (List ℕ)
places_of_keys keys = map key_places (filter is_primary keys) ++ map key_places (filter is_unique keys)

-- the places of the not-null columns among these; i: the place of the first one
abbrev pub not_null_from : ℕ → List ColumnDescriptor → List ℕ
not_null_from i [] = []
not_null_from i (c ∷ cs) = if c.not_null then i ∷ not_null_from (suc i) cs else not_null_from (suc i) cs

abbrev pub column_type : ColumnDescriptor → SqlType
column_type c = type_of_declared c.data_type

abbrev pub stored_table : List ℕ → TableDescriptor → BaseTable
stored_table name table = record { name = name; types = map column_type table.columns; keys = places_of_keys table.keys; not_null = not_null_from 1 table.columns }

-- the table of a name; one without columns where there is none
abbrev pub stored_in : List ℕ → Option TableDecl → BaseTable
stored_in name None = record { name = name; types = []; keys = []; not_null = [] }
stored_in name (Some table) = stored_table name (describe table.elements)

-- ---- views

-- the body of the view of a name, with its names resolved, if no table has the name
abbrev pub body_in : Declared → Option TableDecl → Option s.ViewDecl → Option Query
body_in catalog None view = view_body catalog view
body_in catalog (Some table) view = None

-- ---- both

-- shared: the box that all share who name a table or a view; typed: the type that an expression has in the graph
abbrev pub sources_of : Declared → (List ℕ → ℕ) → (Term → SqlType) → Sources
sources_of catalog shared typed = record {
  columns = λ name. length (kinds_of (heads_of catalog) name);
  body = λ name. body_in catalog (table_named catalog.tables name) (view_named catalog.views name);
  stored = λ name. stored_in name (table_named catalog.tables name);
  shared = shared;
  typed = typed;
}

-- the columns of tables and views have the types that the checks state
abbrev pub SchemaSourcesTyped : Type 0
SchemaSourcesTyped = (catalog : Declared) (shared : List ℕ → ℕ) (typed : Term → SqlType) → ValidSchema catalog → SourcesTyped (kinds_of (heads_of catalog)) (sources_of catalog shared typed)

-- so the sources say of names what the schema says
abbrev pub SchemaSources : Type 0
SchemaSources = (catalog : Declared) (shared : List ℕ → ℕ) (typed : Term → SqlType) → ValidSchema catalog → SourcesOf catalog (sources_of catalog shared typed)
