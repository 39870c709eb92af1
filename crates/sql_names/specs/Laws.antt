-- What a query means by names and what it means by places, compared.
use Rattle.std.specs.Prelude.{◌≡◌, ℕ, false, List, [], length, None, All}
use Rattle.std.specs.List.{list_any}
use Rattle.row_bag.specs.Tables.{bag_named}
use Rattle.row_bag.specs.declared.tables.Table.{Table}
use Rattle.sql_ast.specs.declared.name.Column.{Column}
use Rattle.sql_ast.specs.Declarations.{Declared, table_named}
use Rattle.sql_ast.specs.Syntax.{Query, QueryText}
use Rattle.sql_catalog.specs.Nesting.{nests_over, readers_of}
use Rattle.sql_meaning.specs.Groups.{no_group}
use Rattle.sql_meaning.specs.Meaning as named
use Rattle.sql_meaning.specs.Names.{Known, names}
use Rattle.sql_meaning.specs.Scopes.{Scopes, column_value, shapes_of}
use Rattle.sql_meaning.specs.ResolvedMeaning as places
use Rattle.sql_meaning.specs.ResolvedViews as trees
use Rattle.sql_names.specs.Agreed.{IsWide, bags_of, columns_of, flat}
use Rattle.sql_names.specs.Even.{EvenQuery}
use Rattle.sql_names.specs.Places.{place_of}
use Rattle.sql_names.specs.Resolved.{column_at, query}
use Rattle.sql_names.specs.Schema.{answer, schema_columns, view_trees}

-- ---- over any tables and views, in any scopes

-- a column's name stands for the cell at its place
abbrev pub SameCell : Column → Scopes → Type 0
SameCell c scopes = column_value c scopes ≡ places.value (λ name. []) (column_at (place_of c.range c.name (shapes_of scopes))) (flat scopes) no_group

-- the operands of a query's set operations have the same number of columns
abbrev pub IsEven : Known → Query → Scopes → Type 0
IsEven known q scopes = EvenQuery (columns_of known) (shapes_of scopes) q

-- a query's rows by names are those of its resolved form by places
abbrev pub SameRows : Known → Query → Scopes → Type 0
SameRows known q scopes = named.rows known q scopes ≡ places.rows (bags_of known) (query (columns_of known) (shapes_of scopes) q) (flat scopes)

-- each of its rows has a cell for each of its columns
abbrev pub HasWideRows : Known → Query → Scopes → Type 0
HasWideRows known q scopes = All (λ row. length row.cells ≡ length (names known q (shapes_of scopes))) (named.rows known q scopes)

-- ---- over a schema

-- views nest at most 16 deep
abbrev pub NestsShallow : Declared → Type 0
NestsShallow catalog = list_any (nests_over (readers_of catalog.views) 16) (readers_of catalog.views) ≡ false

-- no rows are there of a table that isn't declared
abbrev pub HasDeclaredRows : Declared → List Table → Type 0
HasDeclaredRows catalog tables = (name : List ℕ) → table_named catalog.tables name ≡ None → bag_named tables name ≡ None

-- each row of a table has a cell for each column
abbrev pub HasWideTables : Declared → List Table → Type 0
HasWideTables catalog tables = (name : List ℕ) → IsWide (named.relation_of catalog tables name)

-- the operands of a query's set operations have the same number of columns
abbrev pub IsEvenOver : Declared → Query → Type 0
IsEvenOver catalog q = EvenQuery (schema_columns catalog) [] q

-- the same of the set operations in its views
abbrev pub HasEvenViews : Declared → Type 0
HasEvenViews catalog = All (λ view. IsEvenOver catalog view.query) catalog.views

-- a query's rows by names are those of its resolved form by places, over the resolved views
abbrev pub SameSchemaRows : Declared → List Table → Query → Type 0
SameSchemaRows catalog tables q = named.rows (named.known_of catalog tables) q [] ≡ places.rows (trees.known_of (view_trees catalog) tables) (query (schema_columns catalog) [] q) []

-- the same of the answer to a query's text
abbrev pub SameAnswer : Declared → List Table → QueryText → Type 0
SameAnswer catalog tables text = named.answer (named.known_of catalog tables) text ≡ answer catalog tables text
