-- What later phases rest on where a query is valid: its names stand for one column each, its set operations are even, and the types of its columns are known.
use Rattle.std.specs.Prelude.{◌≡◌, ℕ, true, false, List, [], map, Option, None, All}
use Rattle.std.specs.List.{list_any}
use Rattle.row_bag.specs.declared.tables.Table.{Table}
use Rattle.sql_ast.specs.declared.name.Column.{Column}
use Rattle.sql_ast.specs.Syntax as s
use Rattle.sql_ast.specs.Declarations.{Declared}
use Rattle.sql_catalog.specs.Nesting.{nests_over, readers_of}
use Rattle.sql_meaning.specs.Even.{EvenQuery}
use Rattle.sql_meaning.specs.Meaning.{known_of}
use Rattle.sql_meaning.specs.Names.{Known, columns_of, names}
use Rattle.sql_meaning.specs.Scopes.{Shape, found, shapes_of}
use Rattle.sql_meaning.specs.Scopes as m
use Rattle.sql_faults.specs.Columns.{columns, columns_or_none}
use Rattle.sql_faults.specs.Faults.{query_fault}
use Rattle.sql_faults.specs.FoundNames.{FoundOnce, FoundQuery, FoundText, IsFull, Visible, ranges_of}
use Rattle.sql_faults.specs.Scopes.{Heads, Scope, Scopes, is_some}
use Rattle.sql_faults.specs.Views.{fault, heads_of, view_refusal}
use Rattle.sql_faults.specs.declared.column.TypedColumn.{TypedColumn}
use Rattle.sql_faults.specs.declared.column.TypedRange.{TypedRange}

-- ---- names without types

abbrev pub column_names : List TypedColumn → List (Option (List ℕ))
column_names columns = map (λ (c : TypedColumn). c.name) columns

-- the ranges of a FROM
abbrev pub range_shapes : List TypedRange → Shape
range_shapes ranges = map (λ (r : TypedRange). (r.name, column_names r.columns)) ranges

-- the ranges of the scopes that enclose a place
abbrev pub shapes : Scopes → List Shape
shapes scopes = map (λ (s : Scope). range_shapes s.ranges) scopes

-- tables and views have columns of the same names
abbrev pub SameColumns : Heads → Known → Type 0
SameColumns heads known = (name : List ℕ) → column_names (columns_or_none (heads name)) ≡ columns_of (known name)

-- the columns of a query have the names that its meaning gives them
abbrev pub SameNames : Type 0
SameNames = (heads : Heads) → (known : Known) → SameColumns heads known → (q : s.Query) → (scopes : Scopes) → names known q (shapes scopes) ≡ column_names (columns heads q scopes)

-- the tables and views of a catalog have the columns that their meaning gives them
abbrev pub SameTables : Type 0
SameTables = (catalog : Declared) → (tables : List Table) → SameColumns (heads_of catalog) (known_of catalog tables)

-- each name of a query without faults stands for one column
abbrev pub ValidIsFound : Type 0
ValidIsFound = (heads : Heads) → (known : Known) → SameColumns heads known → (q : s.Query) → query_fault heads q [] ≡ 0 → FoundQuery known [] q

-- a column's name that is found once stands for a cell in rows of these ranges
abbrev pub FoundHasCell : Type 0
FoundHasCell =
    (c : Column) → (any : List Visible) → (scopes : m.Scopes) → ranges_of any ≡ shapes_of scopes → All (All IsFull) scopes → FoundOnce any c → is_some (found c.range c.name scopes) ≡ true

-- ---- set operations

-- a query without faults is even
abbrev pub ValidIsEven : Type 0
ValidIsEven = (heads : Heads) → (known : Known) → SameColumns heads known → (q : s.Query) → (scopes : Scopes) → query_fault heads q scopes ≡ 0 → EvenQuery known (shapes scopes) q

-- ---- types

-- the types of all these columns are known
abbrev pub AreTyped : List TypedColumn → Type 0
AreTyped columns = All (λ (c : TypedColumn). is_some c.sort ≡ true) columns

-- the same of the columns of tables and views
abbrev pub AreTypedHeads : Heads → Type 0
AreTypedHeads heads = (name : List ℕ) → AreTyped (columns_or_none (heads name))

-- the same of those of the scopes that enclose a place
abbrev pub AreTypedScopes : Scopes → Type 0
AreTypedScopes scopes = All (λ (s : Scope). All (λ (r : TypedRange). AreTyped r.columns) s.ranges) scopes

-- the columns of a query without faults have known types
abbrev pub ValidIsTyped : Type 0
ValidIsTyped = (heads : Heads) → AreTypedHeads heads → (q : s.Query) → (scopes : Scopes) → AreTypedScopes scopes → query_fault heads q scopes ≡ 0 → AreTyped (columns heads q scopes)

-- ---- views

-- no view nests over 16 deep
abbrev pub NestsShallow : Declared → Type 0
NestsShallow catalog = list_any (nests_over (readers_of catalog.views) 16) (readers_of catalog.views) ≡ false

-- where no view is refused, no body of a view has a fault
abbrev pub ValidViews : Type 0
ValidViews = (catalog : Declared) → NestsShallow catalog → view_refusal catalog ≡ None → All (λ (view : s.ViewDecl). query_fault (heads_of catalog) view.query [] ≡ 0) catalog.views

-- and the columns of all tables and views have known types
abbrev pub TypedTables : Type 0
TypedTables = (catalog : Declared) → NestsShallow catalog → view_refusal catalog ≡ None → AreTypedHeads (heads_of catalog)

-- ---- texts

-- where the text of a query has no fault, its query has none
abbrev pub ValidText : Type 0
ValidText = (catalog : Declared) → (text : s.QueryText) → fault catalog text ≡ 0 → query_fault (heads_of catalog) text.query [] ≡ 0

-- and each name of the text stands for one column
abbrev pub ValidTextIsFound : Type 0
ValidTextIsFound = (catalog : Declared) → (tables : List Table) → (text : s.QueryText) → fault catalog text ≡ 0 → FoundText (known_of catalog tables) text
