-- Tables that satisfy the bases of a graph.
use Rattle.std.specs.Prelude.{ℕ, ◌≡◌, ◌&&◌, Bool, true, false, List, [], ◌∷◌, Option, Some, None, filter, ⊤}
use Rattle.std.specs.Prelude as p
use Rattle.std.specs.List.{list_all, list_any}
use Rattle.row_bag.specs.AsSets.{is_clean}
use Rattle.row_bag.specs.Keys.{HasKey}
use Rattle.row_bag.specs.Errors.{error_among, error_in}
use Rattle.row_bag.specs.Order.{cell_of}
use Rattle.row_bag.specs.Tables.{bag_named}
use Rattle.row_bag.specs.declared.tables.Table.{Table}
use Rattle.sql_value.specs.Arithmetic.{fits_i64}
use Rattle.sql_value.specs.declared.cell.Cell.{Cell}
use Rattle.sql_value.specs.declared.cell.Cell.TheVariants.{Int, Text, Null, Err}
use Rattle.sql_value.specs.declared.level.Level.{Level}
use Rattle.sql_value.specs.declared.level.Level.TheVariants.{No, Cardinality, Division, Overflow, Yes}
use Rattle.sql_value.specs.declared.order_key.SqlType.{SqlType}
use Rattle.sql_value.specs.declared.order_key.SqlType.TheVariants.{Integer, Varchar}
use Rattle.list_laws.specs.Lists.{In}
use Rattle.qgm_core.specs.declared.kinds.BaseTable.{BaseTable}
use Rattle.qgm_core.specs.declared.kinds.BoxKind.{BoxKind}
use Rattle.qgm_core.specs.declared.kinds.BoxKind.TheVariants.{Base, Select, Group, SetOp, OuterJoin}
use Rattle.qgm_core.specs.declared.node.Node.{Node}
use Rattle.qgm_meaning.specs.Values.{Bag}
use Rattle.qgm_meaning.specs.Widths.{Filled}

-- a cell of this type: a value of it, with numbers of 64 bits, or null, and no error
abbrev pub is_of : SqlType → Cell → Bool
is_of Integer (Int n) = fits_i64 n
is_of Integer (Text s) = false
is_of Integer Null = true
is_of Integer (Err k) = false
is_of Varchar (Int n) = false
is_of Varchar (Text s) = true
is_of Varchar Null = true
is_of Varchar (Err k) = false

-- as many cells as types, each of its type
abbrev pub are_of : List SqlType → List Cell → Bool
are_of [] [] = true
are_of [] (cell ∷ cells) = false
are_of (t ∷ types) [] = false
are_of (t ∷ types) (cell ∷ cells) = is_of t cell && are_of types cells

abbrev pub is_value : Cell → Bool
is_value Null = false
is_value (Int n) = true
is_value (Text s) = true
is_value (Err k) = true

-- no cell of these columns is null
abbrev pub have_values : List ℕ → List Cell → Bool
have_values columns cells = list_all (λ k. is_value (cell_of k cells)) columns

abbrev pub is_yes : Level → Bool
is_yes No = false
is_yes Cardinality = false
is_yes Division = false
is_yes Overflow = false
is_yes Yes = true

-- rows that keep what a stored table declares: each at yes, of its types, without null where none may be, and of those without null in a key's columns no two that agree on it
pub record RowsSatisfy (table : BaseTable) (rows : Bag) : Type 0 where
  pub at_yes : list_all (λ r. is_yes r.level) rows ≡ true
  pub types : list_all (λ r. are_of table.types r.cells) rows ≡ true
  pub not_null : list_all (λ r. have_values table.not_null r.cells) rows ≡ true
  pub keys : (columns : List ℕ) → In columns table.keys → HasKey columns (filter (λ r. have_values columns r.cells) rows)

abbrev pub FoundSatisfies : BaseTable → Option Bag → Type 0
FoundSatisfies table None = ⊥
FoundSatisfies table (Some rows) = RowsSatisfy table rows

-- of a base there is a table of its name, which keeps what the base declares
abbrev pub SatisfiesBy : BoxKind → List Table → Type 0
SatisfiesBy (Base table) tables = FoundSatisfies table (bag_named tables table.name)
SatisfiesBy Select tables = ⊤
SatisfiesBy (Group keys) tables = ⊤
SatisfiesBy (SetOp operator types) tables = ⊤
SatisfiesBy OuterJoin tables = ⊤

-- the tables satisfy the bases among these boxes
abbrev pub Satisfies : List Table → List Node → Type 0
Satisfies tables [] = ⊤
Satisfies tables (n ∷ ns) = SatisfiesBy n.parts.kind tables × Satisfies tables ns

-- what follows
pub record OfSatisfying : Type 0 where
  -- rows have the width of their base
  pub filled : (tables : List Table) (ns : List Node) → Satisfies tables ns → Filled tables ns
  -- no row of a base is at an error level, and none holds an error
  pub clean : (table : BaseTable) (rows : Bag) → RowsSatisfy table rows → is_clean rows ≡ true
  pub error_free : (table : BaseTable) (rows : Bag) → RowsSatisfy table rows → error_among error_in rows ≡ None
  -- a declared key whose columns hold no null is a key
  pub keys : (table : BaseTable) (rows : Bag) (columns : List ℕ) → RowsSatisfy table rows → In columns table.keys → list_all (λ k. list_any (λ j. p.nat_eq j k) table.not_null) columns ≡ true → HasKey columns rows
