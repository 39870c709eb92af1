-- The names of columns: of a FROM, and of the output of a query (SQL-92, 6.3, 7.9 and 7.10).
use Rattle.std.specs.Prelude.{ℕ, List, [], ◌∷◌, ◌++◌, map, Option, Some, None}
use Rattle.std.specs.List.{flat_map}
use Rattle.row_bag.specs.declared.row.Row.{Row}
use Rattle.sql_ast.specs.declared.name.Alias.{Alias}
use Rattle.sql_ast.specs.declared.name.Correlation.{Correlation}
use Rattle.sql_ast.specs.Syntax as s
use Rattle.sql_value.specs.declared.cell.Cell.{Cell}
use Rattle.sql_meaning.specs.Scopes.{Shape, columns_of_range}

-- what a table's or view's name in a FROM stands for: the names of its columns, and its rows
pub record Relation : Type 0 where
  pub columns : List (Option (List ℕ))
  pub rows : List (Row (List Cell))

abbrev pub relation : List (Option (List ℕ)) → List (Row (List Cell)) → Relation
relation columns rows = record { columns = columns; rows = rows }

-- tables and views by name
abbrev pub Known : Type 0
Known = List ℕ → Option Relation

-- ---- FROM

-- the range name: the alias, else the table's name
abbrev pub range_name : List ℕ → Option Correlation → List ℕ
range_name name None = name
range_name name (Some c) = c.name

-- the column list after an alias; none is written where it is empty
abbrev pub column_list : Option Correlation → List (List ℕ)
column_list None = []
column_list (Some c) = c.columns

-- the names of columns, all of which have one
abbrev pub all_named : List (List ℕ) → List (Option (List ℕ))
all_named names = map (λ name. Some name) names

-- columns under the names of a list, in order; names beyond the columns are dropped, and columns beyond the list have no name
abbrev pub listed : List (List ℕ) → List (Option (List ℕ)) → List (Option (List ℕ))
listed names [] = []
listed [] (column ∷ columns) = None ∷ listed [] columns
listed (name ∷ names) (column ∷ columns) = Some name ∷ listed names columns

-- columns renamed by a column list, where one is written
abbrev pub renamed : List (List ℕ) → List (Option (List ℕ)) → List (Option (List ℕ))
renamed [] columns = columns
renamed (name ∷ names) columns = listed (name ∷ names) columns

-- a table under a column list
abbrev pub under : List (List ℕ) → Option Relation → Option Relation
under names None = None
under names (Some table) = Some (relation (renamed names table.columns) table.rows)

-- the names of the columns of a table
abbrev pub columns_of : Option Relation → List (Option (List ℕ))
columns_of None = []
columns_of (Some table) = table.columns

-- ---- output columns

-- a lone column without parentheses has its own name
abbrev pub own_name : s.Expr → Option (List ℕ)
own_name (s.col c) = Some c.name
own_name _ = None

-- an alias is the name
abbrev pub item_name : s.Expr → Option Alias → Option (List ℕ)
item_name x None = own_name x
item_name x (Some alias) = Some alias.name

-- `r.*` stands for all columns of the range r of the innermost scope that has one
abbrev pub item_names : s.Item → List Shape → List (Option (List ℕ))
item_names (s.item x n) shapes = item_name x n ∷ []
item_names (s.all_of name) shapes = columns_of_range name shapes

abbrev pub items_names : s.Items → List Shape → List (Option (List ℕ))
items_names s.no_item shapes = []
items_names (s.one_item x xs) shapes = item_names x shapes ++ items_names xs shapes

-- the names of a list, over the ranges of its block and the shapes of the scopes round it; `*` stands for all columns of the FROM in order
abbrev pub list_names : s.SelectList → Shape → List Shape → List (Option (List ℕ))
list_names s.star ranges shapes = flat_map (λ range. range.1) ranges
list_names (s.items xs) ranges shapes = items_names xs (ranges ∷ shapes)

module _ (known : Known) where
  abbrev mutual
    -- the names of a query's columns; a set operation has those of its left operand
    pub names : s.Query → List Shape → List (Option (List ℕ))
    names (s.block each list from by group having) shapes = list_names list (shape from shapes) shapes
    names (s.enclosed q) shapes = names q shapes
    names (s.combine x op all y) shapes = names x shapes
    names (s.intersect x all y) shapes = names x shapes

    -- the ranges of a FROM without their cells, in the order of the text
    pub shape : s.TableRefs → List Shape → Shape
    shape s.no_table shapes = []
    shape (s.one_table x xs) shapes = table_shape x shapes ++ shape xs shapes

    -- the ranges of a table of a FROM
    pub table_shape : s.TableRef → List Shape → Shape
    table_shape (s.join x inner y p) shapes = table_shape x shapes ++ table_shape y shapes
    table_shape (s.left_join x outer y p) shapes = table_shape x shapes ++ table_shape y shapes
    table_shape (s.cross_join x y) shapes = table_shape x shapes ++ table_shape y shapes
    table_shape (s.named name c) shapes = (range_name name c, columns_of (under (column_list c) (known name))) ∷ []
    table_shape (s.derived q c) shapes = (c.name, renamed c.columns (names q shapes)) ∷ []
    table_shape (s.joined x) shapes = table_shape x shapes
