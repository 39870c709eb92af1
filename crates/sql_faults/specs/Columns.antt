-- The types of expressions and the columns of queries, as far as names tell them (SQL-92, 6.3, 6.9, 6.11 to 6.14, 7.9 and 7.10). A type is unknown where a name stands for nothing.
use Rattle.std.specs.Prelude.{ℕ, List, [], ◌∷◌, ◌++◌, Option, Some, None, if◌then◌else◌}
use Rattle.std.specs.List.{flat_map}
use Rattle.sql_ast.specs.declared.name.Column.{Column}
use Rattle.sql_ast.specs.declared.name.Correlation.{Correlation}
use Rattle.sql_ast.specs.declared.word.AdditiveOp.{AdditiveOp}
use Rattle.sql_ast.specs.declared.word.AdditiveOp.TheVariants as add
use Rattle.sql_ast.specs.declared.word.DataType.{DataType}
use Rattle.sql_ast.specs.declared.word.DataType.TheVariants as type
use Rattle.sql_ast.specs.declared.word.SetFunction.{SetFunction}
use Rattle.sql_ast.specs.declared.word.SetFunction.TheVariants as function
use Rattle.sql_ast.specs.Syntax as s
use Rattle.sql_meaning.specs.Grouping.{is_grouped}
use Rattle.sql_meaning.specs.Names.{column_list, item_name, range_name}
use Rattle.sql_faults.specs.Scopes.{Heads, Scope, Scopes, first_type, grouped, meant, plain, range_of, released}
use Rattle.sql_faults.specs.declared.column.TypedColumn.{TypedColumn}
use Rattle.sql_faults.specs.declared.column.TypedRange.{TypedRange}
use Rattle.sql_value.specs.declared.order_key.SqlType.{SqlType}
use Rattle.sql_value.specs.declared.order_key.SqlType.TheVariants.{Integer, Varchar}

-- the type that a declaration gives
abbrev pub type_of_declared : DataType → SqlType
type_of_declared type.Integer = Integer
type_of_declared type.Int = Integer
type_of_declared (type.Varchar n) = Varchar

-- the type of the operands of "+" and "-", and of "||", which is that of the result too
abbrev pub operand_type : AdditiveOp → SqlType
operand_type add.Plus = Integer
operand_type add.Minus = Integer
operand_type add.Concat = Varchar

-- MIN and MAX have the type of their argument
abbrev pub type_of_aggregate : SetFunction → Option SqlType → Option SqlType
type_of_aggregate function.Count argument = Some Integer
type_of_aggregate function.Sum argument = Some Integer
type_of_aggregate function.Avg argument = Some Integer
type_of_aggregate function.Min argument = argument
type_of_aggregate function.Max argument = argument

-- the first type that is known
abbrev pub first_known : List (Option SqlType) → Option SqlType
first_known [] = None
first_known (None ∷ types) = first_known types
first_known (Some t ∷ types) = Some t

-- ---- columns

abbrev pub column : Option (List ℕ) → Option SqlType → TypedColumn
column name sort = record { name = name; sort = sort }

abbrev pub range : List ℕ → List TypedColumn → TypedRange
range name columns = record { name = name; columns = columns }

abbrev pub columns_or_none : Option (List TypedColumn) → List TypedColumn
columns_or_none None = []
columns_or_none (Some columns) = columns

abbrev pub first_name : List (List ℕ) → Option (List ℕ)
first_name [] = None
first_name (name ∷ names) = Some name

abbrev pub other_names : List (List ℕ) → List (List ℕ)
other_names [] = []
other_names (name ∷ names) = names

-- columns under the names of a list, in order; names beyond the columns are dropped, and columns beyond the list have no name
abbrev pub listed : List (List ℕ) → List TypedColumn → List TypedColumn
listed names [] = []
listed names (c ∷ columns) = column (first_name names) c.sort ∷ listed (other_names names) columns

-- columns renamed by a column list, where one is written
abbrev pub renamed : List (List ℕ) → List TypedColumn → List TypedColumn
renamed [] columns = columns
renamed (name ∷ names) columns = listed (name ∷ names) columns

-- a table or view, which stands for these columns, under its range name
abbrev pub named_range : List ℕ → Option Correlation → Option (List TypedColumn) → TypedRange
named_range name c found = range (range_name name c) (renamed (column_list c) (columns_or_none found))

-- a subquery of these columns under its range name
abbrev pub derived_range : Correlation → List TypedColumn → TypedRange
derived_range c columns = range c.name (renamed c.columns columns)

-- all columns of a FROM, in order
abbrev pub all_columns : List TypedRange → List TypedColumn
all_columns ranges = flat_map (λ (r : TypedRange). r.columns) ranges

-- `*`: those of the innermost FROM
abbrev pub star_columns : Scopes → List TypedColumn
star_columns [] = []
star_columns (s ∷ scopes) = all_columns s.ranges

-- `r.*`: those of the range r of the innermost scope that has one
abbrev pub range_columns : Option TypedRange → List TypedColumn
range_columns None = []
range_columns (Some r) = r.columns

-- the scope that the list and HAVING of a block see first
abbrev pub list_scope : s.SelectList → List Column → s.Filter → List TypedRange → Scope
list_scope list by having ranges = if is_grouped list by having then grouped ranges by else plain ranges

-- over tables and views by name; each part in the scopes that enclose it, the innermost first
module _ (heads : Heads) where
  abbrev mutual
    pub type_of : s.Expr → Scopes → Option SqlType
    type_of (s.add x op y) scopes = Some (operand_type op)
    type_of (s.multiply x op y) scopes = Some Integer
    type_of (s.signed p x) scopes = Some Integer
    type_of (s.number n) scopes = Some Integer
    type_of (s.string x) scopes = Some Varchar
    type_of (s.col c) scopes = first_type (meant c scopes)
    type_of (s.paren x) scopes = type_of x scopes
    -- a subquery of several columns counts as its first
    type_of (s.scalar q) scopes = first_type (columns q scopes)
    type_of s.count_all scopes = Some Integer
    type_of (s.aggregate f each x) scopes = type_of_aggregate f (type_of x (released scopes))
    type_of (s.searched xs o) scopes = first_known (arm_types xs scopes ++ else_types o scopes)
    type_of (s.simple x xs o) scopes = first_known (choice_types xs scopes ++ else_types o scopes)
    type_of (s.coalesce x xs) scopes = first_known (type_of x scopes ∷ types_of xs scopes)
    type_of (s.null_if x y) scopes = first_known (type_of x scopes ∷ type_of y scopes ∷ [])
    type_of (s.cast_null d) scopes = Some (type_of_declared d)

    pub types_of : s.Exprs → Scopes → List (Option SqlType)
    types_of s.no_expr scopes = []
    types_of (s.one_expr x xs) scopes = type_of x scopes ∷ types_of xs scopes

    -- the types of the results of a CASE, NULL aside
    pub res_types : s.Res → Scopes → List (Option SqlType)
    res_types (s.given x) scopes = type_of x scopes ∷ []
    res_types s.null scopes = []

    pub arm_types : s.Arms → Scopes → List (Option SqlType)
    arm_types s.no_arm scopes = []
    arm_types (s.one_arm p r xs) scopes = res_types r scopes ++ arm_types xs scopes

    pub choice_types : s.Choices → Scopes → List (Option SqlType)
    choice_types s.no_choice scopes = []
    choice_types (s.one_choice x r xs) scopes = res_types r scopes ++ choice_types xs scopes

    pub else_types : s.Otherwise → Scopes → List (Option SqlType)
    else_types s.no_else scopes = []
    else_types (s.or_else r) scopes = res_types r scopes

    -- ---- output columns

    pub item_columns : s.Item → Scopes → List TypedColumn
    item_columns (s.item x n) scopes = column (item_name x n) (type_of x scopes) ∷ []
    item_columns (s.all_of name) scopes = range_columns (range_of name scopes)

    pub items_columns : s.Items → Scopes → List TypedColumn
    items_columns s.no_item scopes = []
    items_columns (s.one_item x xs) scopes = item_columns x scopes ++ items_columns xs scopes

    pub list_columns : s.SelectList → Scopes → List TypedColumn
    list_columns s.star scopes = star_columns scopes
    list_columns (s.items xs) scopes = items_columns xs scopes

    -- the columns of a query; a set operation has the names of its left operand
    pub columns : s.Query → Scopes → List TypedColumn
    columns (s.block each list from by group having) scopes = list_columns list (list_scope list group having (ranges from scopes) ∷ scopes)
    columns (s.enclosed q) scopes = columns q scopes
    columns (s.combine x op all y) scopes = columns x scopes
    columns (s.intersect x all y) scopes = columns x scopes

    -- ---- FROM: a subquery in it sees the scopes round the block

    pub ranges : s.TableRefs → Scopes → List TypedRange
    ranges s.no_table scopes = []
    ranges (s.one_table x xs) scopes = table_ranges x scopes ++ ranges xs scopes

    pub table_ranges : s.TableRef → Scopes → List TypedRange
    table_ranges (s.join x inner y p) scopes = table_ranges x scopes ++ table_ranges y scopes
    table_ranges (s.left_join x outer y p) scopes = table_ranges x scopes ++ table_ranges y scopes
    table_ranges (s.cross_join x y) scopes = table_ranges x scopes ++ table_ranges y scopes
    table_ranges (s.named name c) scopes = named_range name c (heads name) ∷ []
    table_ranges (s.derived q c) scopes = derived_range c (columns q scopes) ∷ []
    table_ranges (s.joined x) scopes = table_ranges x scopes
