-- A query with its names resolved: each column is a scope and a place. Parentheses vanish, and a chain of operators is one list.
use Rattle.std.specs.Prelude.{ℕ, zero, suc, Bool, true, false, List, [], ◌∷◌, ◌++◌, length, Option, Some, None, if◌then◌else◌}
use Rattle.sql_ast.specs.declared.name.Correlation.{Correlation}
use Rattle.sql_ast.specs.declared.word.AdditiveOp.{AdditiveOp}
use Rattle.sql_ast.specs.declared.word.DataType.{DataType}
use Rattle.sql_ast.specs.declared.word.DataType.TheVariants as type
use Rattle.sql_ast.specs.declared.word.MultiplicativeOp.{MultiplicativeOp}
use Rattle.sql_ast.specs.declared.word.Sign.{Sign}
use Rattle.sql_ast.specs.declared.word.Sign.TheVariants as sign
use Rattle.sql_ast.specs.Syntax as s
use Rattle.sql_meaning.specs.Grouping.{is_grouped}
use Rattle.sql_meaning.specs.Groups.{is_distinct}
use Rattle.sql_meaning.specs.Names.{Known, Relation, column_list, names, range_name, relation, shape, table_shape, under}
use Rattle.sql_meaning.specs.Names as named
use Rattle.sql_meaning.specs.Scopes.{Shape}
use Rattle.sql_value.specs.declared.order_key.SqlType.{SqlType}
use Rattle.sql_value.specs.declared.order_key.SqlType.TheVariants.{Integer, Varchar}
use Rattle.sql_meaning.specs.ResolvedTrees.{Value, Addends, Multipliers, Values, Arms, Choices, Test, Tests, From, Froms, Query}
use Rattle.sql_meaning.specs.ResolvedTrees as q
use Rattle.sql_meaning.specs.Even.{innermost}
use Rattle.sql_names.specs.Places.{ColumnPlace, Span, grouping_places, place_of, span_of, width}

-- the names of the columns of tables and views, by name
abbrev pub Columns : Type 0
Columns = List ℕ → Option (List (Option (List ℕ)))

abbrev pub without_rows : Option (List (Option (List ℕ))) → Option Relation
without_rows None = None
without_rows (Some columns) = Some (relation columns [])

-- tables and views of these columns, without rows
abbrev pub bare : Columns → Known
bare columns name = without_rows (columns name)

-- the range of a table or view in a FROM; it has no columns where there is none of the name
abbrev pub named_range : Columns → List ℕ → Option Correlation → List ℕ × List (Option (List ℕ))
named_range columns name alias = (range_name name alias, named.columns_of (under (column_list alias) (bare columns name)))

-- ---- operators

-- one more addend at the end of a chain
abbrev pub more_addends : Addends → AdditiveOp → Value → Addends
more_addends q.no_addend op y = q.one_addend op y q.no_addend
more_addends (q.one_addend o x xs) op y = q.one_addend o x (more_addends xs op y)

abbrev pub plus : Value → AdditiveOp → Value → Value
plus (q.sum x xs) op y = q.sum x (more_addends xs op y)
plus x op y = q.sum x (q.one_addend op y q.no_addend)

abbrev pub more_multipliers : Multipliers → MultiplicativeOp → Value → Multipliers
more_multipliers q.no_multiplier op y = q.one_multiplier op y q.no_multiplier
more_multipliers (q.one_multiplier o x xs) op y = q.one_multiplier o x (more_multipliers xs op y)

abbrev pub times : Value → MultiplicativeOp → Value → Value
times (q.product x xs) op y = q.product x (more_multipliers xs op y)
times x op y = q.product x (q.one_multiplier op y q.no_multiplier)

abbrev pub more_tests : Tests → Test → Tests
more_tests q.no_test p = q.one_test p q.no_test
more_tests (q.one_test r rs) p = q.one_test r (more_tests rs p)

abbrev pub both : Test → Test → Test
both (q.all ps) p = q.all (more_tests ps p)
both r p = q.all (q.one_test r (q.one_test p q.no_test))

abbrev pub either : Test → Test → Test
either (q.any ps) p = q.any (more_tests ps p)
either r p = q.any (q.one_test r (q.one_test p q.no_test))

-- "+" is nothing
abbrev pub signed : Sign → Value → Value
signed sign.Plus x = x
signed sign.Minus x = q.negative x

-- NOT, where it is written
abbrev pub perhaps_not : Bool → Test → Test
perhaps_not true p = q.negated p
perhaps_not false p = p

abbrev pub type_of : DataType → SqlType
type_of type.Integer = Integer
type_of type.Int = Integer
type_of (type.Varchar n) = Varchar

-- ---- columns

-- null where a name stands for nothing, which isn't so in a valid query
abbrev pub column_at : Option ColumnPlace → Value
column_at None = q.null None
column_at (Some p) = q.column p.scope p.place

-- so many columns of a scope, from a place on
abbrev pub columns_from : ℕ → ℕ → ℕ → Values
columns_from scope place zero = q.no_value
columns_from scope place (suc n) = q.one_value (q.column scope place) (columns_from scope (suc place) n)

-- the columns of a range that was found
abbrev pub columns_of : Option Span → Values
columns_of None = q.no_value
columns_of (Some s) = columns_from s.scope s.first (length s.columns)

abbrev pub append : Values → Values → Values
append q.no_value ys = ys
append (q.one_value x xs) ys = q.one_value x (append xs ys)

-- over tables and views of these columns; each part within the ranges of the scopes that enclose it, the innermost first
module _ (columns : Columns) where
  abbrev mutual
    -- ---- expressions

    pub value : List Shape → s.Expr → Value
    value shapes (s.add x op y) = plus (value shapes x) op (value shapes y)
    value shapes (s.multiply x op y) = times (value shapes x) op (value shapes y)
    value shapes (s.signed p x) = signed p (value shapes x)
    value shapes (s.number n) = q.number n
    value shapes (s.string x) = q.text x
    value shapes (s.col c) = column_at (place_of c.range c.name shapes)
    value shapes (s.paren x) = value shapes x
    value shapes (s.scalar body) = q.scalar (query shapes body)
    value shapes s.count_all = q.count_all
    -- the argument is read in the rows of the group alone
    value shapes (s.aggregate f each x) = q.aggregate f (is_distinct each) (value (innermost shapes ∷ []) x)
    value shapes (s.searched xs o) = q.searched (arms shapes xs) (otherwise shapes o)
    value shapes (s.simple x xs o) = q.simple (value shapes x) (choices shapes xs) (otherwise shapes o)
    value shapes (s.coalesce x xs) = q.coalesce (value shapes x) (values shapes xs)
    value shapes (s.null_if x y) = q.null_if (value shapes x) (value shapes y)
    value shapes (s.cast_null d) = q.null (Some (type_of d))

    pub values : List Shape → s.Exprs → Values
    values shapes s.no_expr = q.no_value
    values shapes (s.one_expr x xs) = q.one_value (value shapes x) (values shapes xs)

    pub result : List Shape → s.Res → Value
    result shapes (s.given x) = value shapes x
    result shapes s.null = q.null None

    pub arms : List Shape → s.Arms → Arms
    arms shapes s.no_arm = q.no_arm
    arms shapes (s.one_arm p r xs) = q.one_arm (test shapes p) (result shapes r) (arms shapes xs)

    pub choices : List Shape → s.Choices → Choices
    choices shapes s.no_choice = q.no_choice
    choices shapes (s.one_choice x r xs) = q.one_choice (value shapes x) (result shapes r) (choices shapes xs)

    -- without ELSE null
    pub otherwise : List Shape → s.Otherwise → Value
    otherwise shapes s.no_else = q.null None
    otherwise shapes (s.or_else r) = result shapes r

    -- ---- conditions

    pub test : List Shape → s.Cond → Test
    test shapes (s.either p r) = either (test shapes p) (test shapes r)
    test shapes (s.both p r) = both (test shapes p) (test shapes r)
    test shapes (s.negated p) = q.negated (test shapes p)
    test shapes (s.bracket p) = test shapes p
    test shapes (s.compare x op y) = q.compare (value shapes x) op (value shapes y)
    test shapes (s.quantified x op each body) = q.quantified (value shapes x) op each (query shapes body)
    test shapes (s.between x negative y z) = perhaps_not negative (q.between (value shapes x) (value shapes y) (value shapes z))
    test shapes (s.in_query x negative body) = perhaps_not negative (q.among_rows (value shapes x) (query shapes body))
    test shapes (s.in_list x negative xs) = perhaps_not negative (q.among (value shapes x) (values shapes xs))
    test shapes (s.like x negative y) = perhaps_not negative (q.like (value shapes x) (value shapes y))
    test shapes (s.is_null x negative) = perhaps_not negative (q.is_null (value shapes x))
    test shapes (s.exists body) = q.exists (query shapes body)

    -- without a condition all rows pass
    pub filter : List Shape → s.Filter → Test
    filter shapes s.no_filter = q.all q.no_test
    filter shapes (s.only_where p) = test shapes p

    -- ---- lists

    pub item : List Shape → s.Item → Values
    item shapes (s.item x n) = q.one_value (value shapes x) q.no_value
    item shapes (s.all_of name) = columns_of (span_of name shapes)

    pub items : List Shape → s.Items → Values
    items shapes s.no_item = q.no_value
    items shapes (s.one_item x xs) = append (item shapes x) (items shapes xs)

    -- `*` is all columns of the FROM in order
    pub list : List Shape → s.SelectList → Values
    list shapes s.star = columns_from 0 0 (width (innermost shapes))
    list shapes (s.items xs) = items shapes xs

    -- ---- FROM

    pub froms : List Shape → s.TableRefs → Froms
    froms shapes s.no_table = q.no_from
    froms shapes (s.one_table x xs) = q.one_from (table shapes x) (froms shapes xs)

    -- an ON sees the two operands of its join first
    pub table : List Shape → s.TableRef → From
    table shapes (s.join x inner y p) = q.joined (table shapes x) (table shapes y) (test ((table_shape (bare columns) x shapes ++ table_shape (bare columns) y shapes) ∷ shapes) p)
    table shapes (s.left_join x outer y p) =
        q.left_joined (table shapes x) (table shapes y) (width (table_shape (bare columns) y shapes))
        (test ((table_shape (bare columns) x shapes ++ table_shape (bare columns) y shapes) ∷ shapes) p)
    table shapes (s.cross_join x y) = q.crossed (table shapes x) (table shapes y)
    table shapes (s.named name c) = q.named name
    table shapes (s.derived body c) = q.derived (query shapes body)
    table shapes (s.joined x) = table shapes x

    -- ---- queries

    pub query : List Shape → s.Query → Query
    query shapes (s.block each xs from by group having) =
        if is_grouped xs group having
        then q.grouped (is_distinct each) (list (shape (bare columns) from shapes ∷ shapes) xs) (froms shapes from) (filter (shape (bare columns) from shapes ∷ shapes) by)
        (grouping_places group (shape (bare columns) from shapes)) (width (shape (bare columns) from shapes)) (filter (shape (bare columns) from shapes ∷ shapes) having)
        else q.block (is_distinct each) (list (shape (bare columns) from shapes ∷ shapes) xs) (froms shapes from) (filter (shape (bare columns) from shapes ∷ shapes) by)
    query shapes (s.enclosed x) = query shapes x
    query shapes (s.combine x op all y) = q.combine (query shapes x) op all (length (names (bare columns) x shapes)) (query shapes y)
    query shapes (s.intersect x all y) = q.intersect (query shapes x) all (length (names (bare columns) x shapes)) (query shapes y)
