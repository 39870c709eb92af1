-- What a query means: nested loops over lists, by names (SQL-92, 6.11 to 6.14, 7.4 to 7.10, 8.2 to 8.8 and 13.1). The tree is walked here, and what its nodes do stands elsewhere: truth, arithmetic, comparison and LIKE in sql_value, rows at levels and what they come to (subqueries, aggregates, left joins) in row_bag, CASE in Values, groups in Groups, conditions, DISTINCT and set operations in Joins, output names in Names.
use Rattle.std.specs.Prelude.{ℕ, zero, suc, ◌+◌, Bool, true, false, List, [], ◌∷◌, ◌++◌, map, Option, Some, None, position, ℤ, pos, negsuc, if◌then◌else◌}
use Rattle.shared_types.specs.declared.compare.CmpOp.TheVariants.{Eq, Ge, Le}
use Rattle.row_bag.specs.Bags.{unit}
use Rattle.row_bag.specs.Sorted.{sorted_rows}
use Rattle.row_bag.specs.Tables.{bag_named}
use Rattle.row_bag.specs.Verdict.{verdict}
use Rattle.row_bag.specs.declared.outcome.Verdict.{Verdict}
use Rattle.row_bag.specs.declared.outcome.Verdict.TheVariants.{Rows, Error}
use Rattle.row_bag.specs.declared.row.Row.{Row}
use Rattle.row_bag.specs.declared.tables.Table.{Table}
use Rattle.sql_ast.specs.declared.schema.TableDecl.{TableDecl}
use Rattle.sql_ast.specs.declared.text.Sort.{Sort}
use Rattle.sql_ast.specs.declared.text.SortKey.{SortKey}
use Rattle.sql_ast.specs.declared.text.SortKey.TheVariants as sort_key
use Rattle.sql_ast.specs.declared.word.Direction.{Direction}
use Rattle.sql_ast.specs.declared.word.Direction.TheVariants as way
use Rattle.sql_ast.specs.Syntax as s
use Rattle.sql_ast.specs.Declarations.{Declared, table_named, view_named}
use Rattle.sql_ast.specs.Declarations.{names_of}
use Rattle.sql_ast.specs.Declarations.{columns_of as declared_columns}
use Rattle.sql_value.specs.Comparison as c
use Rattle.sql_value.specs.Like as l
use Rattle.sql_value.specs.Truths as t
use Rattle.sql_value.specs.declared.cell.Cell.{Cell}
use Rattle.sql_value.specs.declared.cell.Cell.TheVariants.{Int, Text, Null, Err}
use Rattle.sql_value.specs.declared.cell.Kind.{Kind}
use Rattle.sql_value.specs.declared.order_key.OrderKey.{OrderKey}
use Rattle.sql_value.specs.declared.truth.Truth.{Truth}
use Rattle.sql_meaning.specs.Grouping.{is_grouped}
pub use Rattle.sql_meaning.specs.Groups.{Group, aggregated, groups, is_distinct, no_group}
use Rattle.sql_meaning.specs.Groups as g
pub use Rattle.sql_meaning.specs.Joins.{combined, distinct_if, intersected, kept, left_join, product, ranged, selected}
pub use Rattle.sql_meaning.specs.Names.{Known, Relation, all_named, columns_of, item_name, item_names, items_names, list_names, names, own_name, range_name, relation, renamed, shape, table_shape, under, column_list}
pub use Rattle.sql_meaning.specs.Scopes.{Frame, Range, Scopes, Shape, column_value, filled, first_of, frame_cells, is_named, range_of, shapes_of}
use Rattle.sql_meaning.specs.Subqueries as u
pub use Rattle.sql_meaning.specs.Values.{additive, case_at, case_of, multiplicative, perhaps_not, signed}

-- the cells of a range that was found
abbrev pub cells_of : Option Range → List Cell
cells_of None = []
cells_of (Some range) = range.cells

-- the cells of the one row that an error is
abbrev pub failed_cells : List (Option (List ℕ)) → Kind → List Cell
failed_cells columns k = map (λ _. Err k) columns

-- over tables and views by name; each part in the scopes that enclose it, the innermost first, and in the group of its block, where that block is grouped
module _ (known : Known) where
  abbrev mutual
    -- ---- expressions

    pub value : s.Expr → Scopes → Group Frame → Cell
    value (s.add x op y) scopes group = additive op (value x scopes group) (value y scopes group)
    value (s.multiply x op y) scopes group = multiplicative op (value x scopes group) (value y scopes group)
    value (s.signed p x) scopes group = signed p (value x scopes group)
    value (s.number n) scopes group = Int n
    value (s.string x) scopes group = Text x
    value (s.col x) scopes group = column_value x scopes
    value (s.paren x) scopes group = value x scopes group
    value (s.scalar q) scopes group = u.scalar (rows q scopes)
    value s.count_all scopes group = g.count_all group
    -- the argument is read in each row of the group
    value (s.aggregate f each x) scopes group = aggregated f (is_distinct each) (λ frame. value x (frame ∷ []) no_group) group
    -- the conditions in turn
    value (s.searched xs o) scopes group = of_arms xs (otherwise o scopes group) scopes group
    -- CASE x WHEN v tests x = v
    value (s.simple x xs o) scopes group = of_choices (value x scopes group) xs (otherwise o scopes group) scopes group
    value (s.coalesce x xs) scopes group = coalesced (value x scopes group) xs scopes group
    -- CASE WHEN x = y THEN NULL ELSE x END
    value (s.null_if x y) scopes group = case_of (c.compare Eq (value x scopes group) (value y scopes group)) Null (value x scopes group)
    value (s.cast_null d) scopes group = Null

    pub result_of : s.Res → Scopes → Group Frame → Cell
    result_of (s.given x) scopes group = value x scopes group
    result_of s.null scopes group = Null

    -- the result of the first condition that is true, and else the last cell
    pub of_arms : s.Arms → Cell → Scopes → Group Frame → Cell
    of_arms s.no_arm last scopes group = last
    of_arms (s.one_arm p r xs) last scopes group = case_of (truth p scopes group) (result_of r scopes group) (of_arms xs last scopes group)

    -- the result of the first value that the operand equals, and else the last cell
    pub of_choices : Cell → s.Choices → Cell → Scopes → Group Frame → Cell
    of_choices x s.no_choice last scopes group = last
    of_choices x (s.one_choice y r xs) last scopes group = case_of (c.compare Eq x (value y scopes group)) (result_of r scopes group) (of_choices x xs last scopes group)

    -- without ELSE null
    pub otherwise : s.Otherwise → Scopes → Group Frame → Cell
    otherwise s.no_else scopes group = Null
    otherwise (s.or_else r) scopes group = result_of r scopes group

    -- COALESCE(x, ..): CASE WHEN x IS NOT NULL THEN x ELSE COALESCE(..) END
    pub coalesced : Cell → s.Exprs → Scopes → Group Frame → Cell
    coalesced x s.no_expr scopes group = x
    coalesced x (s.one_expr y xs) scopes group = case_of (t.negated (c.is_null x)) x (coalesced (value y scopes group) xs scopes group)

    -- ---- conditions

    pub truth : s.Cond → Scopes → Group Frame → Truth
    truth (s.either p q) scopes group = t.or (truth p scopes group) (truth q scopes group)
    truth (s.both p q) scopes group = t.and (truth p scopes group) (truth q scopes group)
    truth (s.negated p) scopes group = t.negated (truth p scopes group)
    truth (s.bracket p) scopes group = truth p scopes group
    truth (s.compare x op y) scopes group = c.compare op (value x scopes group) (value y scopes group)
    truth (s.quantified x op each q) scopes group = u.quantified each op (value x scopes group) (rows q scopes)
    -- x >= a AND x <= b
    truth (s.between x negative y z) scopes group =
        perhaps_not negative (t.and (c.compare Ge (value x scopes group) (value y scopes group)) (c.compare Le (value x scopes group) (value z scopes group)))
    -- x IN Q is x = ANY Q
    truth (s.in_query x negative q) scopes group = perhaps_not negative (u.compare_any Eq (value x scopes group) (rows q scopes))
    truth (s.in_list x negative xs) scopes group = perhaps_not negative (equals_one (value x scopes group) xs scopes group)
    truth (s.like x negative y) scopes group = perhaps_not negative (l.like (value x scopes group) (value y scopes group))
    truth (s.is_null x negative) scopes group = perhaps_not negative (c.is_null (value x scopes group))
    truth (s.exists q) scopes group = u.exists (rows q scopes)

    -- x = y OR x = z ..
    pub equals_one : Cell → s.Exprs → Scopes → Group Frame → Truth
    equals_one x s.no_expr scopes group = t.truth_of false
    equals_one x (s.one_expr y xs) scopes group = t.or (c.compare Eq x (value y scopes group)) (equals_one x xs scopes group)

    -- true where there is no condition
    pub filtered : s.Filter → Scopes → Group Frame → Truth
    filtered s.no_filter scopes group = t.truth_of true
    filtered (s.only_where p) scopes group = truth p scopes group

    -- ---- lists

    -- the cells of an item of a list: one, or those of a range
    pub item_cells : s.Item → Scopes → Group Frame → List Cell
    item_cells (s.item x n) scopes group = value x scopes group ∷ []
    item_cells (s.all_of name) scopes group = cells_of (range_of name scopes)

    pub items_cells : s.Items → Scopes → Group Frame → List Cell
    items_cells s.no_item scopes group = []
    items_cells (s.one_item x xs) scopes group = item_cells x scopes group ++ items_cells xs scopes group

    -- the cells of a list, in the frame of its block and the scopes round it; `*` is all columns of the FROM in order
    pub list_cells : s.SelectList → Frame → Scopes → Group Frame → List Cell
    list_cells s.star frame scopes group = frame_cells frame
    list_cells (s.items xs) frame scopes group = items_cells xs (frame ∷ scopes) group

    -- ---- FROM

    -- the product of the tables of a FROM, in the order of the text
    pub frames : s.TableRefs → Scopes → List (Row Frame)
    frames s.no_table scopes = unit []
    frames (s.one_table x xs) scopes = product (table_rows x scopes) (frames xs scopes)

    -- the rows of a table of a FROM; a subquery sees the scopes round its block, an ON sees its two operands first
    pub table_rows : s.TableRef → Scopes → List (Row Frame)
    table_rows (s.join x inner y p) scopes = kept (λ frame. truth p (frame ∷ scopes) no_group) (product (table_rows x scopes) (table_rows y scopes))
    table_rows (s.left_join x outer y p) scopes =
        left_join (λ frame. truth p (frame ∷ scopes) no_group) (filled Null (table_shape known y (shapes_of scopes))) (table_rows x scopes) (table_rows y scopes)
    table_rows (s.cross_join x y) scopes = product (table_rows x scopes) (table_rows y scopes)
    table_rows (s.named name c) scopes = ranged (range_name name c) (under (column_list c) (known name))
    table_rows (s.derived q c) scopes = ranged c.name (Some (relation (renamed c.columns (names known q (shapes_of scopes))) (rows q scopes)))
    table_rows (s.joined x) scopes = table_rows x scopes

    -- ---- queries

    -- a block: FROM, then WHERE, groups, HAVING, list, DISTINCT
    pub rows : s.Query → Scopes → List (Row (List Cell))
    rows (s.block each list from by group having) scopes =
        distinct_if (is_distinct each) (if is_grouped list group having
        then selected (λ one. filtered having (one.key ∷ scopes) one.group) (λ one. list_cells list one.key scopes one.group)
        (groups group (shape known from (shapes_of scopes)) (kept (λ frame. filtered by (frame ∷ scopes) no_group) (frames from scopes)))
        else selected (λ frame. filtered by (frame ∷ scopes) no_group) (λ frame. list_cells list frame scopes no_group) (frames from scopes))
    rows (s.enclosed q) scopes = rows q scopes
    rows (s.combine x op all y) scopes = combined op all (failed_cells (names known x (shapes_of scopes))) (rows x scopes) (rows y scopes)
    rows (s.intersect x all y) scopes = intersected all (failed_cells (names known x (shapes_of scopes))) (rows x scopes) (rows y scopes)

-- ---- answers

-- the place of the first that passes, from 1; 0 where none does, which isn't so in a valid query
abbrev pub place_from_one : Option ℕ → ℕ
place_from_one None = 0
place_from_one (Some n) = n + 1

-- a number that isn't below 0
abbrev pub number_of : ℤ → ℕ
number_of (pos n) = n
number_of (negsuc n) = 0

-- the column of a key, from 1: the one of its name, or the one at its number
abbrev pub key_column : List (Option (List ℕ)) → SortKey → ℕ
key_column names (sort_key.Name name) = place_from_one (position (is_named name) names)
key_column names (sort_key.Number n) = number_of n

abbrev pub is_descending : Option Direction → Bool
is_descending (Some way.Desc) = true
is_descending _ = false

abbrev pub order_key : List (Option (List ℕ)) → Sort → OrderKey
order_key names sort = record { column = key_column names sort.key; descending = is_descending sort.direction }

-- what a query comes to: a name for each column and the rows in order, or the one error
pub data Answer : Type 0 where
  answer_rows : List (Option (List ℕ)) → List (Row (List Cell)) → Answer
  answer_error : Kind → Answer

-- the rows by the keys, and then by all columns ascending
abbrev pub answer_of : List (Option (List ℕ)) → List OrderKey → Verdict → Answer
answer_of names keys (Rows rows) = answer_rows names (sorted_rows keys rows)
answer_of names keys (Error kind) = answer_error kind

-- the answer to a query's text: the greatest error among its rows, or all of them in order
abbrev pub answer : Known → s.QueryText → Answer
answer known text = answer_of (names known text.query []) (map (order_key (names known text.query [])) text.order) (verdict (rows known text.query []))

-- ---- the tables and views of a catalog

-- the rows of a table; none where nothing was loaded for it
abbrev pub rows_or_none : Option (List (Row (List Cell))) → List (Row (List Cell))
rows_or_none None = []
rows_or_none (Some rows) = rows

-- a declared table with these rows
abbrev pub relation_with : Option TableDecl → Option (List (Row (List Cell))) → Option Relation
relation_with None bag = None
relation_with (Some table) bag = Some (relation (all_named (names_of (declared_columns table.elements))) (rows_or_none bag))

-- what a table's name stands for, by the catalog and the loaded tables
abbrev pub relation_of : Declared → List Table → Known
relation_of catalog tables name = relation_with (table_named catalog.tables name) (bag_named tables name)

-- what a view's name stands for: the rows of its body, under its column list
abbrev pub viewed : Known → Option s.ViewDecl → Option Relation
viewed known None = None
viewed known (Some view) = Some (relation (renamed view.columns (names known view.query [])) (rows known view.query []))

-- what the name of a table or view stands for, where views nest no deeper than this
abbrev pub known_at : Declared → List Table → ℕ → Known
known_at catalog tables zero name = relation_of catalog tables name
known_at catalog tables (suc depth) name = first_of (relation_of catalog tables name) (viewed (known_at catalog tables depth) (view_named catalog.views name))

-- the same over a schema, whose views nest at most 16 deep
abbrev pub known_of : Declared → List Table → Known
known_of catalog tables = known_at catalog tables 16
