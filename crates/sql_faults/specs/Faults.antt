-- Which queries are valid: the least number of a rule that is broken in a query, at any depth, or 0.
use Rattle.std.specs.Prelude.{ℕ, List, [], ◌∷◌, ◌++◌, Option}
use Rattle.sql_ast.specs.declared.name.Column.{Column}
use Rattle.sql_ast.specs.declared.name.Correlation.{Correlation}
use Rattle.sql_ast.specs.Syntax as s
use Rattle.sql_meaning.specs.Names.{column_list}
use Rattle.sql_value.specs.declared.order_key.SqlType.{SqlType}
use Rattle.sql_value.specs.declared.order_key.SqlType.TheVariants.{Integer, Varchar}
use Rattle.sql_faults.specs.Columns.{arm_types, choice_types, columns, columns_or_none, else_types, list_columns, list_scope, operand_type, ranges, table_ranges, type_of, types_of}
use Rattle.sql_faults.specs.Rules.{aggregate_misplaced, column_misplaced, grouping_outer, keys_unfit, length_unfit, lesser, list_differs, list_unequal, name_ungrouped, names_equal, not_one, one_of, operands_differ, operands_unequal, pair_differs, parts_differ, range_ungrouped, range_unknown, ranges_equal, results_differ, star_ungrouped, sub_misplaced, table_unknown, too_wide, wants, wants_argument}
use Rattle.sql_faults.specs.Scopes.{Heads, Scopes, first_type, meant, plain, released, scope_with}
use Rattle.sql_faults.specs.declared.column.TypedColumn.{TypedColumn}
use Rattle.sql_faults.specs.declared.column.TypedRange.{TypedRange}
use Rattle.sql_faults.specs.declared.site.Site.{Site}
use Rattle.sql_faults.specs.declared.site.Site.TheVariants.{Argument, Filtered, Listed}

-- a column's name
abbrev pub column_fault : Site → Column → Scopes → ℕ
column_fault place c scopes = lesser (one_of (meant c scopes)) (lesser (name_ungrouped c scopes) (column_misplaced place c scopes))

-- `r.*`
abbrev pub range_fault : List ℕ → Scopes → ℕ
range_fault name scopes = lesser (range_unknown (scope_with name scopes)) (range_ungrouped name (scope_with name scopes))

-- the columns of GROUP BY, in their block's scope
abbrev pub grouping_fault : List Column → Scopes → ℕ
grouping_fault [] scopes = 0
grouping_fault (c ∷ by) scopes = lesser (lesser (one_of (meant c scopes)) (grouping_outer c scopes)) (grouping_fault by scopes)

-- a column list over columns
abbrev pub list_fault : List (List ℕ) → List TypedColumn → ℕ
list_fault names columns = lesser (names_equal names) (list_unequal names columns)

-- a table or view of a FROM, which stands for these columns
abbrev pub named_fault : Option Correlation → Option (List TypedColumn) → ℕ
named_fault c found = lesser (table_unknown found) (list_fault (column_list c) (columns_or_none found))

-- two operands of a set operation
abbrev pub operands_fault : List TypedColumn → List TypedColumn → ℕ
operands_fault xs ys = lesser (operands_differ xs ys) (operands_unequal xs ys)

-- a subquery in place of a value
abbrev pub scalar_fault : Site → List TypedColumn → ℕ
scalar_fault place columns = lesser (not_one columns) (sub_misplaced place)

-- a subquery that an operand of this type is compared with
abbrev pub compared_fault : Site → Option SqlType → List TypedColumn → ℕ
compared_fault place t columns = lesser (pair_differs t (first_type columns)) (scalar_fault place columns)

-- over tables and views by name; each part at its place, in the scopes that enclose it, the innermost first
module _ (heads : Heads) where
  abbrev mutual
    pub expr_fault : Site → s.Expr → Scopes → ℕ
    expr_fault place (s.add x op y) scopes =
        lesser (lesser (expr_fault place x scopes) (expr_fault place y scopes)) (lesser (wants (operand_type op) (type_of heads x scopes)) (wants (operand_type op) (type_of heads y scopes)))
    expr_fault place (s.multiply x op y) scopes =
        lesser (lesser (expr_fault place x scopes) (expr_fault place y scopes)) (lesser (wants Integer (type_of heads x scopes)) (wants Integer (type_of heads y scopes)))
    expr_fault place (s.signed p x) scopes = lesser (expr_fault place x scopes) (wants Integer (type_of heads x scopes))
    expr_fault place (s.number n) scopes = 0
    expr_fault place (s.string x) scopes = 0
    expr_fault place (s.col c) scopes = column_fault place c scopes
    expr_fault place (s.paren x) scopes = expr_fault place x scopes
    expr_fault place (s.scalar q) scopes = lesser (query_fault q scopes) (scalar_fault place (columns heads q scopes))
    expr_fault place s.count_all scopes = aggregate_misplaced place
    expr_fault place (s.aggregate f each x) scopes =
        lesser (expr_fault Argument x (released scopes)) (lesser (wants_argument f (type_of heads x (released scopes))) (aggregate_misplaced place))
    expr_fault place (s.searched xs o) scopes =
        lesser (lesser (arms_fault place xs scopes) (else_fault place o scopes)) (results_differ (arm_types heads xs scopes ++ else_types heads o scopes))
    -- the operand is compared with each value
    expr_fault place (s.simple x xs o) scopes =
        lesser (lesser (lesser (expr_fault place x scopes) (choices_fault place (type_of heads x scopes) xs scopes)) (else_fault place o scopes))
        (results_differ (choice_types heads xs scopes ++ else_types heads o scopes))
    expr_fault place (s.coalesce x xs) scopes =
        lesser (lesser (expr_fault place x scopes) (exprs_fault place xs scopes)) (parts_differ (type_of heads x scopes ∷ types_of heads xs scopes))
    expr_fault place (s.null_if x y) scopes =
        lesser (lesser (expr_fault place x scopes) (expr_fault place y scopes)) (pair_differs (type_of heads x scopes) (type_of heads y scopes))
    expr_fault place (s.cast_null d) scopes = length_unfit d

    pub exprs_fault : Site → s.Exprs → Scopes → ℕ
    exprs_fault place s.no_expr scopes = 0
    exprs_fault place (s.one_expr x xs) scopes = lesser (expr_fault place x scopes) (exprs_fault place xs scopes)

    pub res_fault : Site → s.Res → Scopes → ℕ
    res_fault place (s.given x) scopes = expr_fault place x scopes
    res_fault place s.null scopes = 0

    pub arms_fault : Site → s.Arms → Scopes → ℕ
    arms_fault place s.no_arm scopes = 0
    arms_fault place (s.one_arm p r xs) scopes = lesser (lesser (cond_fault place p scopes) (res_fault place r scopes)) (arms_fault place xs scopes)

    -- with the type of the operand
    pub choices_fault : Site → Option SqlType → s.Choices → Scopes → ℕ
    choices_fault place t s.no_choice scopes = 0
    choices_fault place t (s.one_choice x r xs) scopes =
        lesser (lesser (lesser (expr_fault place x scopes) (pair_differs t (type_of heads x scopes))) (res_fault place r scopes)) (choices_fault place t xs scopes)

    pub else_fault : Site → s.Otherwise → Scopes → ℕ
    else_fault place s.no_else scopes = 0
    else_fault place (s.or_else r) scopes = res_fault place r scopes

    pub cond_fault : Site → s.Cond → Scopes → ℕ
    cond_fault place (s.either p q) scopes = lesser (cond_fault place p scopes) (cond_fault place q scopes)
    cond_fault place (s.both p q) scopes = lesser (cond_fault place p scopes) (cond_fault place q scopes)
    cond_fault place (s.negated p) scopes = cond_fault place p scopes
    cond_fault place (s.bracket p) scopes = cond_fault place p scopes
    cond_fault place (s.compare x op y) scopes =
        lesser (lesser (expr_fault place x scopes) (expr_fault place y scopes)) (pair_differs (type_of heads x scopes) (type_of heads y scopes))
    cond_fault place (s.quantified x op each q) scopes =
        lesser (lesser (expr_fault place x scopes) (query_fault q scopes)) (compared_fault place (type_of heads x scopes) (columns heads q scopes))
    cond_fault place (s.between x negative y z) scopes =
        lesser (lesser (expr_fault place x scopes) (lesser (expr_fault place y scopes) (expr_fault place z scopes)))
        (lesser (pair_differs (type_of heads x scopes) (type_of heads y scopes)) (pair_differs (type_of heads x scopes) (type_of heads z scopes)))
    cond_fault place (s.in_query x negative q) scopes =
        lesser (lesser (expr_fault place x scopes) (query_fault q scopes)) (compared_fault place (type_of heads x scopes) (columns heads q scopes))
    cond_fault place (s.in_list x negative xs) scopes =
        lesser (lesser (expr_fault place x scopes) (exprs_fault place xs scopes)) (list_differs (type_of heads x scopes) (types_of heads xs scopes))
    cond_fault place (s.like x negative y) scopes =
        lesser (lesser (expr_fault place x scopes) (expr_fault place y scopes)) (lesser (wants Varchar (type_of heads x scopes)) (wants Varchar (type_of heads y scopes)))
    cond_fault place (s.is_null x negative) scopes = expr_fault place x scopes
    cond_fault place (s.exists q) scopes = lesser (query_fault q scopes) (sub_misplaced place)

    pub filter_fault : Site → s.Filter → Scopes → ℕ
    filter_fault place s.no_filter scopes = 0
    filter_fault place (s.only_where p) scopes = cond_fault place p scopes

    -- ---- lists

    pub item_fault : s.Item → Scopes → ℕ
    item_fault (s.item x n) scopes = expr_fault Listed x scopes
    item_fault (s.all_of name) scopes = range_fault name scopes

    pub items_fault : s.Items → Scopes → ℕ
    items_fault s.no_item scopes = 0
    items_fault (s.one_item x xs) scopes = lesser (item_fault x scopes) (items_fault xs scopes)

    pub select_fault : s.SelectList → Scopes → ℕ
    select_fault s.star scopes = star_ungrouped scopes
    select_fault (s.items xs) scopes = items_fault xs scopes

    -- ---- FROM

    pub from_fault : s.TableRefs → Scopes → ℕ
    from_fault s.no_table scopes = 0
    from_fault (s.one_table x xs) scopes = lesser (table_fault x scopes) (from_fault xs scopes)

    -- an ON sees the ranges of its two operands first
    pub table_fault : s.TableRef → Scopes → ℕ
    table_fault (s.join x inner y p) scopes =
        lesser (lesser (table_fault x scopes) (table_fault y scopes)) (cond_fault Filtered p (plain (table_ranges heads x scopes ++ table_ranges heads y scopes) ∷ scopes))
    table_fault (s.left_join x outer y p) scopes =
        lesser (lesser (table_fault x scopes) (table_fault y scopes)) (cond_fault Filtered p (plain (table_ranges heads x scopes ++ table_ranges heads y scopes) ∷ scopes))
    table_fault (s.cross_join x y) scopes = lesser (table_fault x scopes) (table_fault y scopes)
    table_fault (s.named name c) scopes = named_fault c (heads name)
    table_fault (s.derived q c) scopes = lesser (query_fault q scopes) (list_fault c.columns (columns heads q scopes))
    table_fault (s.joined x) scopes = table_fault x scopes

    -- ---- queries

    -- the clauses of a block over the ranges of its FROM; its list and HAVING see the scope of its groups
    pub query_fault : s.Query → Scopes → ℕ
    query_fault (s.block each list from by group having) scopes =
        lesser (lesser (from_fault from scopes) (ranges_equal (ranges heads from scopes)))
        (lesser (lesser (filter_fault Filtered by (plain (ranges heads from scopes) ∷ scopes)) (grouping_fault group (plain (ranges heads from scopes) ∷ scopes)))
        (lesser (lesser (select_fault list (list_scope list group having (ranges heads from scopes) ∷ scopes)) (filter_fault Listed having (list_scope list group having (ranges heads from scopes) ∷ scopes)))
        (too_wide (list_columns heads list (list_scope list group having (ranges heads from scopes) ∷ scopes)))))
    query_fault (s.enclosed q) scopes = query_fault q scopes
    query_fault (s.combine x op all y) scopes = lesser (lesser (query_fault x scopes) (query_fault y scopes)) (operands_fault (columns heads x scopes) (columns heads y scopes))
    query_fault (s.intersect x all y) scopes = lesser (lesser (query_fault x scopes) (query_fault y scopes)) (operands_fault (columns heads x scopes) (columns heads y scopes))

  -- ---- parts that stand together

  -- a COALESCE, and an operand with a list after IN, whose first expression has this fault and type
  abbrev pub coalesce_fault : Site → ℕ → Option SqlType → s.Exprs → Scopes → ℕ
  coalesce_fault place n t xs scopes = lesser (lesser n (exprs_fault place xs scopes)) (parts_differ (t ∷ types_of heads xs scopes))

  abbrev pub in_list_fault : Site → ℕ → Option SqlType → s.Exprs → Scopes → ℕ
  in_list_fault place n t xs scopes = lesser (lesser n (exprs_fault place xs scopes)) (list_differs t (types_of heads xs scopes))

  -- the condition of a join, which sees the ranges of its operands first
  abbrev pub on_fault : s.Cond → List TypedRange → Scopes → ℕ
  on_fault p operands scopes = cond_fault Filtered p (plain operands ∷ scopes)

  -- WHERE and GROUP BY of a block, in the scope of its FROM
  abbrev pub input_fault : s.Filter → List Column → Scopes → ℕ
  input_fault by group scopes = lesser (filter_fault Filtered by scopes) (grouping_fault group scopes)

  -- the list and HAVING of a block, in their scope
  abbrev pub output_fault : s.SelectList → s.Filter → Scopes → ℕ
  output_fault list having scopes = lesser (lesser (select_fault list scopes) (filter_fault Listed having scopes)) (too_wide (list_columns heads list scopes))

  -- the text of a query with its ORDER BY
  abbrev pub text_fault : s.QueryText → ℕ
  text_fault text = lesser (query_fault text.query []) (keys_unfit (columns heads text.query []) text.order)
