-- A query of the grammar without faults is one that boxes can be made for.
use Rattle.std.proofs.Common.{◌≡◌, ◌∙◌, ℕ, Bool, true, List, [], ◌∷◌, ◌++◌, ◌&&◌, Option, Some, None, refl, sym, ap, subst}
use Rattle.std.proofs.lemmas.Bool.{and_parts}
use Rattle.sql_ast.specs.Grammatical.{are_arms, are_choices, are_exprs, are_items, are_tables, cond_without_sub, is_cond, is_expr, is_filter, is_item, is_list, is_otherwise, is_query, is_res, is_table, is_tprim, some_choice, some_table}
use Rattle.sql_ast.specs.Syntax as s
use Rattle.sql_meaning.specs.Even.{innermost}
use Rattle.sql_meaning.specs.Grouping.{is_grouped}
use Rattle.sql_meaning.specs.Groups.{is_distinct}
use Rattle.sql_meaning.specs.Names.{column_list, shape, table_shape}
use Rattle.sql_meaning.specs.ResolvedTrees as q
use Rattle.sql_meaning.specs.Scopes.{Shape}
use Rattle.sql_value.specs.declared.order_key.SqlType.{SqlType}
use Rattle.sql_names.specs.Places.{grouping_places, place_of, span_of}
use Rattle.sql_names.specs.Places as places
use Rattle.sql_names.specs.Resolved.{Columns, bare}
use Rattle.sql_names.specs.Resolved as resolved
use Rattle.sql_faults.proofs.Evens.{even_query}
use Rattle.sql_faults.proofs.Named.{both_same, ranges_same, scope_same}
use Rattle.sql_faults.proofs.Orders.{both_none}
use Rattle.sql_faults.specs.Columns.{columns_or_none, list_columns, list_scope, ranges, table_ranges, type_of}
use Rattle.sql_faults.specs.Faults.{arms_fault, choices_fault, cond_fault, else_fault, expr_fault, exprs_fault, filter_fault, from_fault, grouping_fault, item_fault, items_fault, list_fault, query_fault, res_fault, select_fault, table_fault}
use Rattle.sql_faults.specs.Laws.{SameColumns, shapes}
use Rattle.sql_faults.specs.Rules.{table_unknown, too_wide}
use Rattle.sql_faults.specs.Scopes.{Heads, Scopes, is_some, plain, released}
use Rattle.qgm_translation.specs.Buildable.{Buildable, FitArms, FitChoices, FitFrom, FitFroms, FitTest, FitValue, FitValues}
use Rattle.qgm_translation.specs.Sources.{Sources}
use Rattle.qgm_translation_laws.proofs.Keys.{has_key}
use Rattle.qgm_translation_laws.proofs.Operators.{append_fits, block_fits, both_fit, columns_fit, either_fits, not_fits, plus_fits, signed_fits, span_fits, times_fits}
use Rattle.qgm_translation_laws.proofs.Plain.{Site, plain_argument, plain_on}
use Rattle.qgm_translation_laws.proofs.Tests.{is_so, last_so}
use Rattle.qgm_translation_laws.proofs.Widths.{query_width, table_width, tables_width}
use Rattle.qgm_translation_laws.specs.Buildable.{Counts, Knows}

module _ (heads : Heads) (columns : Columns) (sources : Sources) (has : List ℕ → Bool) (same : SameColumns heads (bare columns)) (counted : Counts sources columns) (knows : Knows has heads) where
  moved : (body : s.Query) (scopes : Scopes) (any : List Shape) → any ≡ shapes scopes → Buildable sources has (resolved.query columns (shapes scopes) body) → Buildable sources has (resolved.query columns any body)
  moved body scopes any w h = subst (λ (z : List Shape). Buildable sources has (resolved.query columns z body)) (sym w) h

  mutual
    fit_expr : (x : s.Expr) (place : Site) (scopes : Scopes) (any : List Shape) → any ≡ shapes scopes → is_expr x ≡ true → expr_fault heads place x scopes ≡ 0 → FitValue sources has (resolved.value columns any x)
    fit_expr (s.add x op y) place scopes any w g h =
        plus_fits sources has (resolved.value columns any x) op (resolved.value columns any y) (fit_expr x place scopes any w (and_parts _ _ g).0 (both_none _ _ (both_none _ _ h).0).0)
        (fit_expr y place scopes any w (and_parts _ _ (and_parts _ _ g).1).1 (both_none _ _ (both_none _ _ h).0).1)
    fit_expr (s.multiply x op y) place scopes any w g h =
        times_fits sources has (resolved.value columns any x) op (resolved.value columns any y) (fit_expr x place scopes any w (and_parts _ _ (and_parts _ _ g).0).1 (both_none _ _ (both_none _ _ h).0).0)
        (fit_expr y place scopes any w (and_parts _ _ (and_parts _ _ g).1).1 (both_none _ _ (both_none _ _ h).0).1)
    fit_expr (s.signed p x) place scopes any w g h = signed_fits sources has p (resolved.value columns any x) (fit_expr x place scopes any w (and_parts _ _ g).1 (both_none _ _ h).0)
    fit_expr (s.number n) place scopes any w g h = tt
    fit_expr (s.string x) place scopes any w g h = tt
    fit_expr (s.col c) place scopes any w g h = elim (place_of c.range c.name any) as (λ o. FitValue sources has (resolved.column_at o)) [ None ↦ tt | Some p ↦ tt ]
    fit_expr (s.paren x) place scopes any w g h = fit_expr x place scopes any w (and_parts _ _ g).1 h
    fit_expr (s.scalar body) place scopes any w g h = moved body scopes any w (fit_query body scopes g (both_none _ _ h).0)
    fit_expr s.count_all place scopes any w g h = tt
    fit_expr (s.aggregate f each x) place scopes any w g h = λ fr. plain_argument heads columns fr _ (released scopes) (innermost any ∷ []) x (both_none _ _ h).0 refl refl
    fit_expr (s.searched xs o) place scopes any w g h = (
      fit_arms xs place scopes any w (and_parts _ _ (and_parts _ _ g).1).0 (both_none _ _ (both_none _ _ h).0).0,
      fit_otherwise o place scopes any w (and_parts _ _ (and_parts _ _ g).1).1 (both_none _ _ (both_none _ _ h).0).1,
    )
    fit_expr (s.simple x xs o) place scopes any w g h = (
      fit_expr x place scopes any w (and_parts _ _ g).0 (both_none _ _ (both_none _ _ (both_none _ _ h).0).0).0,
      fit_choices xs place (type_of heads x scopes) scopes any w (and_parts _ _ (and_parts _ _ (and_parts _ _ g).1).1).0 (both_none _ _ (both_none _ _ (both_none _ _ h).0).0).1,
      fit_otherwise o place scopes any w (last_so (some_choice xs) (are_choices xs) (is_otherwise o) (and_parts _ _ g).1) (both_none _ _ (both_none _ _ h).0).1,
    )
    fit_expr (s.coalesce x xs) place scopes any w g h = (
      fit_expr x place scopes any w (and_parts _ _ g).0 (both_none _ _ (both_none _ _ h).0).0,
      fit_exprs xs place scopes any w (and_parts _ _ (and_parts _ _ g).1).1 (both_none _ _ (both_none _ _ h).0).1,
    )
    fit_expr (s.null_if x y) place scopes any w g h = (
      fit_expr x place scopes any w (and_parts _ _ g).0 (both_none _ _ (both_none _ _ h).0).0,
      fit_expr y place scopes any w (and_parts _ _ g).1 (both_none _ _ (both_none _ _ h).0).1,
    )
    fit_expr (s.cast_null d) place scopes any w g h = tt

    fit_exprs : (xs : s.Exprs) (place : Site) (scopes : Scopes) (any : List Shape) → any ≡ shapes scopes → are_exprs xs ≡ true → exprs_fault heads place xs scopes ≡ 0 → FitValues sources has (resolved.values columns any xs)
    fit_exprs s.no_expr place scopes any w g h = tt
    fit_exprs (s.one_expr x xs) place scopes any w g h = (fit_expr x place scopes any w (and_parts _ _ g).0 (both_none _ _ h).0, fit_exprs xs place scopes any w (and_parts _ _ g).1 (both_none _ _ h).1)

    fit_res : (r : s.Res) (place : Site) (scopes : Scopes) (any : List Shape) → any ≡ shapes scopes → is_res r ≡ true → res_fault heads place r scopes ≡ 0 → FitValue sources has (resolved.result columns any r)
    fit_res (s.given x) place scopes any w g h = fit_expr x place scopes any w g h
    fit_res s.null place scopes any w g h = tt

    fit_arms : (xs : s.Arms) (place : Site) (scopes : Scopes) (any : List Shape) → any ≡ shapes scopes → are_arms xs ≡ true → arms_fault heads place xs scopes ≡ 0 → FitArms sources has (resolved.arms columns any xs)
    fit_arms s.no_arm place scopes any w g h = tt
    fit_arms (s.one_arm p r xs) place scopes any w g h = (
      fit_cond p place scopes any w (and_parts _ _ g).0 (both_none _ _ (both_none _ _ h).0).0,
      fit_res r place scopes any w (and_parts _ _ (and_parts _ _ g).1).0 (both_none _ _ (both_none _ _ h).0).1,
      fit_arms xs place scopes any w (and_parts _ _ (and_parts _ _ g).1).1 (both_none _ _ h).1,
    )

    fit_choices : (xs : s.Choices) (place : Site) (t : Option SqlType) (scopes : Scopes) (any : List Shape) → any ≡ shapes scopes → are_choices xs ≡ true → choices_fault heads place t xs scopes ≡ 0 → FitChoices sources has (resolved.choices columns any xs)
    fit_choices s.no_choice place t scopes any w g h = tt
    fit_choices (s.one_choice x r xs) place t scopes any w g h = (
      fit_expr x place scopes any w (and_parts _ _ g).0 (both_none _ _ (both_none _ _ (both_none _ _ h).0).0).0,
      fit_res r place scopes any w (and_parts _ _ (and_parts _ _ g).1).0 (both_none _ _ (both_none _ _ h).0).1,
      fit_choices xs place t scopes any w (and_parts _ _ (and_parts _ _ g).1).1 (both_none _ _ h).1,
    )

    fit_otherwise : (o : s.Otherwise) (place : Site) (scopes : Scopes) (any : List Shape) → any ≡ shapes scopes → is_otherwise o ≡ true → else_fault heads place o scopes ≡ 0 → FitValue sources has (resolved.otherwise columns any o)
    fit_otherwise s.no_else place scopes any w g h = tt
    fit_otherwise (s.or_else r) place scopes any w g h = fit_res r place scopes any w g h

    -- ---- conditions

    fit_cond : (p : s.Cond) (place : Site) (scopes : Scopes) (any : List Shape) → any ≡ shapes scopes → is_cond p ≡ true → cond_fault heads place p scopes ≡ 0 → FitTest sources has (resolved.test columns any p)
    fit_cond (s.either p r) place scopes any w g h =
        either_fits sources has (resolved.test columns any p) (resolved.test columns any r) (fit_cond p place scopes any w (and_parts _ _ g).0 (both_none _ _ h).0)
        (fit_cond r place scopes any w (and_parts _ _ (and_parts _ _ g).1).1 (both_none _ _ h).1)
    fit_cond (s.both p r) place scopes any w g h =
        both_fit sources has (resolved.test columns any p) (resolved.test columns any r) (fit_cond p place scopes any w (and_parts _ _ (and_parts _ _ g).0).1 (both_none _ _ h).0)
        (fit_cond r place scopes any w (and_parts _ _ (and_parts _ _ g).1).1 (both_none _ _ h).1)
    fit_cond (s.negated p) place scopes any w g h = fit_cond p place scopes any w (and_parts _ _ g).1 h
    fit_cond (s.bracket p) place scopes any w g h = fit_cond p place scopes any w g h
    fit_cond (s.compare x op y) place scopes any w g h = (
      fit_expr x place scopes any w (and_parts _ _ g).0 (both_none _ _ (both_none _ _ h).0).0,
      fit_expr y place scopes any w (and_parts _ _ g).1 (both_none _ _ (both_none _ _ h).0).1,
    )
    fit_cond (s.quantified x op each body) place scopes any w g h = (
      fit_expr x place scopes any w (and_parts _ _ g).0 (both_none _ _ (both_none _ _ h).0).0,
      moved body scopes any w (fit_query body scopes (and_parts _ _ g).1 (both_none _ _ (both_none _ _ h).0).1),
    )
    fit_cond (s.between x negative y z) place scopes any w g h =
        not_fits sources has negative (q.between (resolved.value columns any x) (resolved.value columns any y) (resolved.value columns any z)) (
          fit_expr x place scopes any w (and_parts _ _ g).0 (both_none _ _ (both_none _ _ h).0).0,
          fit_expr y place scopes any w (and_parts _ _ (and_parts _ _ g).1).0 (both_none _ _ (both_none _ _ (both_none _ _ h).0).1).0,
          fit_expr z place scopes any w (and_parts _ _ (and_parts _ _ g).1).1 (both_none _ _ (both_none _ _ (both_none _ _ h).0).1).1,
        )
    fit_cond (s.in_query x negative body) place scopes any w g h =
        not_fits sources has negative (q.among_rows (resolved.value columns any x) (resolved.query columns any body)) (
          fit_expr x place scopes any w (and_parts _ _ g).0 (both_none _ _ (both_none _ _ h).0).0,
          moved body scopes any w (fit_query body scopes (and_parts _ _ g).1 (both_none _ _ (both_none _ _ h).0).1),
        )
    fit_cond (s.in_list x negative xs) place scopes any w g h =
        not_fits sources has negative (q.among (resolved.value columns any x) (resolved.values columns any xs)) (
          fit_expr x place scopes any w (and_parts _ _ g).0 (both_none _ _ (both_none _ _ h).0).0,
          fit_exprs xs place scopes any w (and_parts _ _ (and_parts _ _ g).1).1 (both_none _ _ (both_none _ _ h).0).1,
        )
    fit_cond (s.like x negative y) place scopes any w g h =
        not_fits sources has negative (q.like (resolved.value columns any x) (resolved.value columns any y)) (
          fit_expr x place scopes any w (and_parts _ _ g).0 (both_none _ _ (both_none _ _ h).0).0,
          fit_expr y place scopes any w (and_parts _ _ g).1 (both_none _ _ (both_none _ _ h).0).1,
        )
    fit_cond (s.is_null x negative) place scopes any w g h = not_fits sources has negative (q.is_null (resolved.value columns any x)) (fit_expr x place scopes any w g h)
    fit_cond (s.exists body) place scopes any w g h = moved body scopes any w (fit_query body scopes g (both_none _ _ h).0)

    fit_filter : (by : s.Filter) (place : Site) (scopes : Scopes) (any : List Shape) → any ≡ shapes scopes → is_filter by ≡ true → filter_fault heads place by scopes ≡ 0 → FitTest sources has (resolved.filter columns any by)
    fit_filter s.no_filter place scopes any w g h = tt
    fit_filter (s.only_where p) place scopes any w g h = fit_cond p place scopes any w g h

    -- ---- lists

    fit_item : (x : s.Item) (scopes : Scopes) (any : List Shape) → any ≡ shapes scopes → is_item x ≡ true → item_fault heads x scopes ≡ 0 → FitValues sources has (resolved.item columns any x)
    fit_item (s.item x n) scopes any w g h = (fit_expr x _ scopes any w g h, tt)
    fit_item (s.all_of name) scopes any w g h = span_fits sources has (span_of name any)

    fit_items : (xs : s.Items) (scopes : Scopes) (any : List Shape) → any ≡ shapes scopes → are_items xs ≡ true → items_fault heads xs scopes ≡ 0 → FitValues sources has (resolved.items columns any xs)
    fit_items s.no_item scopes any w g h = tt
    fit_items (s.one_item x xs) scopes any w g h =
        append_fits sources has (resolved.item columns any x) (resolved.items columns any xs) (fit_item x scopes any w (and_parts _ _ g).0 (both_none _ _ h).0) (fit_items xs scopes any w (and_parts _ _ g).1 (both_none _ _ h).1)

    fit_list : (list : s.SelectList) (scopes : Scopes) (any : List Shape) → any ≡ shapes scopes → is_list list ≡ true → select_fault heads list scopes ≡ 0 → FitValues sources has (resolved.list columns any list)
    fit_list s.star scopes any w g h = columns_fit sources has 0 0 (places.width (innermost any))
    fit_list (s.items xs) scopes any w g h = fit_items xs scopes any w (and_parts _ _ g).1 h

    -- ---- FROM

    fit_tables : (xs : s.TableRefs) (scopes : Scopes) → are_tables xs ≡ true → from_fault heads xs scopes ≡ 0 → FitFroms sources has (resolved.froms columns (shapes scopes) xs)
    fit_tables s.no_table scopes g h = tt
    fit_tables (s.one_table x xs) scopes g h = (fit_table x scopes (and_parts _ _ g).0 (both_none _ _ h).0, fit_tables xs scopes (and_parts _ _ g).1 (both_none _ _ h).1)

    fit_table : (x : s.TableRef) (scopes : Scopes) → is_table x ≡ true → table_fault heads x scopes ≡ 0 → FitFrom sources has (resolved.table columns (shapes scopes) x)
    fit_table (s.join x inner y p) scopes g h = (
      fit_table x scopes (and_parts _ _ g).0 (both_none _ _ (both_none _ _ h).0).0,
      fit_table y scopes (and_parts _ _ (and_parts _ _ (and_parts _ _ g).1).0).1 (both_none _ _ (both_none _ _ h).0).1,
      fit_cond p _ (plain (table_ranges heads x scopes ++ table_ranges heads y scopes) ∷ scopes) _ (ap (λ (rs : Shape). rs ∷ shapes scopes) (both_same heads (bare columns) same x y scopes)) (and_parts _ _ (and_parts _ _ g).1).1 (both_none _ _ h).1,
    )
    -- an ON that holds no subquery by the grammar, and no aggregate by its place
    fit_table (s.left_join x outer y p) scopes g h = (
      fit_table x scopes (and_parts _ _ g).0 (both_none _ _ (both_none _ _ h).0).0,
      fit_table y scopes (and_parts _ _ (and_parts _ _ (and_parts _ _ g).1).0).1 (both_none _ _ (both_none _ _ h).0).1,
      table_width columns sources counted y (shapes scopes),
      (λ fr. plain_on heads columns fr _ (plain (table_ranges heads x scopes ++ table_ranges heads y scopes) ∷ scopes)
          ((table_shape (bare columns) x (shapes scopes) ++ table_shape (bare columns) y (shapes scopes)) ∷ shapes scopes) p (both_none _ _ h).1 refl (last_so (is_tprim y && is_table y) (is_cond p) (cond_without_sub p) (and_parts _ _ g).1)),
    )
    fit_table (s.cross_join x y) scopes g h = (fit_table x scopes (and_parts _ _ g).0 (both_none _ _ h).0, fit_table y scopes (and_parts _ _ (and_parts _ _ g).1).1 (both_none _ _ h).1)
    fit_table (s.named name c) scopes g h = knows name (is_so (is_some (heads name)) 5 (both_none (table_unknown (heads name)) (list_fault (column_list c) (columns_or_none (heads name))) h).0)
    fit_table (s.derived body c) scopes g h = fit_query body scopes g (both_none _ _ h).0
    fit_table (s.joined x) scopes g h = fit_table x scopes (and_parts _ _ g).1 h

    -- ---- queries

    pub fit_query : (body : s.Query) (scopes : Scopes) → is_query body ≡ true → query_fault heads body scopes ≡ 0 → Buildable sources has (resolved.query columns (shapes scopes) body)
    fit_query (s.block each list from by group having) scopes g h =
        block_fits sources has (is_grouped list group having) (is_distinct each) (resolved.list columns (shape (bare columns) from (shapes scopes) ∷ shapes scopes) list) (resolved.froms columns (shapes scopes) from)
        (resolved.filter columns (shape (bare columns) from (shapes scopes) ∷ shapes scopes) by) (grouping_places group (shape (bare columns) from (shapes scopes))) (places.width (shape (bare columns) from (shapes scopes)))
        (resolved.filter columns (shape (bare columns) from (shapes scopes) ∷ shapes scopes) having)
        (fit_tables from scopes (and_parts _ _ (and_parts _ _ (and_parts _ _ g).1).0).1 (both_none _ _ (both_none _ _ h).0).0)
        (fit_list list (list_scope list group having (ranges heads from scopes) ∷ scopes) _ (scope_same heads (bare columns) same list group having from scopes) (and_parts _ _ g).0
        (both_none _ _ (both_none _ _ (both_none _ _ (both_none _ _ h).1).1).0).0)
        (fit_filter by _ (plain (ranges heads from scopes) ∷ scopes) _ (ap (λ (rs : Shape). rs ∷ shapes scopes) (ranges_same heads (bare columns) same from scopes)) (and_parts _ _ (and_parts _ _ (and_parts _ _ g).1).1).0
        (both_none _ _ (both_none _ _ (both_none _ _ h).1).0).0)
        (fit_filter having _ (list_scope list group having (ranges heads from scopes) ∷ scopes) _ (scope_same heads (bare columns) same list group having from scopes) (last_so (some_table from && are_tables from) (is_filter by) (is_filter having) (and_parts _ _ g).1)
        (both_none (select_fault heads list (list_scope list group having (ranges heads from scopes) ∷ scopes)) (filter_fault heads _ having (list_scope list group having (ranges heads from scopes) ∷ scopes))
        (both_none _ (too_wide (list_columns heads list (list_scope list group having (ranges heads from scopes) ∷ scopes))) (both_none _ _ (both_none _ _ h).1).1).0).1)
        (has_key group (ranges heads from scopes) scopes (shape (bare columns) from (shapes scopes)) (ranges_same heads (bare columns) same from scopes)
        (both_none (filter_fault heads _ by (plain (ranges heads from scopes) ∷ scopes)) (grouping_fault group (plain (ranges heads from scopes) ∷ scopes)) (both_none _ _ (both_none _ _ h).1).0).1)
        (tables_width columns sources counted from (shapes scopes))
    fit_query (s.enclosed x) scopes g h = fit_query x scopes g h
    fit_query (s.combine x op all y) scopes g h = (
      fit_query x scopes (and_parts _ _ g).0 (both_none _ _ (both_none _ _ h).0).0,
      fit_query y scopes (and_parts _ _ (and_parts _ _ g).1).1 (both_none _ _ (both_none _ _ h).0).1,
      query_width columns x (shapes scopes),
      query_width columns y (shapes scopes) ∙ sym (even_query heads (bare columns) same (s.combine x op all y) scopes h).2,
    )
    fit_query (s.intersect x all y) scopes g h = (
      fit_query x scopes (and_parts _ _ (and_parts _ _ g).0).1 (both_none _ _ (both_none _ _ h).0).0,
      fit_query y scopes (and_parts _ _ (and_parts _ _ g).1).1 (both_none _ _ (both_none _ _ h).0).1,
      query_width columns x (shapes scopes),
      query_width columns y (shapes scopes) ∙ sym (even_query heads (bare columns) same (s.intersect x all y) scopes h).2,
    )
