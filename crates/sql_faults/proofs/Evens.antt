-- A query without faults is even.
use Rattle.std.proofs.Common.{◌≡◌, ◌∙◌, ℕ, Bool, not, List, [], ◌∷◌, ◌++◌, length, Option, sym, ap, subst, nat_eq, inl, inr, arith}
use Rattle.std.specs.Prelude.{⊤}
use Rattle.std.proofs.lemmas.Bool.{cases_Bool, eqb-true}
use Rattle.std.proofs.lemmas.List.{length-map}
use Rattle.sql_ast.specs.Syntax as s
use Rattle.sql_meaning.specs.Even.{EvenArms, EvenChoices, EvenCond, EvenExpr, EvenExprs, EvenFilter, EvenItem, EvenItems, EvenList, EvenOtherwise, EvenQuery, EvenRes, EvenTable, EvenTables, innermost}
use Rattle.sql_meaning.specs.Names.{Known, names}
use Rattle.sql_meaning.specs.Scopes.{Shape}
use Rattle.sql_value.specs.declared.order_key.SqlType.{SqlType}
use Rattle.sql_faults.proofs.Named.{both_same, names_same, ranges_same, scope_same}
use Rattle.sql_faults.proofs.Orders.{both_none}
use Rattle.sql_faults.specs.Columns.{columns, list_columns, list_scope, ranges, table_ranges, type_of}
use Rattle.sql_faults.specs.Faults.{arms_fault, choices_fault, compared_fault, cond_fault, else_fault, expr_fault, exprs_fault, filter_fault, from_fault, item_fault, items_fault, query_fault, res_fault, scalar_fault, select_fault, table_fault}
use Rattle.sql_faults.specs.Laws.{SameColumns, shapes}
use Rattle.sql_faults.specs.Rules.{fault_if, not_one, operands_unequal, pair_differs, sub_misplaced, too_wide}
use Rattle.sql_faults.specs.Scopes.{Heads, Scopes, first_type, plain, released}
use Rattle.sql_faults.specs.declared.column.TypedColumn.{TypedColumn}
use Rattle.sql_faults.specs.declared.site.Site.{Site}
use Rattle.sql_faults.specs.declared.site.Site.TheVariants.{Argument, Filtered, Listed}

equal_numbers : (a b : ℕ) → fault_if (not (nat_eq a b)) 11 ≡ 0 → a ≡ b
equal_numbers a b h = elim (cases_Bool (nat_eq a b)) [
  | inl e ↦ eqb-true a b e
  | inr e ↦ (let k : 11 ≡ 0 = subst (λ (t : Bool). fault_if (not t) 11 ≡ 0) e h in absurd (omega (arith, k)))
]

-- the shapes round a place; within an aggregate's argument, which holds no subquery, they don't matter
abbrev Within : Site → Scopes → List Shape → Type 0
Within Listed scopes any = any ≡ shapes scopes
Within Filtered scopes any = any ≡ shapes scopes
Within Argument scopes any = ⊤

compared_place : (place : Site) (t : Option SqlType) (cs : List TypedColumn) → compared_fault place t cs ≡ 0 → sub_misplaced place ≡ 0
compared_place place t cs h = (both_none (not_one cs) (sub_misplaced place) (both_none (pair_differs t (first_type cs)) (scalar_fault place cs) h).1).1

module _ (heads : Heads) (known : Known) (same : SameColumns heads known) where
  moved : (q : s.Query) (place : Site) (scopes : Scopes) (any : List Shape) → Within place scopes any → sub_misplaced place ≡ 0 → EvenQuery known (shapes scopes) q → EvenQuery known any q
  moved q Listed scopes any w m h = subst (λ (z : List Shape). EvenQuery known z q) (sym w) h
  moved q Filtered scopes any w m h = subst (λ (z : List Shape). EvenQuery known z q) (sym w) h
  moved q Argument scopes any w m h = absurd (omega (arith, m))

  equal_names : (x y : s.Query) (scopes : Scopes) → operands_unequal (columns heads x scopes) (columns heads y scopes) ≡ 0 → length (names known x (shapes scopes)) ≡ length (names known y (shapes scopes))
  equal_names x y scopes h =
      ap length (names_same heads known same x scopes) ∙ length-map (columns heads x scopes) (λ (c : TypedColumn). c.name)
      ∙ equal_numbers (length (columns heads x scopes)) (length (columns heads y scopes)) h
      ∙ sym (ap length (names_same heads known same y scopes) ∙ length-map (columns heads y scopes) (λ (c : TypedColumn). c.name))

  mutual
    even_expr : (x : s.Expr) (place : Site) (scopes : Scopes) (any : List Shape) → Within place scopes any → expr_fault heads place x scopes ≡ 0 → EvenExpr known any x
    even_expr (s.add x op y) place scopes any w h = (even_expr x place scopes any w (both_none _ _ (both_none _ _ h).0).0, even_expr y place scopes any w (both_none _ _ (both_none _ _ h).0).1)
    even_expr (s.multiply x op y) place scopes any w h = (even_expr x place scopes any w (both_none _ _ (both_none _ _ h).0).0, even_expr y place scopes any w (both_none _ _ (both_none _ _ h).0).1)
    even_expr (s.signed p x) place scopes any w h = even_expr x place scopes any w (both_none _ _ h).0
    even_expr (s.number n) place scopes any w h = tt
    even_expr (s.string x) place scopes any w h = tt
    even_expr (s.col c) place scopes any w h = tt
    even_expr (s.paren x) place scopes any w h = even_expr x place scopes any w h
    even_expr (s.scalar q) place scopes any w h = moved q place scopes any w (both_none _ _ (both_none _ _ h).1).1 (even_query q scopes (both_none _ _ h).0)
    even_expr s.count_all place scopes any w h = tt
    even_expr (s.aggregate f each x) place scopes any w h = even_expr x Argument (released scopes) (innermost any ∷ []) tt (both_none _ _ h).0
    even_expr (s.searched xs o) place scopes any w h = (even_arms xs place scopes any w (both_none _ _ (both_none _ _ h).0).0, even_otherwise o place scopes any w (both_none _ _ (both_none _ _ h).0).1)
    even_expr (s.simple x xs o) place scopes any w h = (
      even_expr x place scopes any w (both_none _ _ (both_none _ _ (both_none _ _ h).0).0).0,
      even_choices xs place _ scopes any w (both_none _ _ (both_none _ _ (both_none _ _ h).0).0).1,
      even_otherwise o place scopes any w (both_none _ _ (both_none _ _ h).0).1,
    )
    even_expr (s.coalesce x xs) place scopes any w h = (even_expr x place scopes any w (both_none _ _ (both_none _ _ h).0).0, even_exprs xs place scopes any w (both_none _ _ (both_none _ _ h).0).1)
    even_expr (s.null_if x y) place scopes any w h = (even_expr x place scopes any w (both_none _ _ (both_none _ _ h).0).0, even_expr y place scopes any w (both_none _ _ (both_none _ _ h).0).1)
    even_expr (s.cast_null d) place scopes any w h = tt

    even_exprs : (xs : s.Exprs) (place : Site) (scopes : Scopes) (any : List Shape) → Within place scopes any → exprs_fault heads place xs scopes ≡ 0 → EvenExprs known any xs
    even_exprs s.no_expr place scopes any w h = tt
    even_exprs (s.one_expr x xs) place scopes any w h = (even_expr x place scopes any w (both_none _ _ h).0, even_exprs xs place scopes any w (both_none _ _ h).1)

    even_res : (r : s.Res) (place : Site) (scopes : Scopes) (any : List Shape) → Within place scopes any → res_fault heads place r scopes ≡ 0 → EvenRes known any r
    even_res (s.given x) place scopes any w h = even_expr x place scopes any w h
    even_res s.null place scopes any w h = tt

    even_arms : (xs : s.Arms) (place : Site) (scopes : Scopes) (any : List Shape) → Within place scopes any → arms_fault heads place xs scopes ≡ 0 → EvenArms known any xs
    even_arms s.no_arm place scopes any w h = tt
    even_arms (s.one_arm p r xs) place scopes any w h = (
      even_cond p place scopes any w (both_none _ _ (both_none _ _ h).0).0,
      even_res r place scopes any w (both_none _ _ (both_none _ _ h).0).1,
      even_arms xs place scopes any w (both_none _ _ h).1,
    )

    even_choices : (xs : s.Choices) (place : Site) (t : Option SqlType) (scopes : Scopes) (any : List Shape) → Within place scopes any → choices_fault heads place t xs scopes ≡ 0 → EvenChoices known any xs
    even_choices s.no_choice place t scopes any w h = tt
    even_choices (s.one_choice x r xs) place t scopes any w h = (
      even_expr x place scopes any w (both_none _ _ (both_none _ _ (both_none _ _ h).0).0).0,
      even_res r place scopes any w (both_none _ _ (both_none _ _ h).0).1,
      even_choices xs place t scopes any w (both_none _ _ h).1,
    )

    even_otherwise : (o : s.Otherwise) (place : Site) (scopes : Scopes) (any : List Shape) → Within place scopes any → else_fault heads place o scopes ≡ 0 → EvenOtherwise known any o
    even_otherwise s.no_else place scopes any w h = tt
    even_otherwise (s.or_else r) place scopes any w h = even_res r place scopes any w h

    even_cond : (p : s.Cond) (place : Site) (scopes : Scopes) (any : List Shape) → Within place scopes any → cond_fault heads place p scopes ≡ 0 → EvenCond known any p
    even_cond (s.either p q) place scopes any w h = (even_cond p place scopes any w (both_none _ _ h).0, even_cond q place scopes any w (both_none _ _ h).1)
    even_cond (s.both p q) place scopes any w h = (even_cond p place scopes any w (both_none _ _ h).0, even_cond q place scopes any w (both_none _ _ h).1)
    even_cond (s.negated p) place scopes any w h = even_cond p place scopes any w h
    even_cond (s.bracket p) place scopes any w h = even_cond p place scopes any w h
    even_cond (s.compare x op y) place scopes any w h = (even_expr x place scopes any w (both_none _ _ (both_none _ _ h).0).0, even_expr y place scopes any w (both_none _ _ (both_none _ _ h).0).1)
    even_cond (s.quantified x op each q) place scopes any w h = (
      even_expr x place scopes any w (both_none _ _ (both_none _ _ h).0).0,
      moved q place scopes any w (compared_place place (type_of heads x scopes) (columns heads q scopes) (both_none _ _ h).1) (even_query q scopes (both_none _ _ (both_none _ _ h).0).1),
    )
    even_cond (s.between x negative y z) place scopes any w h = (
      even_expr x place scopes any w (both_none _ _ (both_none _ _ h).0).0,
      even_expr y place scopes any w (both_none _ _ (both_none _ _ (both_none _ _ h).0).1).0,
      even_expr z place scopes any w (both_none _ _ (both_none _ _ (both_none _ _ h).0).1).1,
    )
    even_cond (s.in_query x negative q) place scopes any w h = (
      even_expr x place scopes any w (both_none _ _ (both_none _ _ h).0).0,
      moved q place scopes any w (compared_place place (type_of heads x scopes) (columns heads q scopes) (both_none _ _ h).1) (even_query q scopes (both_none _ _ (both_none _ _ h).0).1),
    )
    even_cond (s.in_list x negative xs) place scopes any w h = (even_expr x place scopes any w (both_none _ _ (both_none _ _ h).0).0, even_exprs xs place scopes any w (both_none _ _ (both_none _ _ h).0).1)
    even_cond (s.like x negative y) place scopes any w h = (even_expr x place scopes any w (both_none _ _ (both_none _ _ h).0).0, even_expr y place scopes any w (both_none _ _ (both_none _ _ h).0).1)
    even_cond (s.is_null x negative) place scopes any w h = even_expr x place scopes any w h
    even_cond (s.exists q) place scopes any w h = moved q place scopes any w (both_none _ _ h).1 (even_query q scopes (both_none _ _ h).0)

    even_filter : (by : s.Filter) (place : Site) (scopes : Scopes) (any : List Shape) → Within place scopes any → filter_fault heads place by scopes ≡ 0 → EvenFilter known any by
    even_filter s.no_filter place scopes any w h = tt
    even_filter (s.only_where p) place scopes any w h = even_cond p place scopes any w h

    even_item : (x : s.Item) (scopes : Scopes) (any : List Shape) → any ≡ shapes scopes → item_fault heads x scopes ≡ 0 → EvenItem known any x
    even_item (s.item x n) scopes any w h = even_expr x Listed scopes any w h
    even_item (s.all_of name) scopes any w h = tt

    even_items : (xs : s.Items) (scopes : Scopes) (any : List Shape) → any ≡ shapes scopes → items_fault heads xs scopes ≡ 0 → EvenItems known any xs
    even_items s.no_item scopes any w h = tt
    even_items (s.one_item x xs) scopes any w h = (even_item x scopes any w (both_none _ _ h).0, even_items xs scopes any w (both_none _ _ h).1)

    even_list : (list : s.SelectList) (scopes : Scopes) (any : List Shape) → any ≡ shapes scopes → select_fault heads list scopes ≡ 0 → EvenList known any list
    even_list s.star scopes any w h = tt
    even_list (s.items xs) scopes any w h = even_items xs scopes any w h

    even_tables : (xs : s.TableRefs) (scopes : Scopes) → from_fault heads xs scopes ≡ 0 → EvenTables known (shapes scopes) xs
    even_tables s.no_table scopes h = tt
    even_tables (s.one_table x xs) scopes h = (even_table x scopes (both_none _ _ h).0, even_tables xs scopes (both_none _ _ h).1)

    even_table : (x : s.TableRef) (scopes : Scopes) → table_fault heads x scopes ≡ 0 → EvenTable known (shapes scopes) x
    even_table (s.join x inner y p) scopes h = (
      even_table x scopes (both_none _ _ (both_none _ _ h).0).0,
      even_table y scopes (both_none _ _ (both_none _ _ h).0).1,
      even_cond p Filtered (plain (table_ranges heads x scopes ++ table_ranges heads y scopes) ∷ scopes) _ (ap (λ (rs : Shape). rs ∷ shapes scopes) (both_same heads known same x y scopes)) (both_none _ _ h).1,
    )
    even_table (s.left_join x outer y p) scopes h = (
      even_table x scopes (both_none _ _ (both_none _ _ h).0).0,
      even_table y scopes (both_none _ _ (both_none _ _ h).0).1,
      even_cond p Filtered (plain (table_ranges heads x scopes ++ table_ranges heads y scopes) ∷ scopes) _ (ap (λ (rs : Shape). rs ∷ shapes scopes) (both_same heads known same x y scopes)) (both_none _ _ h).1,
    )
    even_table (s.cross_join x y) scopes h = (even_table x scopes (both_none _ _ h).0, even_table y scopes (both_none _ _ h).1)
    even_table (s.named name c) scopes h = tt
    even_table (s.derived q c) scopes h = even_query q scopes (both_none _ _ h).0
    even_table (s.joined x) scopes h = even_table x scopes h

    pub even_query : (q : s.Query) (scopes : Scopes) → query_fault heads q scopes ≡ 0 → EvenQuery known (shapes scopes) q
    even_query (s.block each list from by group having) scopes h = (
      even_tables from scopes (both_none _ _ (both_none _ _ h).0).0,
      even_list list (list_scope list group having (ranges heads from scopes) ∷ scopes) _ (scope_same heads known same list group having from scopes) (both_none _ _ (both_none _ _ (both_none _ _ (both_none _ _ h).1).1).0).0,
      even_filter by Filtered (plain (ranges heads from scopes) ∷ scopes) _ (ap (λ (rs : Shape). rs ∷ shapes scopes) (ranges_same heads known same from scopes)) (both_none _ _ (both_none _ _ (both_none _ _ h).1).0).0,
      even_filter having Listed (list_scope list group having (ranges heads from scopes) ∷ scopes) _ (scope_same heads known same list group having from scopes)
          (both_none (select_fault heads list (list_scope list group having (ranges heads from scopes) ∷ scopes)) (filter_fault heads Listed having (list_scope list group having (ranges heads from scopes) ∷ scopes)) (both_none _ (too_wide (list_columns heads list (list_scope list group having (ranges heads from scopes) ∷ scopes))) (both_none _ _ (both_none _ _ h).1).1).0).1,
    )
    even_query (s.enclosed x) scopes h = even_query x scopes h
    even_query (s.combine x op all y) scopes h = (
      even_query x scopes (both_none _ _ (both_none _ _ h).0).0,
      even_query y scopes (both_none _ _ (both_none _ _ h).0).1,
      equal_names x y scopes (both_none _ _ (both_none _ _ h).1).1,
    )
    even_query (s.intersect x all y) scopes h = (
      even_query x scopes (both_none _ _ (both_none _ _ h).0).0,
      even_query y scopes (both_none _ _ (both_none _ _ h).0).1,
      equal_names x y scopes (both_none _ _ (both_none _ _ h).1).1,
    )
