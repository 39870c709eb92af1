-- The columns of a query without faults have known types.
use Rattle.std.proofs.Common.{◌≡◌, ℕ, Bool, true, false, cond, List, [], ◌∷◌, ◌++◌, Option, Some, None, refl, inl, inr}
use Rattle.std.specs.Prelude.{All}
use Rattle.std.proofs.lemmas.Bool.{cases_Bool}
use Rattle.sql_ast.specs.declared.name.Column.{Column}
use Rattle.sql_ast.specs.declared.word.SetFunction.{SetFunction}
use Rattle.sql_ast.specs.declared.word.SetFunction.TheVariants as function
use Rattle.sql_ast.specs.Syntax as s
use Rattle.sql_ast.specs.Names.{same_name}
use Rattle.sql_catalog.specs.TableNames as t
use Rattle.sql_meaning.specs.Grouping.{is_grouped}
use Rattle.sql_meaning.specs.Names.{column_list}
use Rattle.sql_value.specs.declared.order_key.SqlType.{SqlType}
use Rattle.sql_catalog.proofs.EachLaws.{Each, all_of_each, each_all, each_append, each_left, each_more, each_of_all, each_right}
use Rattle.sql_faults.proofs.Orders.{both_none}
use Rattle.sql_faults.specs.Columns.{all_columns, arm_types, choice_types, columns, columns_or_none, else_types, first_known, item_columns, items_columns, list_columns, list_scope, listed, range_columns, ranges, renamed, res_types, table_ranges, type_of, type_of_aggregate}
use Rattle.sql_faults.specs.Faults.{arms_fault, choices_fault, else_fault, expr_fault, from_fault, item_fault, items_fault, query_fault, res_fault, select_fault, table_fault}
use Rattle.sql_faults.specs.Laws.{AreTyped, AreTypedHeads, AreTypedScopes}
use Rattle.sql_faults.specs.Rules.{not_one, one_of, results_differ}
use Rattle.sql_faults.specs.Scopes.{Heads, Scope, Scopes, columns_by, columns_named, first_type, grouped, has_name, in_range, is_meant, is_some, meant, named_in, plain, range_in, range_of, released}
use Rattle.sql_faults.specs.declared.column.TypedColumn.{TypedColumn}
use Rattle.sql_faults.specs.declared.column.TypedRange.{TypedRange}
use Rattle.sql_faults.specs.declared.site.Site.{Site}
use Rattle.sql_faults.specs.declared.site.Site.TheVariants.{Argument, Listed}

abbrev IsKnown : Option SqlType → Type 0
IsKnown t = is_some t ≡ true

abbrev pub IsTyped : TypedColumn → Type 0
IsTyped c = is_some c.sort ≡ true

abbrev IsTypedRange : TypedRange → Type 0
IsTypedRange r = Each IsTyped r.columns

abbrev IsTypedScope : Scope → Type 0
IsTypedScope scope = Each IsTypedRange scope.ranges

-- ---- columns of ranges

typed_listed : (list : List (List ℕ)) (cs : List TypedColumn) → Each IsTyped cs → Each IsTyped (listed list cs)
typed_listed [] [] h = tt
typed_listed (name ∷ list) [] h = tt
typed_listed [] (c ∷ cs) h = (h.0, typed_listed [] cs h.1)
typed_listed (name ∷ list) (c ∷ cs) h = (h.0, typed_listed list cs h.1)

pub typed_renamed : (list : List (List ℕ)) (cs : List TypedColumn) → Each IsTyped cs → Each IsTyped (renamed list cs)
typed_renamed [] cs h = h
typed_renamed (name ∷ list) cs h = typed_listed (name ∷ list) cs h

typed_all : (rs : List TypedRange) → Each IsTypedRange rs → Each IsTyped (all_columns rs)
typed_all [] h = tt
typed_all (r ∷ rs) h = each_append IsTyped r.columns (all_columns rs) h.0 (typed_all rs h.1)

typed_named : (name : List ℕ) (cs : List TypedColumn) → Each IsTyped cs → Each IsTyped (columns_named name cs)
typed_named name [] h = tt
typed_named name (c ∷ cs) h =
    elim (has_name name c) as (λ b. Each IsTyped (cond b (c ∷ columns_named name cs) (columns_named name cs))) [
      | true ↦ (h.0, typed_named name cs h.1)
      | false ↦ typed_named name cs h.1
    ]

typed_any : (name : List ℕ) (rs : List TypedRange) → Each IsTypedRange rs → Each IsTyped (named_in name rs)
typed_any name [] h = tt
typed_any name (r ∷ rs) h = each_append IsTyped (columns_named name r.columns) (named_in name rs) (typed_named name r.columns h.0) (typed_any name rs h.1)

typed_range : (name : List ℕ) (rs : List TypedRange) → Each IsTypedRange rs → Each IsTyped (range_columns (range_in name rs))
typed_range name [] h = tt
typed_range name (r ∷ rs) h =
    elim (same_name r.name name) as (λ b. Each IsTyped (range_columns (cond b (Some r) (range_in name rs)))) [
      | true ↦ h.0
      | false ↦ typed_range name rs h.1
    ]

typed_in : (name : List ℕ) (found : Option TypedRange) → Each IsTyped (range_columns found) → Each IsTyped (in_range name found)
typed_in name None h = tt
typed_in name (Some r) h = typed_named name r.columns h

typed_by : (range : Option (List ℕ)) (name : List ℕ) (rs : List TypedRange) → Each IsTypedRange rs → Each IsTyped (columns_by range name rs)
typed_by None name rs h = typed_any name rs h
typed_by (Some r) name rs h = typed_in name (range_in r rs) (typed_range r rs h)

typed_meant : (c : Column) (scopes : Scopes) → Each IsTypedScope scopes → Each IsTyped (meant c scopes)
typed_meant c [] h = tt
typed_meant c (scope ∷ scopes) h = elim (cases_Bool (is_meant c scope.ranges)) [
  | inl e ↦ rw (e) (typed_by c.range c.name scope.ranges h.0)
  | inr e ↦ rw (e) (typed_meant c scopes h.1)
]

typed_star : (name : List ℕ) (scopes : Scopes) → Each IsTypedScope scopes → Each IsTyped (range_columns (range_of name scopes))
typed_star name [] h = tt
typed_star name (scope ∷ scopes) h = elim (cases_Bool (is_some (range_in name scope.ranges))) [
  | inl e ↦ rw (e) (typed_range name scope.ranges h.0)
  | inr e ↦ rw (e) (typed_star name scopes h.1)
]

typed_released : (scopes : Scopes) → Each IsTypedScope scopes → Each IsTypedScope (released scopes)
typed_released [] h = tt
typed_released (scope ∷ scopes) h = (h.0, typed_released scopes h.1)

-- the scope of a list
typed_scope : (list : s.SelectList) (by : List Column) (having : s.Filter) (rs : List TypedRange) → Each IsTypedRange rs → IsTypedScope (list_scope list by having rs)
typed_scope list by having rs h = at (is_grouped list by having)
  where
    at : (b : Bool) → IsTypedScope (cond b (grouped rs by) (plain rs))
    at true = h
    at false = h

-- ---- one type

one_typed : (cs : List TypedColumn) → Each IsTyped cs → one_of cs ≡ 0 → IsKnown (first_type cs)
one_typed [] h e = absurd (cc)
one_typed (c ∷ cs) h e = h.0

single_typed : (cs : List TypedColumn) → Each IsTyped cs → not_one cs ≡ 0 → IsKnown (first_type cs)
single_typed [] h e = absurd (cc)
single_typed (c ∷ cs) h e = h.0

aggregate_typed : (f : SetFunction) (argument : Option SqlType) → IsKnown argument → IsKnown (type_of_aggregate f argument)
aggregate_typed function.Count argument h = refl
aggregate_typed function.Sum argument h = refl
aggregate_typed function.Avg argument h = refl
aggregate_typed function.Min argument h = h
aggregate_typed function.Max argument h = h

first_typed : (t : Option SqlType) (ts : List (Option SqlType)) → IsKnown t → IsKnown (first_known (t ∷ ts))
first_typed None ts h = absurd (cc)
first_typed (Some t) ts h = refl

results_typed : (ts : List (Option SqlType)) → Each IsKnown ts → results_differ ts ≡ 0 → IsKnown (first_known ts)
results_typed [] h e = absurd (cc)
results_typed (t ∷ ts) h e = first_typed t ts h.0

-- ---- queries

module _ (heads : Heads) where
  -- the columns of a table or view have known types
  abbrev pub IsTypedHead : List ℕ → Type 0
  IsTypedHead name = Each IsTyped (columns_or_none (heads name))

  mutual
    typed_expr : (x : s.Expr) (place : Site) (scopes : Scopes) → Each IsTypedScope scopes → Each IsTypedHead (t.in_expr x) → expr_fault heads place x scopes ≡ 0 → IsKnown (type_of heads x scopes)
    typed_expr (s.add x op y) place scopes ts e h = refl
    typed_expr (s.multiply x op y) place scopes ts e h = refl
    typed_expr (s.signed p x) place scopes ts e h = refl
    typed_expr (s.number n) place scopes ts e h = refl
    typed_expr (s.string x) place scopes ts e h = refl
    typed_expr (s.col c) place scopes ts e h = one_typed (meant c scopes) (typed_meant c scopes ts) (both_none _ _ h).0
    typed_expr (s.paren x) place scopes ts e h = typed_expr x place scopes ts e h
    typed_expr (s.scalar q) place scopes ts e h = single_typed (columns heads q scopes) (typed_query q scopes ts e (both_none _ _ h).0) (both_none _ _ (both_none _ _ h).1).0
    typed_expr s.count_all place scopes ts e h = refl
    typed_expr (s.aggregate f each x) place scopes ts e h = aggregate_typed f (type_of heads x (released scopes)) (typed_expr x Argument (released scopes) (typed_released scopes ts) e (both_none _ _ h).0)
    typed_expr (s.searched xs o) place scopes ts e h =
        results_typed (arm_types heads xs scopes ++ else_types heads o scopes)
        (each_append IsKnown (arm_types heads xs scopes) (else_types heads o scopes)
        (typed_arms xs place scopes ts (each_left IsTypedHead (t.in_arms xs) (t.in_otherwise o) e) (both_none _ _ (both_none _ _ h).0).0)
        (typed_otherwise o place scopes ts (each_right IsTypedHead (t.in_arms xs) (t.in_otherwise o) e) (both_none _ _ (both_none _ _ h).0).1))
        (both_none _ _ h).1
    typed_expr (s.simple x xs o) place scopes ts e h =
        results_typed (choice_types heads xs scopes ++ else_types heads o scopes)
        (each_append IsKnown (choice_types heads xs scopes) (else_types heads o scopes)
        (typed_choices xs place _ scopes ts (each_left IsTypedHead (t.in_choices xs) (t.in_otherwise o) (each_right IsTypedHead (t.in_expr x) (t.in_choices xs ++ t.in_otherwise o) e)) (both_none _ _ (both_none _ _ (both_none _ _ h).0).0).1)
        (typed_otherwise o place scopes ts (each_right IsTypedHead (t.in_choices xs) (t.in_otherwise o) (each_right IsTypedHead (t.in_expr x) (t.in_choices xs ++ t.in_otherwise o) e)) (both_none _ _ (both_none _ _ h).0).1))
        (both_none _ _ h).1
    typed_expr (s.coalesce x xs) place scopes ts e h = first_typed (type_of heads x scopes) _ (typed_expr x place scopes ts (each_left IsTypedHead (t.in_expr x) (t.in_exprs xs) e) (both_none _ _ (both_none _ _ h).0).0)
    typed_expr (s.null_if x y) place scopes ts e h = first_typed (type_of heads x scopes) _ (typed_expr x place scopes ts (each_left IsTypedHead (t.in_expr x) (t.in_expr y) e) (both_none _ _ (both_none _ _ h).0).0)
    typed_expr (s.cast_null d) place scopes ts e h = refl

    typed_res : (r : s.Res) (place : Site) (scopes : Scopes) → Each IsTypedScope scopes → Each IsTypedHead (t.in_res r) → res_fault heads place r scopes ≡ 0 → Each IsKnown (res_types heads r scopes)
    typed_res (s.given x) place scopes ts e h = (typed_expr x place scopes ts e h, tt)
    typed_res s.null place scopes ts e h = tt

    typed_arms : (xs : s.Arms) (place : Site) (scopes : Scopes) → Each IsTypedScope scopes → Each IsTypedHead (t.in_arms xs) → arms_fault heads place xs scopes ≡ 0 → Each IsKnown (arm_types heads xs scopes)
    typed_arms s.no_arm place scopes ts e h = tt
    typed_arms (s.one_arm p r xs) place scopes ts e h =
        each_append IsKnown (res_types heads r scopes) (arm_types heads xs scopes)
        (typed_res r place scopes ts (each_left IsTypedHead (t.in_res r) (t.in_arms xs) (each_right IsTypedHead (t.in_cond p) (t.in_res r ++ t.in_arms xs) e)) (both_none _ _ (both_none _ _ h).0).1)
        (typed_arms xs place scopes ts (each_right IsTypedHead (t.in_res r) (t.in_arms xs) (each_right IsTypedHead (t.in_cond p) (t.in_res r ++ t.in_arms xs) e)) (both_none _ _ h).1)

    typed_choices : (xs : s.Choices) (place : Site) (operand : Option SqlType) (scopes : Scopes) → Each IsTypedScope scopes → Each IsTypedHead (t.in_choices xs) → choices_fault heads place operand xs scopes ≡ 0
        → Each IsKnown (choice_types heads xs scopes)
    typed_choices s.no_choice place operand scopes ts e h = tt
    typed_choices (s.one_choice x r xs) place operand scopes ts e h =
        each_append IsKnown (res_types heads r scopes) (choice_types heads xs scopes)
        (typed_res r place scopes ts (each_left IsTypedHead (t.in_res r) (t.in_choices xs) (each_right IsTypedHead (t.in_expr x) (t.in_res r ++ t.in_choices xs) e)) (both_none _ _ (both_none _ _ h).0).1)
        (typed_choices xs place operand scopes ts (each_right IsTypedHead (t.in_res r) (t.in_choices xs) (each_right IsTypedHead (t.in_expr x) (t.in_res r ++ t.in_choices xs) e)) (both_none _ _ h).1)

    typed_otherwise : (o : s.Otherwise) (place : Site) (scopes : Scopes) → Each IsTypedScope scopes → Each IsTypedHead (t.in_otherwise o) → else_fault heads place o scopes ≡ 0 → Each IsKnown (else_types heads o scopes)
    typed_otherwise s.no_else place scopes ts e h = tt
    typed_otherwise (s.or_else r) place scopes ts e h = typed_res r place scopes ts e h

    typed_item : (x : s.Item) (scopes : Scopes) → Each IsTypedScope scopes → Each IsTypedHead (t.in_item x) → item_fault heads x scopes ≡ 0 → Each IsTyped (item_columns heads x scopes)
    typed_item (s.item x n) scopes ts e h = (typed_expr x Listed scopes ts e h, tt)
    typed_item (s.all_of name) scopes ts e h = typed_star name scopes ts

    typed_items : (xs : s.Items) (scopes : Scopes) → Each IsTypedScope scopes → Each IsTypedHead (t.in_items xs) → items_fault heads xs scopes ≡ 0 → Each IsTyped (items_columns heads xs scopes)
    typed_items s.no_item scopes ts e h = tt
    typed_items (s.one_item x xs) scopes ts e h =
        each_append IsTyped (item_columns heads x scopes) (items_columns heads xs scopes)
        (typed_item x scopes ts (each_left IsTypedHead (t.in_item x) (t.in_items xs) e) (both_none _ _ h).0)
        (typed_items xs scopes ts (each_right IsTypedHead (t.in_item x) (t.in_items xs) e) (both_none _ _ h).1)

    typed_list : (list : s.SelectList) (scope : Scope) (scopes : Scopes) → IsTypedScope scope → Each IsTypedScope scopes → Each IsTypedHead (t.in_list list) → select_fault heads list (scope ∷ scopes) ≡ 0
        → Each IsTyped (list_columns heads list (scope ∷ scopes))
    typed_list s.star scope scopes own ts e h = typed_all scope.ranges own
    typed_list (s.items xs) scope scopes own ts e h = typed_items xs (scope ∷ scopes) (own, ts) e h

    typed_tables : (xs : s.TableRefs) (scopes : Scopes) → Each IsTypedScope scopes → Each IsTypedHead (t.in_tables xs) → from_fault heads xs scopes ≡ 0 → Each IsTypedRange (ranges heads xs scopes)
    typed_tables s.no_table scopes ts e h = tt
    typed_tables (s.one_table x xs) scopes ts e h =
        each_append IsTypedRange (table_ranges heads x scopes) (ranges heads xs scopes)
        (typed_table x scopes ts (each_left IsTypedHead (t.in_table x) (t.in_tables xs) e) (both_none _ _ h).0)
        (typed_tables xs scopes ts (each_right IsTypedHead (t.in_table x) (t.in_tables xs) e) (both_none _ _ h).1)

    typed_table : (x : s.TableRef) (scopes : Scopes) → Each IsTypedScope scopes → Each IsTypedHead (t.in_table x) → table_fault heads x scopes ≡ 0 → Each IsTypedRange (table_ranges heads x scopes)
    typed_table (s.join x inner y p) scopes ts e h =
        each_append IsTypedRange (table_ranges heads x scopes) (table_ranges heads y scopes)
        (typed_table x scopes ts (each_left IsTypedHead (t.in_table x) (t.in_table y ++ t.in_cond p) e) (both_none _ _ (both_none _ _ h).0).0)
        (typed_table y scopes ts (each_left IsTypedHead (t.in_table y) (t.in_cond p) (each_right IsTypedHead (t.in_table x) (t.in_table y ++ t.in_cond p) e)) (both_none _ _ (both_none _ _ h).0).1)
    typed_table (s.left_join x outer y p) scopes ts e h =
        each_append IsTypedRange (table_ranges heads x scopes) (table_ranges heads y scopes)
        (typed_table x scopes ts (each_left IsTypedHead (t.in_table x) (t.in_table y ++ t.in_cond p) e) (both_none _ _ (both_none _ _ h).0).0)
        (typed_table y scopes ts (each_left IsTypedHead (t.in_table y) (t.in_cond p) (each_right IsTypedHead (t.in_table x) (t.in_table y ++ t.in_cond p) e)) (both_none _ _ (both_none _ _ h).0).1)
    typed_table (s.cross_join x y) scopes ts e h =
        each_append IsTypedRange (table_ranges heads x scopes) (table_ranges heads y scopes)
        (typed_table x scopes ts (each_left IsTypedHead (t.in_table x) (t.in_table y) e) (both_none _ _ h).0)
        (typed_table y scopes ts (each_right IsTypedHead (t.in_table x) (t.in_table y) e) (both_none _ _ h).1)
    typed_table (s.named name c) scopes ts e h = (typed_renamed (column_list c) (columns_or_none (heads name)) e.0, tt)
    typed_table (s.derived q c) scopes ts e h = (typed_renamed c.columns (columns heads q scopes) (typed_query q scopes ts e (both_none _ _ h).0), tt)
    typed_table (s.joined x) scopes ts e h = typed_table x scopes ts e h

    pub typed_query : (q : s.Query) (scopes : Scopes) → Each IsTypedScope scopes → Each IsTypedHead (t.in_query q) → query_fault heads q scopes ≡ 0 → Each IsTyped (columns heads q scopes)
    typed_query (s.block each list from by group having) scopes ts e h =
        typed_list list (list_scope list group having (ranges heads from scopes)) scopes
        (typed_scope list group having (ranges heads from scopes) (typed_tables from scopes ts (each_left IsTypedHead (t.in_tables from) (t.in_filter by ++ t.in_filter having) (each_right IsTypedHead (t.in_list list) (t.in_tables from ++ (t.in_filter by ++ t.in_filter having)) e)) (both_none _ _ (both_none _ _ h).0).0))
        ts (each_left IsTypedHead (t.in_list list) (t.in_tables from ++ (t.in_filter by ++ t.in_filter having)) e) (both_none _ _ (both_none _ _ (both_none _ _ (both_none _ _ h).1).1).0).0
    typed_query (s.enclosed q) scopes ts e h = typed_query q scopes ts e h
    typed_query (s.combine x op all y) scopes ts e h = typed_query x scopes ts (each_left IsTypedHead (t.in_query x) (t.in_query y) e) (both_none _ _ (both_none _ _ h).0).0
    typed_query (s.intersect x all y) scopes ts e h = typed_query x scopes ts (each_left IsTypedHead (t.in_query x) (t.in_query y) e) (both_none _ _ (both_none _ _ h).0).0

each_of_columns : (cs : List TypedColumn) → AreTyped cs → Each IsTyped cs
each_of_columns cs h = each_of_all IsTyped cs h

each_of_ranges : (rs : List TypedRange) → All (λ (r : TypedRange). AreTyped r.columns) rs → Each IsTypedRange rs
each_of_ranges rs h = each_more (λ (r : TypedRange). AreTyped r.columns) IsTypedRange (λ r k. each_of_columns r.columns k) rs (each_of_all (λ (r : TypedRange). AreTyped r.columns) rs h)

each_of_scopes : (scopes : Scopes) → AreTypedScopes scopes → Each IsTypedScope scopes
each_of_scopes scopes h =
    each_more (λ (scope : Scope). All (λ (r : TypedRange). AreTyped r.columns) scope.ranges) IsTypedScope (λ scope k. each_of_ranges scope.ranges k) scopes
    (each_of_all (λ (scope : Scope). All (λ (r : TypedRange). AreTyped r.columns) scope.ranges) scopes h)

pub valid_typed : (heads : Heads) → AreTypedHeads heads → (q : s.Query) → (scopes : Scopes) → AreTypedScopes scopes → query_fault heads q scopes ≡ 0 → AreTyped (columns heads q scopes)
valid_typed heads known q scopes ts h =
    all_of_each IsTyped (columns heads q scopes) (typed_query heads q scopes (each_of_scopes scopes ts) (each_all (IsTypedHead heads) (λ name. each_of_columns (columns_or_none (heads name)) (known name)) (t.in_query q)) h)
