-- In a query without faults each name stands for one column.
use Rattle.std.proofs.Common.{◌≡◌, ◌∙◌, ◌≤◌, ℕ, suc, Bool, true, false, cond, not, filter, List, [], ◌∷◌, ◌++◌, map, length, Option, Some, None, refl, sym, ap, subst, ℤ, pos, negsuc, nat_eq, nat_le, arith}
use Rattle.std.specs.Prelude.{All}
use Rattle.std.specs.List.{list_any}
use Rattle.std.proofs.lemmas.Bool.{and_parts, eqb-true, leb-true}
use Rattle.std.proofs.lemmas.List.{length-map}
use Rattle.row_bag.specs.declared.tables.Table.{Table}
use Rattle.sql_ast.specs.declared.name.Column.{Column}
use Rattle.sql_ast.specs.declared.text.Sort.{Sort}
use Rattle.sql_ast.specs.declared.text.SortKey.{SortKey}
use Rattle.sql_ast.specs.declared.text.SortKey.TheVariants as sort_key
use Rattle.sql_ast.specs.Declarations.{Declared}
use Rattle.sql_ast.specs.Names.{has_twins}
use Rattle.sql_ast.specs.Syntax as s
use Rattle.sql_meaning.specs.Grouping.{is_grouped}
use Rattle.sql_meaning.specs.Meaning.{known_of, number_of}
use Rattle.sql_meaning.specs.Names.{Known, names, shape, table_shape}
use Rattle.sql_meaning.specs.Scopes.{Shape, is_named}
use Rattle.sql_value.specs.declared.order_key.SqlType.{SqlType}
use Rattle.sql_faults.proofs.Catalogs.{same_columns}
use Rattle.sql_faults.proofs.Lookups.{Sound, SoundGrouping, column_once, named_count, own_column, range_once, star_once, visible, visible_of, visible_ranges}
use Rattle.sql_catalog.proofs.EachLaws.{Each, all_of_each}
use Rattle.sql_faults.proofs.Named.{both_same, names_same, ranges_same}
use Rattle.sql_faults.proofs.Orders.{both_none}
use Rattle.sql_faults.specs.Columns.{columns, list_columns, list_scope, ranges, table_ranges, type_of}
use Rattle.sql_faults.specs.Faults.{arms_fault, choices_fault, column_fault, compared_fault, cond_fault, else_fault, expr_fault, exprs_fault, filter_fault, from_fault, grouping_fault, item_fault, items_fault, query_fault, range_fault, res_fault, scalar_fault, select_fault, table_fault}
use Rattle.sql_faults.specs.FoundNames.{AreDistinct, FoundArms, FoundChoices, FoundCond, FoundExpr, FoundExprs, FoundFilter, FoundItem, FoundItems, FoundKey, FoundList, FoundOnce, FoundOtherwise, FoundQuery, FoundRange, FoundRes, FoundStar, FoundTable, FoundTables, FoundText, Visible, in_list, own, ranges_of, ungrouped}
use Rattle.sql_faults.specs.Laws.{SameColumns, column_names, range_shapes}
use Rattle.sql_faults.specs.Rules.{column_misplaced, fault_if, how_many, is_place, key_unfit, keys_unfit, name_ungrouped, not_one, one_of, pair_differs, range_ungrouped, range_unknown, ranges_equal, star_ungrouped, sub_misplaced, too_wide}
use Rattle.sql_faults.specs.Scopes.{Heads, Scope, Scopes, first_type, grouped, is_name_barred, is_own, is_range_barred, is_some, is_star_barred, meant, plain, released, scope_of, scope_with}
use Rattle.sql_faults.specs.Views.{fault, heads_of}
use Rattle.sql_faults.specs.declared.column.TypedColumn.{TypedColumn}
use Rattle.sql_faults.specs.declared.column.TypedRange.{TypedRange}
use Rattle.sql_faults.specs.declared.site.Site.{Site}
use Rattle.sql_faults.specs.declared.site.Site.TheVariants.{Argument, Filtered, Listed}

no_fault : (b : Bool) (n : ℕ) → fault_if b (suc n) ≡ 0 → b ≡ false
no_fault true n h = absurd (cc)
no_fault false n h = refl

is_so : (b : Bool) (n : ℕ) → fault_if (not b) (suc n) ≡ 0 → b ≡ true
is_so true n h = refl
is_so false n h = absurd (cc)

-- what is seen from a place; in an aggregate's argument the innermost scope alone
abbrev Within : Site → Scopes → List Visible → Type 0
Within Listed scopes any = any ≡ visible scopes
Within Filtered scopes any = any ≡ visible scopes
Within Argument scopes any = any ≡ own (visible scopes)

own_released : (scopes : Scopes) → own (visible scopes) ≡ own (visible (released scopes))
own_released [] = refl
own_released (s ∷ ss) = refl

own_own : (scopes : Scopes) → own (own (visible scopes)) ≡ own (visible (released scopes))
own_own [] = refl
own_own (s ∷ ss) = refl

within_argument : (place : Site) (scopes : Scopes) (any : List Visible) → Within place scopes any → own any ≡ own (visible (released scopes))
within_argument Listed scopes any w = ap own w ∙ own_released scopes
within_argument Filtered scopes any w = ap own w ∙ own_released scopes
within_argument Argument scopes any w = ap own w ∙ own_own scopes

released_sound : (scopes : Scopes) → Sound (released scopes)
released_sound [] = tt
released_sound (s ∷ ss) = (tt, released_sound ss)

-- ---- names

in_scopes : (c : Column) (scopes : Scopes) → Sound scopes → one_of (meant c scopes) ≡ 0 → name_ungrouped c scopes ≡ 0 → FoundOnce (visible scopes) c
in_scopes c scopes sound h k = column_once c scopes sound h (no_fault (is_name_barred c (scope_of c scopes)) 11 k)

in_argument : (c : Column) (scopes : Scopes) → one_of (meant c scopes) ≡ 0 → column_misplaced Argument c scopes ≡ 0 → FoundOnce (own (visible scopes)) c
in_argument c scopes h k = own_column c scopes h (is_so (is_own c scopes) 12 k)

found_column : (c : Column) (place : Site) (scopes : Scopes) (any : List Visible) → Within place scopes any → Sound scopes → column_fault place c scopes ≡ 0 → FoundOnce any c
found_column c Listed scopes any w sound h = subst (λ (z : List Visible). FoundOnce z c) (sym w) (in_scopes c scopes sound (both_none _ _ h).0 (both_none _ _ (both_none _ _ h).1).0)
found_column c Filtered scopes any w sound h = subst (λ (z : List Visible). FoundOnce z c) (sym w) (in_scopes c scopes sound (both_none _ _ h).0 (both_none _ _ (both_none _ _ h).1).0)
found_column c Argument scopes any w sound h = subst (λ (z : List Visible). FoundOnce z c) (sym w) (in_argument c scopes (both_none _ _ h).0 (both_none _ _ (both_none _ _ h).1).1)

found_range : (name : List ℕ) (scopes : Scopes) → range_fault name scopes ≡ 0 → FoundRange (visible scopes) name
found_range name scopes h =
    range_once name scopes (is_so (is_some (scope_with name scopes)) 7 (both_none (range_unknown (scope_with name scopes)) (range_ungrouped name (scope_with name scopes)) h).0)
    (no_fault (is_star_barred name (scope_with name scopes)) 11 (both_none (range_unknown (scope_with name scopes)) (range_ungrouped name (scope_with name scopes)) h).1)

-- the columns of GROUP BY
found_grouping : (by : List Column) (rs : List TypedRange) (scopes : Scopes) → grouping_fault by (plain rs ∷ scopes) ≡ 0 → Each (FoundOnce (ungrouped (range_shapes rs) ∷ [])) by
found_grouping [] rs scopes h = tt
found_grouping (c ∷ by) rs scopes h = (
  own_column c (plain rs ∷ scopes) (both_none _ _ (both_none _ _ h).0).0 (is_so (is_own c (plain rs ∷ scopes)) 11 (both_none _ _ (both_none _ _ h).0).1),
  found_grouping by rs scopes (both_none _ _ h).1,
)

-- ---- the scope of a list and HAVING

list_visible : (list : s.SelectList) (by : List Column) (having : s.Filter) (rs : List TypedRange) → in_list list by having (range_shapes rs) ≡ visible_of (list_scope list by having rs)
list_visible list by having rs = at (is_grouped list by having)
  where
    at : (b : Bool) → record { ranges = range_shapes rs; grouping = cond b (Some by) None } ≡ visible_of (cond b (grouped rs by) (plain rs))
    at true = refl
    at false = refl

list_sound : (list : s.SelectList) (by : List Column) (having : s.Filter) (rs : List TypedRange) → Each (FoundOnce (ungrouped (range_shapes rs) ∷ [])) by → SoundGrouping (list_scope list by having rs).grouping (range_shapes (list_scope list by having rs).ranges)
list_sound list by having rs h = at (is_grouped list by having)
  where
    at : (b : Bool) → SoundGrouping (cond b (grouped rs by) (plain rs)).grouping (range_shapes (cond b (grouped rs by) (plain rs)).ranges)
    at true = h
    at false = tt

range_names : (rs : List TypedRange) → map (λ (range : List ℕ × List (Option (List ℕ))). range.0) (range_shapes rs) ≡ map (λ (r : TypedRange). r.name) rs
range_names [] = refl
range_names (r ∷ rs) = ap (λ (names : List (List ℕ)). r.name ∷ names) (range_names rs)

found_distinct : (rs : List TypedRange) → ranges_equal rs ≡ 0 → AreDistinct (range_shapes rs)
found_distinct rs h = ap has_twins (range_names rs) ∙ no_fault (has_twins (map (λ (r : TypedRange). r.name) rs)) 6 h

compared_place : (place : Site) (t : Option SqlType) (cs : List TypedColumn) → compared_fault place t cs ≡ 0 → sub_misplaced place ≡ 0
compared_place place t cs h = (both_none (not_one cs) (sub_misplaced place) (both_none (pair_differs t (first_type cs)) (scalar_fault place cs) h).1).1

module _ (heads : Heads) (known : Known) (same : SameColumns heads known) where
  moved : (q : s.Query) (place : Site) (scopes : Scopes) (any : List Visible) → Within place scopes any → sub_misplaced place ≡ 0 → FoundQuery known (visible scopes) q → FoundQuery known any q
  moved q Listed scopes any w m h = subst (λ (z : List Visible). FoundQuery known z q) (sym w) h
  moved q Filtered scopes any w m h = subst (λ (z : List Visible). FoundQuery known z q) (sym w) h
  moved q Argument scopes any w m h = absurd (omega (arith, m))

  from_shape : (xs : s.TableRefs) (scopes : Scopes) → shape known xs (ranges_of (visible scopes)) ≡ range_shapes (ranges heads xs scopes)
  from_shape xs scopes = ap (shape known xs) (visible_ranges scopes) ∙ ranges_same heads known same xs scopes

  -- the scopes that an ON sees
  on_visible : (x y : s.TableRef) (scopes : Scopes)
      → (ungrouped (table_shape known x (ranges_of (visible scopes)) ++ table_shape known y (ranges_of (visible scopes))) ∷ visible scopes) ≡ visible (plain (table_ranges heads x scopes ++ table_ranges heads y scopes) ∷ scopes)
  on_visible x y scopes =
      ap (λ (rs : Shape). ungrouped rs ∷ visible scopes) (ap (λ (z : List Shape). table_shape known x z ++ table_shape known y z) (visible_ranges scopes) ∙ both_same heads known same x y scopes)

  found_star : (scope : Scope) (scopes : Scopes) → star_ungrouped (scope ∷ scopes) ≡ 0 → FoundStar (visible (scope ∷ scopes))
  found_star scope scopes h = star_once scope scopes (no_fault (list_any (is_range_barred scope.grouping) scope.ranges) 11 h)

  mutual
    found_expr : (x : s.Expr) (place : Site) (scopes : Scopes) (any : List Visible) → Within place scopes any → Sound scopes → expr_fault heads place x scopes ≡ 0 → FoundExpr known any x
    found_expr (s.add x op y) place scopes any w sound h = (found_expr x place scopes any w sound (both_none _ _ (both_none _ _ h).0).0, found_expr y place scopes any w sound (both_none _ _ (both_none _ _ h).0).1)
    found_expr (s.multiply x op y) place scopes any w sound h = (found_expr x place scopes any w sound (both_none _ _ (both_none _ _ h).0).0, found_expr y place scopes any w sound (both_none _ _ (both_none _ _ h).0).1)
    found_expr (s.signed p x) place scopes any w sound h = found_expr x place scopes any w sound (both_none _ _ h).0
    found_expr (s.number n) place scopes any w sound h = tt
    found_expr (s.string x) place scopes any w sound h = tt
    found_expr (s.col c) place scopes any w sound h = found_column c place scopes any w sound h
    found_expr (s.paren x) place scopes any w sound h = found_expr x place scopes any w sound h
    found_expr (s.scalar q) place scopes any w sound h = moved q place scopes any w (both_none _ _ (both_none _ _ h).1).1 (found_query q scopes sound (both_none _ _ h).0)
    found_expr s.count_all place scopes any w sound h = tt
    found_expr (s.aggregate f each x) place scopes any w sound h = found_expr x Argument (released scopes) (own any) (within_argument place scopes any w) (released_sound scopes) (both_none _ _ h).0
    found_expr (s.searched xs o) place scopes any w sound h = (found_arms xs place scopes any w sound (both_none _ _ (both_none _ _ h).0).0, found_otherwise o place scopes any w sound (both_none _ _ (both_none _ _ h).0).1)
    found_expr (s.simple x xs o) place scopes any w sound h = (
      found_expr x place scopes any w sound (both_none _ _ (both_none _ _ (both_none _ _ h).0).0).0,
      found_choices xs place _ scopes any w sound (both_none _ _ (both_none _ _ (both_none _ _ h).0).0).1,
      found_otherwise o place scopes any w sound (both_none _ _ (both_none _ _ h).0).1,
    )
    found_expr (s.coalesce x xs) place scopes any w sound h = (found_expr x place scopes any w sound (both_none _ _ (both_none _ _ h).0).0, found_exprs xs place scopes any w sound (both_none _ _ (both_none _ _ h).0).1)
    found_expr (s.null_if x y) place scopes any w sound h = (found_expr x place scopes any w sound (both_none _ _ (both_none _ _ h).0).0, found_expr y place scopes any w sound (both_none _ _ (both_none _ _ h).0).1)
    found_expr (s.cast_null d) place scopes any w sound h = tt

    found_exprs : (xs : s.Exprs) (place : Site) (scopes : Scopes) (any : List Visible) → Within place scopes any → Sound scopes → exprs_fault heads place xs scopes ≡ 0 → FoundExprs known any xs
    found_exprs s.no_expr place scopes any w sound h = tt
    found_exprs (s.one_expr x xs) place scopes any w sound h = (found_expr x place scopes any w sound (both_none _ _ h).0, found_exprs xs place scopes any w sound (both_none _ _ h).1)

    found_res : (r : s.Res) (place : Site) (scopes : Scopes) (any : List Visible) → Within place scopes any → Sound scopes → res_fault heads place r scopes ≡ 0 → FoundRes known any r
    found_res (s.given x) place scopes any w sound h = found_expr x place scopes any w sound h
    found_res s.null place scopes any w sound h = tt

    found_arms : (xs : s.Arms) (place : Site) (scopes : Scopes) (any : List Visible) → Within place scopes any → Sound scopes → arms_fault heads place xs scopes ≡ 0 → FoundArms known any xs
    found_arms s.no_arm place scopes any w sound h = tt
    found_arms (s.one_arm p r xs) place scopes any w sound h = (
      found_cond p place scopes any w sound (both_none _ _ (both_none _ _ h).0).0,
      found_res r place scopes any w sound (both_none _ _ (both_none _ _ h).0).1,
      found_arms xs place scopes any w sound (both_none _ _ h).1,
    )

    found_choices : (xs : s.Choices) (place : Site) (t : Option SqlType) (scopes : Scopes) (any : List Visible) → Within place scopes any → Sound scopes → choices_fault heads place t xs scopes ≡ 0 → FoundChoices known any xs
    found_choices s.no_choice place t scopes any w sound h = tt
    found_choices (s.one_choice x r xs) place t scopes any w sound h = (
      found_expr x place scopes any w sound (both_none _ _ (both_none _ _ (both_none _ _ h).0).0).0,
      found_res r place scopes any w sound (both_none _ _ (both_none _ _ h).0).1,
      found_choices xs place t scopes any w sound (both_none _ _ h).1,
    )

    found_otherwise : (o : s.Otherwise) (place : Site) (scopes : Scopes) (any : List Visible) → Within place scopes any → Sound scopes → else_fault heads place o scopes ≡ 0 → FoundOtherwise known any o
    found_otherwise s.no_else place scopes any w sound h = tt
    found_otherwise (s.or_else r) place scopes any w sound h = found_res r place scopes any w sound h

    found_cond : (p : s.Cond) (place : Site) (scopes : Scopes) (any : List Visible) → Within place scopes any → Sound scopes → cond_fault heads place p scopes ≡ 0 → FoundCond known any p
    found_cond (s.either p q) place scopes any w sound h = (found_cond p place scopes any w sound (both_none _ _ h).0, found_cond q place scopes any w sound (both_none _ _ h).1)
    found_cond (s.both p q) place scopes any w sound h = (found_cond p place scopes any w sound (both_none _ _ h).0, found_cond q place scopes any w sound (both_none _ _ h).1)
    found_cond (s.negated p) place scopes any w sound h = found_cond p place scopes any w sound h
    found_cond (s.bracket p) place scopes any w sound h = found_cond p place scopes any w sound h
    found_cond (s.compare x op y) place scopes any w sound h = (found_expr x place scopes any w sound (both_none _ _ (both_none _ _ h).0).0, found_expr y place scopes any w sound (both_none _ _ (both_none _ _ h).0).1)
    found_cond (s.quantified x op each q) place scopes any w sound h = (
      found_expr x place scopes any w sound (both_none _ _ (both_none _ _ h).0).0,
      moved q place scopes any w (compared_place place (type_of heads x scopes) (columns heads q scopes) (both_none _ _ h).1) (found_query q scopes sound (both_none _ _ (both_none _ _ h).0).1),
    )
    found_cond (s.between x negative y z) place scopes any w sound h = (
      found_expr x place scopes any w sound (both_none _ _ (both_none _ _ h).0).0,
      found_expr y place scopes any w sound (both_none _ _ (both_none _ _ (both_none _ _ h).0).1).0,
      found_expr z place scopes any w sound (both_none _ _ (both_none _ _ (both_none _ _ h).0).1).1,
    )
    found_cond (s.in_query x negative q) place scopes any w sound h = (
      found_expr x place scopes any w sound (both_none _ _ (both_none _ _ h).0).0,
      moved q place scopes any w (compared_place place (type_of heads x scopes) (columns heads q scopes) (both_none _ _ h).1) (found_query q scopes sound (both_none _ _ (both_none _ _ h).0).1),
    )
    found_cond (s.in_list x negative xs) place scopes any w sound h = (found_expr x place scopes any w sound (both_none _ _ (both_none _ _ h).0).0, found_exprs xs place scopes any w sound (both_none _ _ (both_none _ _ h).0).1)
    found_cond (s.like x negative y) place scopes any w sound h = (found_expr x place scopes any w sound (both_none _ _ (both_none _ _ h).0).0, found_expr y place scopes any w sound (both_none _ _ (both_none _ _ h).0).1)
    found_cond (s.is_null x negative) place scopes any w sound h = found_expr x place scopes any w sound h
    found_cond (s.exists q) place scopes any w sound h = moved q place scopes any w (both_none _ _ h).1 (found_query q scopes sound (both_none _ _ h).0)

    found_filter : (by : s.Filter) (place : Site) (scopes : Scopes) (any : List Visible) → Within place scopes any → Sound scopes → filter_fault heads place by scopes ≡ 0 → FoundFilter known any by
    found_filter s.no_filter place scopes any w sound h = tt
    found_filter (s.only_where p) place scopes any w sound h = found_cond p place scopes any w sound h

    found_item : (x : s.Item) (scopes : Scopes) (any : List Visible) → any ≡ visible scopes → Sound scopes → item_fault heads x scopes ≡ 0 → FoundItem known any x
    found_item (s.item x n) scopes any w sound h = found_expr x Listed scopes any w sound h
    found_item (s.all_of name) scopes any w sound h = subst (λ (z : List Visible). FoundRange z name) (sym w) (found_range name scopes h)

    found_items : (xs : s.Items) (scopes : Scopes) (any : List Visible) → any ≡ visible scopes → Sound scopes → items_fault heads xs scopes ≡ 0 → FoundItems known any xs
    found_items s.no_item scopes any w sound h = tt
    found_items (s.one_item x xs) scopes any w sound h = (found_item x scopes any w sound (both_none _ _ h).0, found_items xs scopes any w sound (both_none _ _ h).1)

    found_list : (list : s.SelectList) (scope : Scope) (scopes : Scopes) (any : List Visible) → any ≡ visible (scope ∷ scopes) → Sound (scope ∷ scopes) → select_fault heads list (scope ∷ scopes) ≡ 0 → FoundList known any list
    found_list s.star scope scopes any w sound h = subst FoundStar (sym w) (found_star scope scopes h)
    found_list (s.items xs) scope scopes any w sound h = found_items xs (scope ∷ scopes) any w sound h

    found_tables : (xs : s.TableRefs) (scopes : Scopes) → Sound scopes → from_fault heads xs scopes ≡ 0 → FoundTables known (visible scopes) xs
    found_tables s.no_table scopes sound h = tt
    found_tables (s.one_table x xs) scopes sound h = (found_table x scopes sound (both_none _ _ h).0, found_tables xs scopes sound (both_none _ _ h).1)

    found_table : (x : s.TableRef) (scopes : Scopes) → Sound scopes → table_fault heads x scopes ≡ 0 → FoundTable known (visible scopes) x
    found_table (s.join x inner y p) scopes sound h = (
      found_table x scopes sound (both_none _ _ (both_none _ _ h).0).0,
      found_table y scopes sound (both_none _ _ (both_none _ _ h).0).1,
      found_cond p Filtered (plain (table_ranges heads x scopes ++ table_ranges heads y scopes) ∷ scopes) _ (on_visible x y scopes) (tt, sound) (both_none _ _ h).1,
    )
    found_table (s.left_join x outer y p) scopes sound h = (
      found_table x scopes sound (both_none _ _ (both_none _ _ h).0).0,
      found_table y scopes sound (both_none _ _ (both_none _ _ h).0).1,
      found_cond p Filtered (plain (table_ranges heads x scopes ++ table_ranges heads y scopes) ∷ scopes) _ (on_visible x y scopes) (tt, sound) (both_none _ _ h).1,
    )
    found_table (s.cross_join x y) scopes sound h = (found_table x scopes sound (both_none _ _ h).0, found_table y scopes sound (both_none _ _ h).1)
    found_table (s.named name c) scopes sound h = tt
    found_table (s.derived q c) scopes sound h = found_query q scopes sound (both_none _ _ h).0
    found_table (s.joined x) scopes sound h = found_table x scopes sound h

    pub found_query : (q : s.Query) (scopes : Scopes) → Sound scopes → query_fault heads q scopes ≡ 0 → FoundQuery known (visible scopes) q
    found_query (s.block each list from by group having) scopes sound h =
        subst (λ (rs : Shape).
        FoundTables known (visible scopes) from × AreDistinct rs × FoundFilter known (ungrouped rs ∷ visible scopes) by × All (FoundOnce (ungrouped rs ∷ [])) group
        × FoundList known (in_list list group having rs ∷ visible scopes) list × FoundFilter known (in_list list group having rs ∷ visible scopes) having) (sym (from_shape from scopes)) (
          found_tables from scopes sound (both_none _ _ (both_none _ _ h).0).0,
          found_distinct (ranges heads from scopes) (both_none _ _ (both_none _ _ h).0).1,
          found_filter by Filtered (plain (ranges heads from scopes) ∷ scopes) _ refl (tt, sound) (both_none _ _ (both_none _ _ (both_none _ _ h).1).0).0,
          all_of_each (FoundOnce (ungrouped (range_shapes (ranges heads from scopes)) ∷ [])) group (found_grouping group (ranges heads from scopes) scopes (both_none _ _ (both_none _ _ (both_none _ _ h).1).0).1),
          found_list list (list_scope list group having (ranges heads from scopes)) scopes _ (ap (λ (scope : Visible). scope ∷ visible scopes) (list_visible list group having (ranges heads from scopes)))
              (list_sound list group having (ranges heads from scopes) (found_grouping group (ranges heads from scopes) scopes (both_none _ _ (both_none _ _ (both_none _ _ h).1).0).1), sound)
              (both_none _ _ (both_none _ _ (both_none _ _ (both_none _ _ h).1).1).0).0,
          found_filter having Listed (list_scope list group having (ranges heads from scopes) ∷ scopes) _ (ap (λ (scope : Visible). scope ∷ visible scopes) (list_visible list group having (ranges heads from scopes)))
              (list_sound list group having (ranges heads from scopes) (found_grouping group (ranges heads from scopes) scopes (both_none _ _ (both_none _ _ (both_none _ _ h).1).0).1), sound)
              (both_none (select_fault heads list (list_scope list group having (ranges heads from scopes) ∷ scopes)) (filter_fault heads Listed having (list_scope list group having (ranges heads from scopes) ∷ scopes)) (both_none _ (too_wide (list_columns heads list (list_scope list group having (ranges heads from scopes) ∷ scopes))) (both_none _ _ (both_none _ _ h).1).1).0).1,
        )
    found_query (s.enclosed x) scopes sound h = found_query x scopes sound h
    found_query (s.combine x op all y) scopes sound h = (found_query x scopes sound (both_none _ _ (both_none _ _ h).0).0, found_query y scopes sound (both_none _ _ (both_none _ _ h).0).1)
    found_query (s.intersect x all y) scopes sound h = (found_query x scopes sound (both_none _ _ (both_none _ _ h).0).0, found_query y scopes sound (both_none _ _ (both_none _ _ h).0).1)

  pub found_valid : (q : s.Query) → query_fault heads q [] ≡ 0 → FoundQuery known [] q
  found_valid q h = found_query q [] tt h

-- ---- ORDER BY

one_named : (name : List ℕ) (cs : List TypedColumn) → key_unfit cs (sort_key.Name name) ≡ 0 → length (filter (is_named name) (column_names cs)) ≡ 1
one_named name cs h = named_count name cs ∙ eqb-true (how_many name cs) 1 (is_so (nat_eq (how_many name cs) 1) 13 h)

number_stands : (n : ℤ) (cs : List TypedColumn) → is_place (length cs) n ≡ true → (1 ≤ number_of n) × (number_of n ≤ length (column_names cs))
number_stands (pos n) cs h =
    let parts = and_parts (nat_le 1 n) (nat_le n (length cs)) h in
    (leb-true 1 n parts.0, subst (λ (width : ℕ). n ≤ width) (sym (length-map cs (λ (c : TypedColumn). c.name))) (leb-true n (length cs) parts.1))
number_stands (negsuc n) cs h = absurd (cc)

found_key : (cs : List TypedColumn) (key : SortKey) → key_unfit cs key ≡ 0 → FoundKey (column_names cs) key
found_key cs (sort_key.Name name) h = one_named name cs h
found_key cs (sort_key.Number n) h = number_stands n cs (is_so (is_place (length cs) n) 13 h)

found_keys : (cs : List TypedColumn) (keys : List Sort) → keys_unfit cs keys ≡ 0 → Each (λ (sort : Sort). FoundKey (column_names cs) sort.key) keys
found_keys cs [] h = tt
found_keys cs (x ∷ xs) h = (found_key cs x.key (both_none _ _ h).0, found_keys cs xs (both_none _ _ h).1)

pub found_text : (catalog : Declared) → (tables : List Table) → (text : s.QueryText) → fault catalog text ≡ 0 → FoundText (known_of catalog tables) text
found_text catalog tables text h = (
  found_valid (heads_of catalog) (known_of catalog tables) (same_columns catalog tables) text.query (both_none _ _ h).0,
  all_of_each (λ (sort : Sort). FoundKey (names (known_of catalog tables) text.query []) sort.key) text.order
      (subst (λ (columns : List (Option (List ℕ))). Each (λ (sort : Sort). FoundKey columns sort.key) text.order) (sym (names_same (heads_of catalog) (known_of catalog tables) (same_columns catalog tables) text.query []))
      (found_keys (columns (heads_of catalog) text.query []) text.order (both_none _ _ h).1)),
)
