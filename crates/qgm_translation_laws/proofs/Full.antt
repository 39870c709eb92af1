-- A query of the grammar without faults has a column, and so has each range of a FROM.
use Rattle.std.proofs.Common.{◌≡◌, ℕ, Bool, true, false, cond, List, [], ◌∷◌, ◌++◌, Option, Some, None, refl}
use Rattle.std.proofs.lemmas.Bool.{and_parts}
use Rattle.sql_ast.specs.declared.name.Column.{Column}
use Rattle.sql_ast.specs.Grammatical.{are_tables, is_list, is_query, is_table, some_item, some_table}
use Rattle.sql_ast.specs.Names.{same_name}
use Rattle.sql_ast.specs.Syntax as s
use Rattle.sql_catalog.specs.TableNames as t
use Rattle.sql_meaning.specs.Grouping.{is_grouped}
use Rattle.sql_meaning.specs.Names.{column_list}
use Rattle.sql_catalog.proofs.EachLaws.{Each, each_all, each_append, each_left, each_right}
use Rattle.sql_faults.proofs.Orders.{both_none}
use Rattle.sql_faults.specs.Columns.{all_columns, columns, columns_or_none, item_columns, items_columns, list_columns, list_scope, range_columns, ranges, renamed, table_ranges}
use Rattle.sql_faults.specs.Faults.{from_fault, item_fault, items_fault, list_fault, query_fault, select_fault, table_fault}
use Rattle.sql_faults.specs.Rules.{table_unknown}
use Rattle.sql_faults.specs.Scopes.{Heads, Scope, Scopes, grouped, is_empty, is_some, plain, range_in, range_of, scope_with}
use Rattle.sql_faults.specs.declared.column.TypedColumn.{TypedColumn}
use Rattle.sql_faults.specs.declared.column.TypedRange.{TypedRange}
use Rattle.qgm_translation_laws.proofs.Cells.{HasColumn}
use Rattle.qgm_translation_laws.proofs.Tests.{is_so}
use Rattle.qgm_translation_laws.specs.Typing.{HaveColumns}

abbrev pub FullScope : Scope → Type 0
FullScope s = Each HasColumn s.ranges

first_there : {A : Type 0} (xs ys : List A) → is_empty xs ≡ false → is_empty (xs ++ ys) ≡ false
first_there [] ys h = absurd (cc)
first_there (x ∷ xs) ys h = refl

pub full_listed : (list : List (List ℕ)) (cs : List TypedColumn) → is_empty cs ≡ false → is_empty (renamed list cs) ≡ false
full_listed [] cs h = h
full_listed (name ∷ list) [] h = absurd (cc)
full_listed (name ∷ list) (c ∷ cs) h = refl

full_all : (rs : List TypedRange) → Each HasColumn rs → is_empty rs ≡ false → is_empty (all_columns rs) ≡ false
full_all [] h e = absurd (cc)
full_all (r ∷ rs) h e = first_there r.columns (all_columns rs) h.0

full_range : (name : List ℕ) (rs : List TypedRange) → Each HasColumn rs → is_some (range_in name rs) ≡ true → is_empty (range_columns (range_in name rs)) ≡ false
full_range name [] h e = absurd (cc)
full_range name (r ∷ rs) h e =
    elim (same_name r.name name) as (λ b. is_some (cond b (Some r) (range_in name rs)) ≡ true → is_empty (range_columns (cond b (Some r) (range_in name rs))) ≡ false) [
      | true ↦ (λ k. h.0)
      | false ↦ (λ k. full_range name rs h.1 k)
    ] e

full_star : (name : List ℕ) (scopes : Scopes) → Each FullScope scopes → is_some (scope_with name scopes) ≡ true → is_empty (range_columns (range_of name scopes)) ≡ false
full_star name [] h e = absurd (cc)
full_star name (s ∷ scopes) h e = at (is_some (range_in name s.ranges)) refl e (full_star name scopes h.1)
  where
    at : (b : Bool) → is_some (range_in name s.ranges) ≡ b → is_some (cond b (Some s) (scope_with name scopes)) ≡ true → (is_some (scope_with name scopes) ≡ true → is_empty (range_columns (range_of name scopes)) ≡ false) → is_empty (range_columns (range_of name (s ∷ scopes))) ≡ false
    at true k e later = rw (k) (full_range name s.ranges h.0 k)
    at false k e later = rw (k) (later e)

full_scope : (list : s.SelectList) (by : List Column) (having : s.Filter) (rs : List TypedRange) → Each HasColumn rs → FullScope (list_scope list by having rs)
full_scope list by having rs h = elim (is_grouped list by having) as (λ b. FullScope (cond b (grouped rs by) (plain rs))) [ true ↦ h | false ↦ h ]

some_columns : (o : Option (List TypedColumn)) → ((found : List TypedColumn) → o ≡ Some found → is_empty found ≡ false) → is_some o ≡ true → is_empty (columns_or_none o) ≡ false
some_columns None h e = absurd (cc)
some_columns (Some found) h e = h found refl

module _ (heads : Heads) where
  -- a table or view has a column, if there is one of the name
  abbrev pub IsFullHead : List ℕ → Type 0
  IsFullHead name = (found : List TypedColumn) → heads name ≡ Some found → is_empty found ≡ false

  full_item : (x : s.Item) (scopes : Scopes) → Each FullScope scopes → item_fault heads x scopes ≡ 0 → is_empty (item_columns heads x scopes) ≡ false
  full_item (s.item x n) scopes f h = refl
  full_item (s.all_of name) scopes f h = full_star name scopes f (is_so (is_some (scope_with name scopes)) 7 (both_none _ _ h).0)

  full_items : (xs : s.Items) (scopes : Scopes) → Each FullScope scopes → some_item xs ≡ true → items_fault heads xs scopes ≡ 0 → is_empty (items_columns heads xs scopes) ≡ false
  full_items s.no_item scopes f g h = absurd (cc)
  full_items (s.one_item x xs) scopes f g h = first_there (item_columns heads x scopes) (items_columns heads xs scopes) (full_item x scopes f (both_none _ _ h).0)

  full_list : (list : s.SelectList) (scope : Scope) (scopes : Scopes) → FullScope scope → Each FullScope scopes → is_empty scope.ranges ≡ false → is_list list ≡ true → select_fault heads list (scope ∷ scopes) ≡ 0 → is_empty (list_columns heads list (scope ∷ scopes)) ≡ false
  full_list s.star scope scopes own f e g h = full_all scope.ranges own e
  full_list (s.items xs) scope scopes own f e g h = full_items xs (scope ∷ scopes) (own, f) (and_parts _ _ g).0 h

  there : (list : s.SelectList) (by : List Column) (having : s.Filter) (rs : List TypedRange) → is_empty rs ≡ false → is_empty (list_scope list by having rs).ranges ≡ false
  there list by having rs h = elim (is_grouped list by having) as (λ b. is_empty (cond b (grouped rs by) (plain rs)).ranges ≡ false) [ true ↦ h | false ↦ h ]

  some_ranges : (x : s.TableRef) (scopes : Scopes) → is_empty (table_ranges heads x scopes) ≡ false
  some_ranges (s.join x inner y p) scopes = first_there (table_ranges heads x scopes) (table_ranges heads y scopes) (some_ranges x scopes)
  some_ranges (s.left_join x outer y p) scopes = first_there (table_ranges heads x scopes) (table_ranges heads y scopes) (some_ranges x scopes)
  some_ranges (s.cross_join x y) scopes = first_there (table_ranges heads x scopes) (table_ranges heads y scopes) (some_ranges x scopes)
  some_ranges (s.named name c) scopes = refl
  some_ranges (s.derived q c) scopes = refl
  some_ranges (s.joined x) scopes = some_ranges x scopes

  some_from : (xs : s.TableRefs) (scopes : Scopes) → some_table xs ≡ true → is_empty (ranges heads xs scopes) ≡ false
  some_from s.no_table scopes g = absurd (cc)
  some_from (s.one_table x xs) scopes g = first_there (table_ranges heads x scopes) (ranges heads xs scopes) (some_ranges x scopes)

  mutual
    filled_tables : (xs : s.TableRefs) (scopes : Scopes) → Each FullScope scopes → Each IsFullHead (t.in_tables xs) → are_tables xs ≡ true → from_fault heads xs scopes ≡ 0 → Each HasColumn (ranges heads xs scopes)
    filled_tables s.no_table scopes f e g h = tt
    filled_tables (s.one_table x xs) scopes f e g h =
        each_append HasColumn (table_ranges heads x scopes) (ranges heads xs scopes)
        (filled_table x scopes f (each_left IsFullHead (t.in_table x) (t.in_tables xs) e) (and_parts _ _ g).0 (both_none _ _ h).0)
        (filled_tables xs scopes f (each_right IsFullHead (t.in_table x) (t.in_tables xs) e) (and_parts _ _ g).1 (both_none _ _ h).1)

    filled_table : (x : s.TableRef) (scopes : Scopes) → Each FullScope scopes → Each IsFullHead (t.in_table x) → is_table x ≡ true → table_fault heads x scopes ≡ 0 → Each HasColumn (table_ranges heads x scopes)
    filled_table (s.join x inner y p) scopes f e g h =
        each_append HasColumn (table_ranges heads x scopes) (table_ranges heads y scopes)
        (filled_table x scopes f (each_left IsFullHead (t.in_table x) (t.in_table y ++ t.in_cond p) e) (and_parts _ _ g).0 (both_none _ _ (both_none _ _ h).0).0)
        (filled_table y scopes f (each_left IsFullHead (t.in_table y) (t.in_cond p) (each_right IsFullHead (t.in_table x) (t.in_table y ++ t.in_cond p) e)) (and_parts _ _ (and_parts _ _ (and_parts _ _ g).1).0).1 (both_none _ _ (both_none _ _ h).0).1)
    filled_table (s.left_join x outer y p) scopes f e g h =
        each_append HasColumn (table_ranges heads x scopes) (table_ranges heads y scopes)
        (filled_table x scopes f (each_left IsFullHead (t.in_table x) (t.in_table y ++ t.in_cond p) e) (and_parts _ _ g).0 (both_none _ _ (both_none _ _ h).0).0)
        (filled_table y scopes f (each_left IsFullHead (t.in_table y) (t.in_cond p) (each_right IsFullHead (t.in_table x) (t.in_table y ++ t.in_cond p) e)) (and_parts _ _ (and_parts _ _ (and_parts _ _ g).1).0).1 (both_none _ _ (both_none _ _ h).0).1)
    filled_table (s.cross_join x y) scopes f e g h =
        each_append HasColumn (table_ranges heads x scopes) (table_ranges heads y scopes)
        (filled_table x scopes f (each_left IsFullHead (t.in_table x) (t.in_table y) e) (and_parts _ _ g).0 (both_none _ _ h).0)
        (filled_table y scopes f (each_right IsFullHead (t.in_table x) (t.in_table y) e) (and_parts _ _ (and_parts _ _ g).1).1 (both_none _ _ h).1)
    filled_table (s.named name c) scopes f e g h = (
      full_listed (column_list c) (columns_or_none (heads name))
          (some_columns (heads name) e.0 (is_so (is_some (heads name)) 5 (both_none (table_unknown (heads name)) (list_fault (column_list c) (columns_or_none (heads name))) h).0)),
      tt,
    )
    filled_table (s.derived q c) scopes f e g h = (full_listed c.columns (columns heads q scopes) (filled_query q scopes f e g (both_none _ _ h).0), tt)
    filled_table (s.joined x) scopes f e g h = filled_table x scopes f e (and_parts _ _ g).1 h

    pub filled_query : (q : s.Query) (scopes : Scopes) → Each FullScope scopes → Each IsFullHead (t.in_query q) → is_query q ≡ true → query_fault heads q scopes ≡ 0 → is_empty (columns heads q scopes) ≡ false
    filled_query (s.block each list from by group having) scopes f e g h =
        full_list list (list_scope list group having (ranges heads from scopes)) scopes
        (full_scope list group having (ranges heads from scopes)
        (filled_tables from scopes f (each_left IsFullHead (t.in_tables from) (t.in_filter by ++ t.in_filter having) (each_right IsFullHead (t.in_list list) (t.in_tables from ++ (t.in_filter by ++ t.in_filter having)) e))
        (and_parts _ _ (and_parts _ _ (and_parts _ _ g).1).0).1 (both_none _ _ (both_none _ _ h).0).0)) f
        (there list group having (ranges heads from scopes) (some_from from scopes (and_parts _ _ (and_parts _ _ (and_parts _ _ g).1).0).0)) (and_parts _ _ g).0
        (both_none _ _ (both_none _ _ (both_none _ _ (both_none _ _ h).1).1).0).0
    filled_query (s.enclosed x) scopes f e g h = filled_query x scopes f e g h
    filled_query (s.combine x op all y) scopes f e g h = filled_query x scopes f (each_left IsFullHead (t.in_query x) (t.in_query y) e) (and_parts _ _ g).0 (both_none _ _ (both_none _ _ h).0).0
    filled_query (s.intersect x all y) scopes f e g h = filled_query x scopes f (each_left IsFullHead (t.in_query x) (t.in_query y) e) (and_parts _ _ (and_parts _ _ g).0).1 (both_none _ _ (both_none _ _ h).0).0

  -- where all tables and views have columns
  module _ (full : HaveColumns heads) where
    pub full_tables : (xs : s.TableRefs) (scopes : Scopes) → Each FullScope scopes → are_tables xs ≡ true → from_fault heads xs scopes ≡ 0 → Each HasColumn (ranges heads xs scopes)
    full_tables xs scopes f g h = filled_tables xs scopes f (each_all IsFullHead full (t.in_tables xs)) g h

    pub full_table : (x : s.TableRef) (scopes : Scopes) → Each FullScope scopes → is_table x ≡ true → table_fault heads x scopes ≡ 0 → Each HasColumn (table_ranges heads x scopes)
    full_table x scopes f g h = filled_table x scopes f (each_all IsFullHead full (t.in_table x)) g h

    pub full_query : (q : s.Query) (scopes : Scopes) → Each FullScope scopes → is_query q ≡ true → query_fault heads q scopes ≡ 0 → is_empty (columns heads q scopes) ≡ false
    full_query q scopes f g h = filled_query q scopes f (each_all IsFullHead full (t.in_query q)) g h
