-- The columns that the checks find have the names that the meaning of queries gives them.
use Rattle.std.proofs.Common.{◌≡◌, ◌∙◌, ℕ, Bool, true, false, cond, List, [], ◌∷◌, ◌++◌, Option, Some, None, refl, sym, ap, ap₂}
use Rattle.std.specs.List.{flat_map}
use Rattle.std.proofs.lemmas.List.{map-append}
use Rattle.sql_ast.specs.declared.name.Column.{Column}
use Rattle.sql_ast.specs.Syntax as s
use Rattle.sql_ast.specs.Names.{same_name}
use Rattle.sql_meaning.specs.Grouping.{is_grouped}
use Rattle.sql_meaning.specs.Names.{Known, Relation, column_list, columns_of, item_names, items_names, list_names, names, range_name, shape, table_shape, under}
use Rattle.sql_meaning.specs.Names as n
use Rattle.sql_meaning.specs.Scopes.{Shape, columns_in, columns_of_range}
use Rattle.sql_faults.specs.Columns.{all_columns, columns, columns_or_none, item_columns, items_columns, list_columns, list_scope, listed, range_columns, ranges, renamed, table_ranges}
use Rattle.sql_faults.specs.Laws.{SameColumns, column_names, range_shapes, shapes}
use Rattle.sql_faults.specs.Scopes.{Heads, Scope, Scopes, grouped, is_some, plain, range_in, range_of, range_of_scope, scope_with}
use Rattle.sql_faults.specs.declared.column.TypedColumn.{TypedColumn}
use Rattle.sql_faults.specs.declared.column.TypedRange.{TypedRange}

names_append : (xs ys : List TypedColumn) → column_names (xs ++ ys) ≡ column_names xs ++ column_names ys
names_append xs ys = map-append (λ (c : TypedColumn). c.name) xs ys

shapes_append : (xs ys : List TypedRange) → range_shapes (xs ++ ys) ≡ range_shapes xs ++ range_shapes ys
shapes_append xs ys = map-append (λ (r : TypedRange). (r.name, column_names r.columns)) xs ys

joined_shapes : (a b : Shape) (xs ys : List TypedRange) → a ≡ range_shapes xs → b ≡ range_shapes ys → a ++ b ≡ range_shapes (xs ++ ys)
joined_shapes a b xs ys h k = ap₂ (λ (p q : Shape). p ++ q) h k ∙ sym (shapes_append xs ys)

-- ---- column lists

listed_names : (list : List (List ℕ)) (cs : List TypedColumn) → n.listed list (column_names cs) ≡ column_names (listed list cs)
listed_names [] [] = refl
listed_names (name ∷ list) [] = refl
listed_names [] (c ∷ cs) = ap (λ (xs : List (Option (List ℕ))). None ∷ xs) (listed_names [] cs)
listed_names (name ∷ list) (c ∷ cs) = ap (λ (xs : List (Option (List ℕ))). Some name ∷ xs) (listed_names list cs)

pub renamed_names : (list : List (List ℕ)) (cs : List TypedColumn) → n.renamed list (column_names cs) ≡ column_names (renamed list cs)
renamed_names [] cs = refl
renamed_names (name ∷ list) cs = listed_names (name ∷ list) cs

listed_none : (list : List (List ℕ)) → n.renamed list [] ≡ []
listed_none [] = refl
listed_none (name ∷ list) = refl

under_names : (list : List (List ℕ)) (r : Option Relation) → columns_of (under list r) ≡ n.renamed list (columns_of r)
under_names list None = sym (listed_none list)
under_names list (Some table) = refl

-- ---- stars

star_names : (rs : List TypedRange) → flat_map (λ (range : List ℕ × List (Option (List ℕ))). range.1) (range_shapes rs) ≡ column_names (all_columns rs)
star_names [] = refl
star_names (r ∷ rs) = ap (λ (xs : List (Option (List ℕ))). column_names r.columns ++ xs) (star_names rs) ∙ sym (names_append r.columns (all_columns rs))

abbrev pub names_of_range : Option TypedRange → Option (List (Option (List ℕ)))
names_of_range None = None
names_of_range (Some r) = Some (column_names r.columns)

pub in_shape : (name : List ℕ) (rs : List TypedRange) → columns_in name (range_shapes rs) ≡ names_of_range (range_in name rs)
in_shape name [] = refl
in_shape name (r ∷ rs) =
    elim (same_name r.name name) as (λ b. cond b (Some (column_names r.columns)) (columns_in name (range_shapes rs)) ≡ names_of_range (cond b (Some r) (range_in name rs))) [
      | true ↦ refl
      | false ↦ in_shape name rs
    ]

-- the columns of a range that was found, or else these
abbrev pub names_or : Option (List (Option (List ℕ))) → List (Option (List ℕ)) → List (Option (List ℕ))
names_or found rest = elim found as (λ _. List (Option (List ℕ))) [ Some names ↦ names | None ↦ rest ]

range_names : (name : List ℕ) (scopes : Scopes) → columns_of_range name (shapes scopes) ≡ column_names (range_columns (range_of name scopes))
range_names name [] = refl
range_names name (s ∷ ss) = ap (λ (found : Option (List (Option (List ℕ)))). names_or found (columns_of_range name (shapes ss))) (in_shape name s.ranges) ∙ at (range_names name ss) (range_in name s.ranges) refl
  where
    at : columns_of_range name (shapes ss) ≡ column_names (range_columns (range_of name ss)) → (o : Option TypedRange) → range_in name s.ranges ≡ o
        → names_or (names_of_range o) (columns_of_range name (shapes ss)) ≡ column_names (range_columns (range_of_scope name (cond (is_some o) (Some s) (scope_with name ss))))
    at rest None e = rest
    at rest (Some r) e = ap (λ (found : Option TypedRange). column_names (range_columns found)) (sym e)

-- ---- lists

-- the scope of a list has the ranges of its FROM
pub scope_ranges : (list : s.SelectList) (by : List Column) (having : s.Filter) (rs : List TypedRange) → (list_scope list by having rs).ranges ≡ rs
scope_ranges list by having rs = at (is_grouped list by having)
  where
    at : (b : Bool) → (cond b (grouped rs by) (plain rs)).ranges ≡ rs
    at true = refl
    at false = refl

module _ (heads : Heads) where
  item_same : (x : s.Item) (scopes : Scopes) → item_names x (shapes scopes) ≡ column_names (item_columns heads x scopes)
  item_same (s.item x n) scopes = refl
  item_same (s.all_of name) scopes = range_names name scopes

  items_same : (xs : s.Items) (scopes : Scopes) → items_names xs (shapes scopes) ≡ column_names (items_columns heads xs scopes)
  items_same s.no_item scopes = refl
  items_same (s.one_item x xs) scopes = ap₂ (λ (a b : List (Option (List ℕ))). a ++ b) (item_same x scopes) (items_same xs scopes) ∙ sym (names_append (item_columns heads x scopes) (items_columns heads xs scopes))

  list_in : (list : s.SelectList) (scope : Scope) (scopes : Scopes) → list_names list (range_shapes scope.ranges) (shapes scopes) ≡ column_names (list_columns heads list (scope ∷ scopes))
  list_in s.star scope scopes = star_names scope.ranges
  list_in (s.items xs) scope scopes = items_same xs (scope ∷ scopes)

  list_same : (list : s.SelectList) (by : List Column) (having : s.Filter) (rs : List TypedRange) (scopes : Scopes)
      → list_names list (range_shapes rs) (shapes scopes) ≡ column_names (list_columns heads list (list_scope list by having rs ∷ scopes))
  list_same list by having rs scopes =
      ap (λ (z : List TypedRange). list_names list (range_shapes z) (shapes scopes)) (sym (scope_ranges list by having rs)) ∙ list_in list (list_scope list by having rs) scopes

  -- ---- queries

  module _ (known : Known) (same : SameColumns heads known) where
    mutual
      pub names_same : (q : s.Query) (scopes : Scopes) → names known q (shapes scopes) ≡ column_names (columns heads q scopes)
      names_same (s.block each list from by group having) scopes =
          ap (λ (rs : Shape). list_names list rs (shapes scopes)) (ranges_same from scopes) ∙ list_same list group having (ranges heads from scopes) scopes
      names_same (s.enclosed q) scopes = names_same q scopes
      names_same (s.combine x op all y) scopes = names_same x scopes
      names_same (s.intersect x all y) scopes = names_same x scopes

      pub ranges_same : (xs : s.TableRefs) (scopes : Scopes) → shape known xs (shapes scopes) ≡ range_shapes (ranges heads xs scopes)
      ranges_same s.no_table scopes = refl
      ranges_same (s.one_table x xs) scopes = joined_shapes (table_shape known x (shapes scopes)) (shape known xs (shapes scopes)) (table_ranges heads x scopes) (ranges heads xs scopes) (table_same x scopes) (ranges_same xs scopes)

      pub table_same : (x : s.TableRef) (scopes : Scopes) → table_shape known x (shapes scopes) ≡ range_shapes (table_ranges heads x scopes)
      table_same (s.join x inner y p) scopes = joined_shapes (table_shape known x (shapes scopes)) (table_shape known y (shapes scopes)) (table_ranges heads x scopes) (table_ranges heads y scopes) (table_same x scopes) (table_same y scopes)
      table_same (s.left_join x outer y p) scopes = joined_shapes (table_shape known x (shapes scopes)) (table_shape known y (shapes scopes)) (table_ranges heads x scopes) (table_ranges heads y scopes) (table_same x scopes) (table_same y scopes)
      table_same (s.cross_join x y) scopes = joined_shapes (table_shape known x (shapes scopes)) (table_shape known y (shapes scopes)) (table_ranges heads x scopes) (table_ranges heads y scopes) (table_same x scopes) (table_same y scopes)
      table_same (s.named name c) scopes =
          ap (λ (cs : List (Option (List ℕ))). (range_name name c, cs) ∷ [])
          (under_names (column_list c) (known name) ∙ ap (n.renamed (column_list c)) (sym (same name)) ∙ renamed_names (column_list c) (columns_or_none (heads name)))
      table_same (s.derived q c) scopes = ap (λ (cs : List (Option (List ℕ))). (c.name, cs) ∷ []) (ap (n.renamed c.columns) (names_same q scopes) ∙ renamed_names c.columns (columns heads q scopes))
      table_same (s.joined x) scopes = table_same x scopes

    -- the ranges of the operands of a join
    pub both_same : (x y : s.TableRef) (scopes : Scopes) → table_shape known x (shapes scopes) ++ table_shape known y (shapes scopes) ≡ range_shapes (table_ranges heads x scopes ++ table_ranges heads y scopes)
    both_same x y scopes = joined_shapes (table_shape known x (shapes scopes)) (table_shape known y (shapes scopes)) (table_ranges heads x scopes) (table_ranges heads y scopes) (table_same x scopes) (table_same y scopes)

    -- the ranges that a list and HAVING see first
    pub scope_same : (list : s.SelectList) (by : List Column) (having : s.Filter) (xs : s.TableRefs) (scopes : Scopes) → shape known xs (shapes scopes) ∷ shapes scopes ≡ shapes (list_scope list by having (ranges heads xs scopes) ∷ scopes)
    scope_same list by having xs scopes = ap (λ (rs : Shape). rs ∷ shapes scopes) (ranges_same xs scopes ∙ ap range_shapes (sym (scope_ranges list by having (ranges heads xs scopes))))
