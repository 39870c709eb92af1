-- A resolved query has as many columns as names, and so has each operand of a FROM.
use Rattle.std.proofs.Common.{◌≡◌, ◌∙◌, ◌+◌, ℕ, zero, suc, Bool, true, false, cond, List, [], ◌∷◌, ◌++◌, length, Option, Some, None, refl, sym, ap, ap₂, arith}
use Rattle.std.proofs.lemmas.List.{length-append}
use Rattle.sql_ast.specs.Names.{same_name}
use Rattle.sql_ast.specs.Syntax as s
use Rattle.sql_meaning.specs.Grouping.{is_grouped}
use Rattle.sql_meaning.specs.Groups.{is_distinct}
use Rattle.sql_meaning.specs.Names.{Relation, column_list, columns_of, item_names, items_names, list_names, names, range_name, renamed, shape, table_shape, under}
use Rattle.sql_meaning.specs.ResolvedTrees.{Values, Froms, Test}
use Rattle.sql_meaning.specs.ResolvedTrees as q
use Rattle.sql_meaning.specs.Scopes.{Shape, columns_in, columns_of_range, first_of}
use Rattle.sql_names.proofs.Named.{renamed_length}
use Rattle.sql_names.specs.Places.{Span, grouping_places, names_in, onward, outward, span_in, span_of}
use Rattle.sql_names.specs.Places as places
use Rattle.sql_names.specs.Resolved.{Columns, append, bare, columns_from}
use Rattle.sql_names.specs.Resolved as resolved
use Rattle.qgm_translation.specs.Sources.{Sources, from_width, froms_width, how_many_values, width}
use Rattle.qgm_translation_laws.specs.Buildable.{Counts}

-- ---- sums

nothing_and : (b : ℕ) → b ≡ 0 + b
nothing_and b = omega arith

one_and : (a b : ℕ) → suc (a + b) ≡ suc a + b
one_and a b = omega arith

and_nothing : (a : ℕ) → a + 0 ≡ a
and_nothing a = omega arith

together : (a b c : ℕ) → a + (b + c) ≡ (a + b) + c
together a b c = omega arith

-- ---- lists

append_width : (xs ys : Values) → how_many_values (append xs ys) ≡ how_many_values xs + how_many_values ys
append_width q.no_value ys = nothing_and (how_many_values ys)
append_width (q.one_value x xs) ys = ap suc (append_width xs ys) ∙ one_and (how_many_values xs) (how_many_values ys)

columns_width : (scope place n : ℕ) → how_many_values (columns_from scope place n) ≡ n
columns_width scope place zero = refl
columns_width scope place (suc n) = ap suc (columns_width scope (suc place) n)

-- ---- columns of a range

abbrev names_of_span : Option Span → Option (List (Option (List ℕ)))
names_of_span None = None
names_of_span (Some p) = Some p.columns

-- the names that were found, or else these
abbrev names_or : Option (List (Option (List ℕ))) → List (Option (List ℕ)) → List (Option (List ℕ))
names_or found rest = elim found as (λ _. List (Option (List ℕ))) [ Some names ↦ names | None ↦ rest ]

-- the columns of a range, from the first place on
abbrev at_first : List (Option (List ℕ)) → Span
at_first columns = record { scope = 0; first = 0; columns = columns }

onward_names : (n : ℕ) (o : Option Span) → names_of_span (onward n o) ≡ names_of_span o
onward_names n None = refl
onward_names n (Some p) = refl

outward_names : (o : Option Span) → names_of_span (outward o) ≡ names_of_span o
outward_names None = refl
outward_names (Some p) = refl

span_in_names : (name : List ℕ) (ranges : Shape) → names_of_span (span_in name ranges) ≡ columns_in name ranges
span_in_names name [] = refl
span_in_names name (range ∷ ranges) =
    elim (same_name range.0 name) as (λ b. names_of_span (cond b (Some (at_first range.1)) (onward (length range.1) (span_in name ranges))) ≡ cond b (Some range.1) (columns_in name ranges)) [
      | true ↦ refl
      | false ↦ onward_names (length range.1) (span_in name ranges) ∙ span_in_names name ranges
    ]

first_names : (a b : Option Span) → names_or (names_of_span (first_of a b)) [] ≡ names_or (names_of_span a) (names_or (names_of_span b) [])
first_names None b = refl
first_names (Some p) b = refl

span_names : (name : List ℕ) (shapes : List Shape) → names_or (names_of_span (span_of name shapes)) [] ≡ columns_of_range name shapes
span_names name [] = refl
span_names name (ranges ∷ shapes) =
    first_names (span_in name ranges) (outward (span_of name shapes))
    ∙ ap₂ (λ (found : Option (List (Option (List ℕ)))) (rest : List (Option (List ℕ))). names_or found rest) (span_in_names name ranges)
    (ap (λ (found : Option (List (Option (List ℕ)))). names_or found []) (outward_names (span_of name shapes)) ∙ span_names name shapes)

span_width : (o : Option Span) → how_many_values (resolved.columns_of o) ≡ length (names_or (names_of_span o) [])
span_width None = refl
span_width (Some p) = columns_width p.scope p.first (length p.columns)

-- ---- ranges

pub width_append : (a b : Shape) → places.width (a ++ b) ≡ places.width a + places.width b
width_append [] b = nothing_and (places.width b)
width_append (range ∷ a) b =
    length-append range.1 (names_in (a ++ b))
    ∙ ap (λ (n : ℕ). length range.1 + n) (width_append a b)
    ∙ together (length range.1) (places.width a) (places.width b)
    ∙ ap (λ (n : ℕ). n + places.width b) (sym (length-append range.1 (names_in a)))

one_width : (name : List ℕ) (columns : List (Option (List ℕ))) → places.width ((name, columns) ∷ []) ≡ length columns
one_width name columns = length-append columns [] ∙ and_nothing (length columns)

under_length : (list : List (List ℕ)) (o : Option Relation) → length (columns_of (under list o)) ≡ length (columns_of o)
under_length list None = refl
under_length list (Some table) = renamed_length list table.columns

-- ---- queries

-- a block's columns are those of its list
block_width : (b distinct : Bool) (list : Values) (from : Froms) (by : Test) (by_places : Option (List ℕ)) (n : ℕ) (having : Test)
    → width (cond b (q.grouped distinct list from by by_places n having) (q.block distinct list from by)) ≡ how_many_values list
block_width true distinct list from by by_places n having = refl
block_width false distinct list from by by_places n having = refl

module _ (columns : Columns) where
  item_width : (x : s.Item) (shapes : List Shape) → how_many_values (resolved.item columns shapes x) ≡ length (item_names x shapes)
  item_width (s.item x n) shapes = refl
  item_width (s.all_of name) shapes = span_width (span_of name shapes) ∙ ap length (span_names name shapes)

  items_width : (xs : s.Items) (shapes : List Shape) → how_many_values (resolved.items columns shapes xs) ≡ length (items_names xs shapes)
  items_width s.no_item shapes = refl
  items_width (s.one_item x xs) shapes =
      append_width (resolved.item columns shapes x) (resolved.items columns shapes xs) ∙ ap₂ ◌+◌ (item_width x shapes) (items_width xs shapes)
      ∙ sym (length-append (item_names x shapes) (items_names xs shapes))

  list_width : (list : s.SelectList) (ranges : Shape) (shapes : List Shape) → how_many_values (resolved.list columns (ranges ∷ shapes) list) ≡ length (list_names list ranges shapes)
  list_width s.star ranges shapes = columns_width 0 0 (places.width ranges)
  list_width (s.items xs) ranges shapes = items_width xs (ranges ∷ shapes)

  pub query_width : (x : s.Query) (shapes : List Shape) → width (resolved.query columns shapes x) ≡ length (names (bare columns) x shapes)
  query_width (s.block each list from by group having) shapes =
      block_width (is_grouped list group having) (is_distinct each) (resolved.list columns (shape (bare columns) from shapes ∷ shapes) list) (resolved.froms columns shapes from)
      (resolved.filter columns (shape (bare columns) from shapes ∷ shapes) by) (grouping_places group (shape (bare columns) from shapes)) (places.width (shape (bare columns) from shapes))
      (resolved.filter columns (shape (bare columns) from shapes ∷ shapes) having)
      ∙ list_width list (shape (bare columns) from shapes) shapes
  query_width (s.enclosed x) shapes = query_width x shapes
  query_width (s.combine x op all y) shapes = refl
  query_width (s.intersect x all y) shapes = refl

  -- ---- FROM

  module _ (sources : Sources) (counted : Counts sources columns) where
    pub table_width : (x : s.TableRef) (shapes : List Shape) → from_width sources (resolved.table columns shapes x) ≡ places.width (table_shape (bare columns) x shapes)
    table_width (s.join x inner y p) shapes = ap₂ ◌+◌ (table_width x shapes) (table_width y shapes) ∙ sym (width_append (table_shape (bare columns) x shapes) (table_shape (bare columns) y shapes))
    table_width (s.left_join x outer y p) shapes =
        ap (λ (n : ℕ). n + places.width (table_shape (bare columns) y shapes)) (table_width x shapes) ∙ sym (width_append (table_shape (bare columns) x shapes) (table_shape (bare columns) y shapes))
    table_width (s.cross_join x y) shapes = ap₂ ◌+◌ (table_width x shapes) (table_width y shapes) ∙ sym (width_append (table_shape (bare columns) x shapes) (table_shape (bare columns) y shapes))
    table_width (s.named name c) shapes =
        counted name ∙ sym (under_length (column_list c) (bare columns name)) ∙ sym (one_width (range_name name c) (columns_of (under (column_list c) (bare columns name))))
    table_width (s.derived x c) shapes =
        query_width x shapes ∙ sym (renamed_length c.columns (names (bare columns) x shapes)) ∙ sym (one_width c.name (renamed c.columns (names (bare columns) x shapes)))
    table_width (s.joined x) shapes = table_width x shapes

    pub tables_width : (xs : s.TableRefs) (shapes : List Shape) → froms_width sources (resolved.froms columns shapes xs) ≡ places.width (shape (bare columns) xs shapes)
    tables_width s.no_table shapes = refl
    tables_width (s.one_table x xs) shapes = ap₂ ◌+◌ (table_width x shapes) (tables_width xs shapes) ∙ sym (width_append (table_shape (bare columns) x shapes) (shape (bare columns) xs shapes))
