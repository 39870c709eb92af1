-- The columns of a range, those of a FROM, those of GROUP BY, and those that an aggregate's argument sees, have the types that the checks give them.
use Rattle.std.proofs.Common.{◌≡◌, ◌∙◌, ◌+◌, ◌<◌, ℕ, zero, suc, Bool, true, false, cond, List, [], ◌∷◌, get_or, length, map, Option, Some, None, refl, sym, ap, ap₂, subst, arith}
use Rattle.std.specs.Prelude.{All}
use Rattle.std.specs.List.{flat_map, list_any}
use Rattle.std.proofs.lemmas.List.{length-append, length-map}
use Rattle.sql_ast.specs.declared.name.Column.{Column}
use Rattle.sql_meaning.specs.Scopes.{Shape, first_of}
use Rattle.sql_value.specs.declared.order_key.SqlType.{SqlType}
use Rattle.sql_names.specs.Places.{Span, columns_in, grouping_places, means, names_in, outward, places_meant, span_of, width}
use Rattle.sql_names.specs.Resolved.{columns_from}
use Rattle.sql_names.specs.Resolved as resolved
use Rattle.sql_faults.proofs.Lookups.{range_once, range_stands, star_once, visible_of}
use Rattle.sql_catalog.proofs.EachLaws.{Each, each_append, each_of_all}
use Rattle.sql_faults.proofs.Named.{in_shape, names_of_range, names_or}
use Rattle.sql_faults.specs.Columns.{all_columns, range_columns}
use Rattle.sql_faults.specs.FoundNames.{AllMayBeNamed, MayBeNamed, StandsRange}
use Rattle.sql_faults.specs.Laws.{column_names, range_shapes, shapes}
use Rattle.sql_faults.specs.Rules.{one_of}
use Rattle.sql_faults.specs.Scopes.{Scope, Scopes, columns_of_scope, first_type, is_found_barred, is_own, is_range_barred, is_some, is_star_barred, meant, plain, range_in, range_of, range_of_scope, released, scope_of, scope_with}
use Rattle.sql_faults.specs.declared.column.TypedColumn.{TypedColumn}
use Rattle.sql_faults.specs.declared.column.TypedRange.{TypedRange}
use Rattle.qgm_translation_laws.specs.Typed.{AreOf, ArePlaces, open_scope}
use Rattle.qgm_translation_laws.specs.Typed as t
use Rattle.qgm_translation.specs.Shown.{key_places}
use Rattle.qgm_translation_laws.proofs.Cells.{AllSee, NameIs, Sees, Slice, known_at, own_is, shown, slice_at}
use Rattle.qgm_translation_laws.proofs.Lookups.{Listed, find_span, listed_by, no_span}
use Rattle.qgm_translation_laws.proofs.Runs.{Run, run_all}
use Rattle.qgm_translation_laws.proofs.Stated.{HaveTypes, have_length, stated}

-- ---- widths

listed_width : (rs : List TypedRange) → length (columns_in (range_shapes rs)) ≡ length (all_columns rs)
listed_width [] = refl
listed_width (r ∷ rs) =
    length-append (listed_by r.name (column_names r.columns)) (columns_in (range_shapes rs))
    ∙ ap₂ (λ (a b : ℕ). a + b) (length-map (column_names r.columns) (λ (column : Option (List ℕ)). (r.name, column)) ∙ length-map r.columns (λ (c : TypedColumn). c.name)) (listed_width rs)
    ∙ sym (length-append r.columns (all_columns rs))

pub row_width : (rs : List TypedRange) → width (range_shapes rs) ≡ length (all_columns rs)
row_width [] = refl
row_width (r ∷ rs) =
    length-append (column_names r.columns) (names_in (range_shapes rs))
    ∙ ap₂ (λ (a b : ℕ). a + b) (length-map r.columns (λ (c : TypedColumn). c.name)) (row_width rs)
    ∙ sym (length-append r.columns (all_columns rs))

-- ---- columns that may be named

each_listed : (by : Option (List Column)) (range : List ℕ) (names : List (Option (List ℕ))) → Each (MayBeNamed by range) names → Each (λ (e : Listed). MayBeNamed by e.0 e.1) (listed_by range names)
each_listed by range [] h = tt
each_listed by range (name ∷ names) h = (h.0, each_listed by range names h.1)

all_listed : (by : Option (List Column)) (rs : List TypedRange) → Each (AllMayBeNamed by) (range_shapes rs) → Each (λ (e : Listed). MayBeNamed by e.0 e.1) (columns_in (range_shapes rs))
all_listed by [] h = tt
all_listed by (r ∷ rs) h =
    each_append (λ (e : Listed). MayBeNamed by e.0 e.1) (listed_by r.name (column_names r.columns)) (columns_in (range_shapes rs))
    (each_listed by r.name (column_names r.columns) (each_of_all (MayBeNamed by r.name) (column_names r.columns) h.0)) (all_listed by rs h.1)

range_shows : (name : List ℕ) (s : Scope) (r : TypedRange) → range_in name s.ranges ≡ Some r → is_found_barred s.grouping (range_in name s.ranges) ≡ false → Each (MayBeNamed s.grouping name) (column_names r.columns)
range_shows name s r e k =
    let there : is_some (range_in name s.ranges) ≡ true = ap is_some e in
    let stands : StandsRange name (Some (visible_of s)) =
    subst (λ (b : Bool). StandsRange name (cond b (Some (visible_of s)) None)) (range_stands name s.ranges ∙ there)
    (range_once name (s ∷ []) (ap (λ (b : Bool). is_some (cond b (Some s) None)) there) (subst (λ (b : Bool). is_star_barred name (cond b (Some s) None) ≡ false) (sym there) k)) in
    each_of_all (MayBeNamed s.grouping name) (column_names r.columns)
    (subst (λ (found : Option (List (Option (List ℕ)))). All (MayBeNamed s.grouping name) (names_or found [])) (in_shape name s.ranges ∙ ap names_of_range e) stands)

-- ---- values

module _ (kinds : List ℕ → List SqlType) (rows : Option t.Scope) where
  values_are : (cells : List t.Scope) (scope first n : ℕ) (types : List SqlType) → n ≡ length types → Slice (get_or cells scope []) first types → AreOf kinds rows cells (columns_from scope first n) types
  values_are cells scope first zero [] e h = refl
  values_are cells scope first zero (u ∷ types) e h = absurd (omega (arith, e))
  values_are cells scope first (suc n) [] e h = absurd (omega (arith, e))
  values_are cells scope first (suc n) (u ∷ types) e h = (h.0, values_are cells scope (suc first) n types (omega (arith, e)) h.1)

  values_outward : (cell : t.Scope) (cells : List t.Scope) (scope first n : ℕ) (types : List SqlType) → AreOf kinds rows cells (columns_from scope first n) types → AreOf kinds rows (cell ∷ cells) (columns_from (suc scope) first n) types
  values_outward cell cells scope first zero types h = h
  values_outward cell cells scope first (suc n) [] h = absurd h
  values_outward cell cells scope first (suc n) (u ∷ types) h = (h.0, values_outward cell cells scope (suc first) n types h.1)

  span_outward : (cell : t.Scope) (cells : List t.Scope) (o : Option Span) (types : List SqlType) → AreOf kinds rows cells (resolved.columns_of o) types → AreOf kinds rows (cell ∷ cells) (resolved.columns_of (outward o)) types
  span_outward cell cells None types h = h
  span_outward cell cells (Some p) types h = values_outward cell cells p.scope p.first (length p.columns) types h

  -- `r.*`
  abbrev pub RangeIs : List ℕ → Scopes → List Shape → List t.Scope → Type 0
  RangeIs name scopes any cells = (types : List SqlType) × (HaveTypes (range_columns (range_of name scopes)) types × AreOf kinds rows cells (resolved.columns_of (span_of name any)) types)

  -- types of the columns of a range that stand in its row
  range_types : (cs : List TypedColumn) (first : ℕ) (row : List SqlType) → Run (open_scope row) first (stated cs) → (types : List SqlType) × HaveTypes cs types
  range_types [] first row h = ([], refl)
  range_types (c ∷ cs) first row h =
      let one = known_at row first c.sort h.0 in
      let rest = range_types cs (suc first) row h.1 in
      (one.0 ∷ rest.0, ap₂ (λ (o : Option SqlType) (os : List (Option SqlType)). o ∷ os) one.1 rest.1)

  own_range : (name : List ℕ) (s : Scope) (outer : List Shape) (cell : t.Scope) (cells : List t.Scope) → Sees s cell → (r : TypedRange) → range_in name s.ranges ≡ Some r → is_found_barred s.grouping (range_in name s.ranges) ≡ false
      → (types : List SqlType) × (HaveTypes r.columns types × AreOf kinds rows (cell ∷ cells) (resolved.columns_of (span_of name (range_shapes s.ranges ∷ outer))) types)
  own_range name s outer cell cells sees r e k =
      let span = find_span name s.ranges r e in
      let run : Run (open_scope sees.row) span.0 (stated r.columns) = subst (λ (z : List (Option SqlType)). Run z span.0 (stated r.columns)) sees.types span.1.1.0 in
      let types = range_types r.columns span.0 sees.row run in
      let many : length (column_names r.columns) ≡ length types.0 = length-map r.columns (λ (c : TypedColumn). c.name) ∙ sym (have_length r.columns types.0 types.1) in
      let may : Each (λ (e : Listed). MayBeNamed s.grouping e.0 e.1) (listed_by r.name (column_names r.columns)) =
      each_listed s.grouping r.name (column_names r.columns) (subst (λ (z : List ℕ). Each (MayBeNamed s.grouping z) (column_names r.columns)) (sym span.1.2) (range_shows name s r e k)) in
      let slice : Slice (shown s.grouping (range_shapes s.ranges) sees.row) span.0 types.0 =
      slice_at s.grouping (range_shapes s.ranges) sees.row span.0 types.0 (listed_by r.name (column_names r.columns))
      (length-map (column_names r.columns) (λ (column : Option (List ℕ)). (r.name, column)) ∙ many) (subst (Run (open_scope sees.row) span.0) types.1 run) span.1.1.1 may in (
        types.0,
        (
          types.1,
          subst (λ (o : Option Span). AreOf kinds rows (cell ∷ cells) (resolved.columns_of (first_of o (outward (span_of name outer)))) types.0) (sym span.1.0)
              (values_are (cell ∷ cells) 0 span.0 (length (column_names r.columns)) types.0 many (subst (λ (z : t.Scope). Slice z span.0 types.0) (sym sees.shows) slice)),
        ),
      )

  pub range_is : (name : List ℕ) (scopes : Scopes) (cells : List t.Scope) → AllSee scopes cells → is_some (scope_with name scopes) ≡ true → is_star_barred name (scope_with name scopes) ≡ false → RangeIs name scopes (shapes scopes) cells
  range_is name [] cells sees h k = absurd (cc)
  range_is name (s ∷ scopes) [] sees h k = absurd sees
  range_is name (s ∷ scopes) (cell ∷ cells) sees h k = at (range_in name s.ranges) refl h k (range_is name scopes cells sees.1)
    where
      at : (o : Option TypedRange) → range_in name s.ranges ≡ o → is_some (cond (is_some o) (Some s) (scope_with name scopes)) ≡ true → is_star_barred name (cond (is_some o) (Some s) (scope_with name scopes)) ≡ false
          → (is_some (scope_with name scopes) ≡ true → is_star_barred name (scope_with name scopes) ≡ false → RangeIs name scopes (shapes scopes) cells) → RangeIs name (s ∷ scopes) (shapes (s ∷ scopes)) (cell ∷ cells)
      at (Some r) e h k later =
          let own = own_range name s (shapes scopes) cell cells sees.0 r e k in (
            own.0,
            (
              subst (λ (found : Option TypedRange). HaveTypes (range_columns (range_of_scope name (cond (is_some found) (Some s) (scope_with name scopes)))) own.0) (sym e)
                  (subst (λ (found : Option TypedRange). HaveTypes (range_columns found) own.0) (sym e) own.1.0),
              own.1.1,
            ),
          )
      at None e h k later =
          let out = later h k in (
            out.0,
            (
              subst (λ (found : Option TypedRange). HaveTypes (range_columns (range_of_scope name (cond (is_some found) (Some s) (scope_with name scopes)))) out.0) (sym e) out.1.0,
              subst (λ (o : Option Span). AreOf kinds rows (cell ∷ cells) (resolved.columns_of (first_of o (outward (span_of name (shapes scopes))))) out.0) (sym (no_span name s.ranges (ap is_some e)))
                  (span_outward cell cells (span_of name (shapes scopes)) out.0 out.1.1),
            ),
          )

  -- `*`
  pub star_is : (s : Scope) (cell : t.Scope) (cells : List t.Scope) (sees : Sees s cell) → list_any (is_range_barred s.grouping) s.ranges ≡ false → AreOf kinds rows (cell ∷ cells) (columns_from 0 0 (width (range_shapes s.ranges))) sees.row
  star_is s cell cells sees h =
      let many : length (all_columns s.ranges) ≡ length sees.row = sym (have_length (all_columns s.ranges) sees.row sees.types) in
      let may : Each (λ (e : Listed). MayBeNamed s.grouping e.0 e.1) (columns_in (range_shapes s.ranges)) = all_listed s.grouping s.ranges (each_of_all (AllMayBeNamed s.grouping) (range_shapes s.ranges) (star_once s [] h)) in
      let slice : Slice (shown s.grouping (range_shapes s.ranges) sees.row) 0 sees.row =
      slice_at s.grouping (range_shapes s.ranges) sees.row 0 sees.row (columns_in (range_shapes s.ranges)) (listed_width s.ranges ∙ many) (run_all (open_scope sees.row)) (run_all (columns_in (range_shapes s.ranges))) may in
      values_are (cell ∷ cells) 0 0 (width (range_shapes s.ranges)) sees.row (row_width s.ranges ∙ many) (subst (λ (z : t.Scope). Slice z 0 sees.row) (sym sees.shows) slice)

-- ---- an aggregate's argument

pub argument_name : (kinds : List ℕ → List SqlType) (s : Scope) (scopes : Scopes) (cell : t.Scope) → Sees (plain s.ranges) cell → (c : Column) → one_of (meant c (released (s ∷ scopes))) ≡ 0 → is_own c (released (s ∷ scopes)) ≡ true
    → NameIs kinds None c (released (s ∷ scopes)) (range_shapes s.ranges ∷ []) (cell ∷ [])
argument_name kinds s scopes cell sees c h own =
    let found = own_is kinds None c (plain s.ranges) [] cell [] sees own (subst (λ (b : Bool). one_of (columns_of_scope c (cond b (Some (plain s.ranges)) (scope_of c (released scopes)))) ≡ 0) own h) refl in (
      found.0,
      (ap (λ (b : Bool). first_type (columns_of_scope c (cond b (Some (plain s.ranges)) (scope_of c (released scopes))))) own ∙ found.1.0, found.1.1),
    )

-- ---- GROUP BY

below_more : (n : ℕ) (places : List ℕ) → Each (λ (place : ℕ). place < n) places → Each (λ (place : ℕ). place < suc n) (map suc places)
below_more n [] h = tt
below_more n (place ∷ places) h = (let low = h.0 in omega (arith, low), below_more n places h.1)

meant_below : (d : Column) (columns : List Listed) → Each (λ (place : ℕ). place < length columns) (places_meant d columns)
meant_below d [] = tt
meant_below d (x ∷ columns) =
    each_append (λ (place : ℕ). place < length (x ∷ columns)) (cond (means d x) (0 ∷ []) []) (map suc (places_meant d columns))
    (elim (means d x) as (λ b. Each (λ (place : ℕ). place < length (x ∷ columns)) (cond b (0 ∷ []) [])) [ true ↦ (omega arith, tt) | false ↦ tt ])
    (below_more (length columns) (places_meant d columns) (meant_below d columns))

all_below : (by : List Column) (columns : List Listed) → Each (λ (place : ℕ). place < length columns) (flat_map (λ (d : Column). places_meant d columns) by)
all_below [] columns = tt
all_below (d ∷ by) columns = each_append (λ (place : ℕ). place < length columns) (places_meant d columns) (flat_map (λ (c : Column). places_meant c columns) by) (meant_below d columns) (all_below by columns)

type_at : (row : List SqlType) (place : ℕ) → place < length row → (u : SqlType) × (get_or (open_scope row) place None ≡ Some u)
type_at [] place h = absurd (omega (arith, h))
type_at (u ∷ row) zero h = (u, refl)
type_at (u ∷ row) (suc place) h = type_at row place (omega (arith, h))

found_all : (row : List SqlType) (places : List ℕ) → Each (λ (place : ℕ). place < length row) places → ArePlaces (open_scope row) places
found_all row [] h = tt
found_all row (place ∷ places) h =
    let one = type_at row place h.0 in
    (one.0, (one.1, found_all row places h.1))

pub keys_found : (by : List Column) (rs : List TypedRange) (row : List SqlType) → HaveTypes (all_columns rs) row → ArePlaces (open_scope row) (key_places (grouping_places by (range_shapes rs)))
keys_found [] rs row h = tt
keys_found (c ∷ by) rs row h =
    found_all row (flat_map (λ (d : Column). places_meant d (columns_in (range_shapes rs))) (c ∷ by))
    (subst (λ (n : ℕ). Each (λ (place : ℕ). place < n) (flat_map (λ (d : Column). places_meant d (columns_in (range_shapes rs))) (c ∷ by))) (listed_width rs ∙ sym (have_length (all_columns rs) row h)) (all_below (c ∷ by) (columns_in (range_shapes rs))))
