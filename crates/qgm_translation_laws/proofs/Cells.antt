-- What a name stands for has the type that the checks give it, at its place.
use Rattle.std.proofs.Common.{◌≡◌, ◌∙◌, ◌+◌, ◌||◌, ℕ, zero, suc, nat_eq, Bool, true, false, cond, List, [], ◌∷◌, ◌++◌, get_or, length, map, Option, Some, None, refl, sym, ap, subst, arith, inl, inr}
use Rattle.std.specs.Prelude.{⊤}
use Rattle.std.specs.List.{flat_map, list_any}
use Rattle.std.proofs.lemmas.Bool.{cases_Bool, eq-eqb, eqb-true, or_right}
use Rattle.sql_ast.specs.declared.name.Column.{Column}
use Rattle.sql_meaning.specs.Scopes.{Shape}
use Rattle.sql_value.specs.declared.order_key.SqlType.{SqlType}
use Rattle.sql_names.specs.Places.{columns_in, grouping_places, means, place_of, place_outward, places_meant}
use Rattle.sql_names.specs.Resolved.{column_at}
use Rattle.sql_faults.proofs.Lookups.{SoundGrouping, column_once, visible_of}
use Rattle.sql_catalog.proofs.EachLaws.{Each}
use Rattle.sql_faults.specs.Columns.{all_columns}
use Rattle.sql_faults.specs.FoundNames.{IsOne, MayBeNamed, StandsOnce, bearers, stands}
use Rattle.sql_faults.specs.Laws.{range_shapes, shapes}
use Rattle.sql_faults.specs.Rules.{one_of}
use Rattle.sql_faults.specs.Scopes.{Scope, Scopes, columns_of_scope, first_type, is_empty, is_meant, is_name_barred, meant, scope_of}
use Rattle.sql_faults.specs.Scopes as checked
use Rattle.sql_faults.specs.declared.column.TypedColumn.{TypedColumn}
use Rattle.sql_faults.specs.declared.column.TypedRange.{TypedRange}
use Rattle.qgm_translation_laws.proofs.Tests.{any_left, any_right}
use Rattle.qgm_translation_laws.specs.Typed.{IsOf, is_among, keyed, open_scope}
use Rattle.qgm_translation_laws.specs.Typed as t
use Rattle.qgm_translation.specs.Shown.{key_places}
use Rattle.qgm_translation_laws.proofs.Lookups.{Listed, find_column, pass_column}
use Rattle.qgm_translation_laws.proofs.Runs.{Run, Stands, stands_get}
use Rattle.qgm_translation_laws.proofs.Stated.{HaveTypes}

-- ---- what a scope shows

-- all columns of a FROM, or over groups those of its GROUP BY
abbrev pub shown : Option (List Column) → Shape → List SqlType → t.Scope
shown None ranges row = open_scope row
shown (Some by) ranges row = keyed (key_places (grouping_places by ranges)) 0 row

abbrev pub HasColumn : TypedRange → Type 0
HasColumn r = is_empty r.columns ≡ false

-- the columns of a scope have known types, each range has one, and each column of its GROUP BY is one of it
pub record Sees (s : Scope) (cells : t.Scope) : Type 0 where
  pub row : List SqlType
  pub types : HaveTypes (all_columns s.ranges) row
  pub shows : cells ≡ shown s.grouping (range_shapes s.ranges) row
  pub full : Each HasColumn s.ranges
  pub sound : SoundGrouping s.grouping (range_shapes s.ranges)

abbrev pub AllSee : Scopes → List t.Scope → Type 0
AllSee [] [] = ⊤
AllSee [] (cell ∷ cells) = ⊥
AllSee (s ∷ scopes) [] = ⊥
AllSee (s ∷ scopes) (cell ∷ cells) = Sees s cell × AllSee scopes cells

-- ---- places of GROUP BY

-- a place among others is one of them, and the other way round
among_more : (place : ℕ) (places : List ℕ) → is_among place places ≡ true → is_among (suc place) (map suc places) ≡ true
among_more place [] h = absurd (cc)
among_more place (p ∷ places) h = elim (cases_Bool (nat_eq place p)) [
  | inl e ↦ ap (λ (b : Bool). b || is_among (suc place) (map suc places)) (eq-eqb (suc place) (suc p) (ap suc (eqb-true place p e)))
  | inr e ↦ or_right (nat_eq (suc place) (suc p)) (is_among (suc place) (map suc places)) (among_more place places (sym (ap (λ (b : Bool). b || is_among place places) e) ∙ h))
]

meant_at : (d : Column) (columns : List Listed) (place : ℕ) (e : Listed) → Stands columns place e → means d e ≡ true → is_among place (places_meant d columns) ≡ true
meant_at d [] place e h k = absurd h
meant_at d (x ∷ columns) zero e h k =
    ap (λ (b : Bool). is_among 0 (cond b (0 ∷ []) [] ++ map suc (places_meant d columns))) (ap (means d) h ∙ k)
    ∙ ap (λ (b : Bool). b || is_among 0 (map suc (places_meant d columns))) (eq-eqb 0 0 refl)
meant_at d (x ∷ columns) (suc place) e h k =
    any_right (nat_eq (suc place)) (cond (means d x) (0 ∷ []) []) (map suc (places_meant d columns)) (among_more place (places_meant d columns) (meant_at d columns place e h k))

grouped_at : (by : List Column) (columns : List Listed) (place : ℕ) (e : Listed) → Stands columns place e → list_any (λ (d : Column). means d e) by ≡ true
    → is_among place (flat_map (λ (d : Column). places_meant d columns) by) ≡ true
grouped_at [] columns place e h k = absurd (cc)
grouped_at (d ∷ by) columns place e h k = elim (cases_Bool (means d e)) [
  | inl m ↦ any_left (nat_eq place) (places_meant d columns) (flat_map (λ (c : Column). places_meant c columns) by) (meant_at d columns place e h m)
  | inr m ↦ any_right (nat_eq place) (places_meant d columns) (flat_map (λ (c : Column). places_meant c columns) by)
      (grouped_at by columns place e h (sym (ap (λ (b : Bool). b || list_any (λ (c : Column). means c e) by) m) ∙ k))
]

among_same : (m n : ℕ) (places : List ℕ) → m ≡ n → is_among m places ≡ true → is_among n places ≡ true
among_same m n places e h = subst (λ (k : ℕ). is_among k places ≡ true) e h

keyed_at : (places : List ℕ) (i : ℕ) (row : List SqlType) (place : ℕ) → is_among (place + i) places ≡ true → get_or (keyed places i row) place None ≡ get_or (open_scope row) place None
keyed_at places i [] place h = refl
keyed_at places i (u ∷ row) zero h = ap (λ (b : Bool). cond b (Some u) None) (among_same (0 + i) i places (omega arith) h)
keyed_at places i (u ∷ row) (suc place) h = keyed_at places (i + 1) row place (among_same (suc place + i) (place + (i + 1)) places (omega arith) h)

-- a column that may be named has its type
pub cell_at : (by : Option (List Column)) (ranges : Shape) (row : List SqlType) (place : ℕ) (u : SqlType) (e : Listed) → Stands (open_scope row) place (Some u) → Stands (columns_in ranges) place e → MayBeNamed by e.0 e.1
    → get_or (shown by ranges row) place None ≡ Some u
cell_at None ranges row place u e h k m = stands_get (open_scope row) place (Some u) h
cell_at (Some []) ranges row place u e h k m = absurd (cc)
cell_at (Some (c ∷ by)) ranges row place u e h k m =
    keyed_at (flat_map (λ (d : Column). places_meant d (columns_in ranges)) (c ∷ by)) 0 row place
    (among_same place (place + 0) (flat_map (λ (d : Column). places_meant d (columns_in ranges)) (c ∷ by)) (omega arith) (grouped_at (c ∷ by) (columns_in ranges) place e k m))
    ∙ stands_get (open_scope row) place (Some u) h

-- so have columns side by side
abbrev pub Slice : t.Scope → ℕ → List SqlType → Type 0
Slice cells first [] = ⊤
Slice cells first (u ∷ types) = (get_or cells first None ≡ Some u) × Slice cells (suc first) types

pub slice_at : (by : Option (List Column)) (ranges : Shape) (row : List SqlType) (first : ℕ) (types : List SqlType) (es : List Listed) → length es ≡ length types → Run (open_scope row) first (open_scope types) → Run (columns_in ranges) first es
    → Each (λ (e : Listed). MayBeNamed by e.0 e.1) es → Slice (shown by ranges row) first types
slice_at by ranges row first [] es n h k m = tt
slice_at by ranges row first (u ∷ types) [] n h k m = absurd (omega (arith, n))
slice_at by ranges row first (u ∷ types) (e ∷ es) n h k m = (cell_at by ranges row first u e h.0 k.0 m.0, slice_at by ranges row (suc first) types es (omega (arith, n)) h.1 k.1 m.1)

-- ---- a column's name

pub known_at : (row : List SqlType) (place : ℕ) (o : Option SqlType) → Stands (open_scope row) place o → (u : SqlType) × (o ≡ Some u)
known_at [] place o h = absurd h
known_at (u ∷ row) zero o h = (u, sym h)
known_at (u ∷ row) (suc place) o h = known_at row place o h

lone : (cs : List TypedColumn) → one_of cs ≡ 0 → (d : TypedColumn) × (cs ≡ d ∷ [])
lone [] h = absurd (cc)
lone (d ∷ []) h = (d, refl)
lone (d ∷ c ∷ cs) h = absurd (cc)

-- its range may show it
may_show : (c : Column) (s : Scope) → SoundGrouping s.grouping (range_shapes s.ranges) → is_meant c s.ranges ≡ true → one_of (checked.columns_in c s.ranges) ≡ 0 → is_name_barred c (Some s) ≡ false → IsOne s.grouping c.name (bearers c.range c.name (range_shapes s.ranges))
may_show c s sound e h k =
    elim (stands c.range c.name (range_shapes s.ranges)) as (λ b. StandsOnce c.range c.name (cond b (Some (visible_of s)) None) → IsOne s.grouping c.name (bearers c.range c.name (range_shapes s.ranges))) [
      | true ↦ (λ k. k)
      | false ↦ (λ k. absurd k)
    ]
    (column_once c (s ∷ []) (sound, tt) (subst (λ (b : Bool). one_of (columns_of_scope c (cond b (Some s) None)) ≡ 0) (sym e) h) (subst (λ (b : Bool). is_name_barred c (cond b (Some s) None) ≡ false) (sym e) k))

one_bearer : (by : Option (List Column)) (name : List ℕ) (bs : List (List ℕ)) → IsOne by name bs → (one : List ℕ) × ((bs ≡ one ∷ []) × MayBeNamed by one (Some name))
one_bearer by name [] h = absurd h
one_bearer by name (one ∷ []) h = (one, (refl, h))
one_bearer by name (one ∷ other ∷ bs) h = absurd h

module _ (kinds : List ℕ → List SqlType) (rows : Option t.Scope) where
  -- a column's name stands for a column of the type of the first that it may mean
  abbrev pub NameIs : Column → Scopes → List Shape → List t.Scope → Type 0
  NameIs c scopes any cells = (u : SqlType) × ((first_type (meant c scopes) ≡ Some u) × IsOf kinds rows cells (column_at (place_of c.range c.name any)) u)

  pub own_is : (c : Column) (s : Scope) (outer : List Shape) (cell : t.Scope) (cells : List t.Scope) → Sees s cell → is_meant c s.ranges ≡ true → one_of (checked.columns_in c s.ranges) ≡ 0 → is_name_barred c (Some s) ≡ false
      → (u : SqlType) × ((first_type (checked.columns_in c s.ranges) ≡ Some u) × IsOf kinds rows (cell ∷ cells) (column_at (place_of c.range c.name (range_shapes s.ranges ∷ outer))) u)
  own_is c s outer cell cells sees e h k =
      let one = lone (checked.columns_in c s.ranges) h in
      let found = find_column c.range c.name s.ranges outer one.0 [] one.1 in
      let here_is : Stands (open_scope sees.row) found.0 one.0.sort = subst (λ (z : List (Option SqlType)). Stands z found.0 one.0.sort) sees.types found.1.1.1.0 in
      let type = known_at sees.row found.0 one.0.sort here_is in
      let bears = one_bearer s.grouping c.name (bearers c.range c.name (range_shapes s.ranges)) (may_show c s sees.sound e h k) in
      let may : MayBeNamed s.grouping found.1.0 (Some c.name) = subst (λ (z : List ℕ). MayBeNamed s.grouping z (Some c.name)) (sym (found.1.1.2 bears.0 bears.1.0)) bears.1.1 in
      let cell_is : get_or (shown s.grouping (range_shapes s.ranges) sees.row) found.0 None ≡ Some type.0 =
      cell_at s.grouping (range_shapes s.ranges) sees.row found.0 type.0 (found.1.0, Some c.name) (subst (Stands (open_scope sees.row) found.0) type.1 here_is) found.1.1.1.1 may in (
        type.0,
        (
          ap first_type one.1 ∙ type.1,
          subst (λ o. IsOf kinds rows (cell ∷ cells) (column_at o) type.0) (sym found.1.1.0) (ap (λ (z : t.Scope). get_or z found.0 None) sees.shows ∙ cell_is),
        ),
      )

  pub name_is : (c : Column) (scopes : Scopes) (cells : List t.Scope) → AllSee scopes cells → one_of (meant c scopes) ≡ 0 → is_name_barred c (scope_of c scopes) ≡ false → NameIs c scopes (shapes scopes) cells
  name_is c [] cells sees h k = absurd (cc)
  name_is c (s ∷ scopes) [] sees h k = absurd sees
  name_is c (s ∷ scopes) (cell ∷ cells) sees h k = at (is_meant c s.ranges) refl h k (name_is c scopes cells sees.1)
    where
      at : (b : Bool) → is_meant c s.ranges ≡ b → one_of (columns_of_scope c (cond b (Some s) (scope_of c scopes))) ≡ 0 → is_name_barred c (cond b (Some s) (scope_of c scopes)) ≡ false
          → (one_of (meant c scopes) ≡ 0 → is_name_barred c (scope_of c scopes) ≡ false → NameIs c scopes (shapes scopes) cells) → NameIs c (s ∷ scopes) (shapes (s ∷ scopes)) (cell ∷ cells)
      at true e h k later =
          let own = own_is c s (shapes scopes) cell cells sees.0 e h k in
          (own.0, (ap (λ (b : Bool). first_type (columns_of_scope c (cond b (Some s) (scope_of c scopes)))) e ∙ own.1.0, own.1.1))
      at false e h k later =
          let out = later h k in (
            out.0,
            (
              ap (λ (b : Bool). first_type (columns_of_scope c (cond b (Some s) (scope_of c scopes)))) e ∙ out.1.0,
              subst (λ o. IsOf kinds rows (cell ∷ cells) (column_at o) out.0) (sym (pass_column c.range c.name s.ranges (shapes scopes) e))
                  (elim (place_of c.range c.name (shapes scopes)) as (λ o. IsOf kinds rows cells (column_at o) out.0 → IsOf kinds rows (cell ∷ cells) (column_at (place_outward o)) out.0) [
                    | None ↦ (λ z. z)
                    | Some p ↦ (λ z. z)
                  ] out.1.1),
            ),
          )
