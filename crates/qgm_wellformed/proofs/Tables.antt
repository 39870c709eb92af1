-- Types as they are looked up by places, and tables of types that stay.
use Rattle.std.proofs.Common.{ℕ, zero, suc, ◌==◌, ◌≡◌, ◌+◌, ◌-◌, ◌≤◌, ◌||◌, cond, nat_eq, true, false, List, [], ◌∷◌, map, length, Option, Some, None, slice_get, refl, sym, ap, ◌∙◌, eqb-true, ◌⊎◌, inl, inr, arith, add-one}
use mathlib.Core.Path.{fun_ext}
use Rattle.std.specs.HashMap.{HashMap, get}
use Rattle.std.specs.List.{list_any}
use Rattle.std.proofs.lemmas.Bool.{and_parts, cases_Bool}
use Rattle.sql_value.specs.declared.order_key.SqlType.{SqlType}
use Rattle.sql_value.specs.declared.order_key.SqlType.TheVariants.{Integer, Varchar}
use Rattle.qgm_core.specs.Boxes.{is_box, is_quant, owns, range_in}
use Rattle.list_laws.specs.Lists.{first}
use Rattle.qgm_core.specs.declared.node.Node.{Node}
use Rattle.qgm_core.specs.declared.owned.OwnedQuant.{OwnedQuant}
use Rattle.qgm_wellformed.specs.Columns.{box_under, over_box}
use Rattle.qgm_wellformed.specs.Places.{ArePlaces, place_in, place_or, rank_in}
use Rattle.qgm_wellformed.specs.Types.{Lookup, column_type, is_typed, lookup_of, row_at, same_columns, same_tables, same_type, same_typed, type_at, type_found, type_in, typed, typed_by, types_after, types_agree, types_agree_at, types_of}
use Rattle.qgm_wellformed.specs.declared.types.Typed.{Typed}

-- ---- tables that are the same

same-type : (a b : Option SqlType) → same_type a b ≡ true → a ≡ b
same-type None None h = refl
same-type None (Some b) h = absurd (let z : ⊥ = cc in z)
same-type (Some Integer) None h = absurd (let z : ⊥ = cc in z)
same-type (Some Integer) (Some Integer) h = refl
same-type (Some Integer) (Some Varchar) h = absurd (let z : ⊥ = cc in z)
same-type (Some Varchar) None h = absurd (let z : ⊥ = cc in z)
same-type (Some Varchar) (Some Integer) h = absurd (let z : ⊥ = cc in z)
same-type (Some Varchar) (Some Varchar) h = refl

same-columns : (a b : List (Option SqlType)) → same_columns a b ≡ true → a ≡ b
same-columns [] [] h = refl
same-columns [] (y ∷ ys) h = absurd (let z : ⊥ = cc in z)
same-columns (x ∷ xs) [] h = absurd (let z : ⊥ = cc in z)
same-columns (x ∷ xs) (y ∷ ys) h = let ps = and_parts (same_type x y) (same_columns xs ys) h in let p = same-type x y ps.0 in let q = same-columns xs ys ps.1 in cc

same-typed : (a b : Typed) → same_typed a b ≡ true → a ≡ b
same-typed a b h =
    let ps = and_parts (a.id == b.id) (same_columns a.types b.types) h in
    let p : a.id ≡ b.id = eqb-true a.id b.id ps.0 in
    let q : a.types ≡ b.types = same-columns a.types b.types ps.1 in
    ap (λ (i : ℕ). made i a.types) p ∙ ap (λ (ts : List (Option SqlType)). made b.id ts) q
  where
    made : ℕ → List (Option SqlType) → Typed
    made i ts = record { id = i; types = ts }

pub same-tables : (a b : List Typed) → same_tables a b ≡ true → a ≡ b
same-tables [] [] h = refl
same-tables [] (y ∷ ys) h = absurd (let z : ⊥ = cc in z)
same-tables (x ∷ xs) [] h = absurd (let z : ⊥ = cc in z)
same-tables (x ∷ xs) (y ∷ ys) h = let ps = and_parts (same_typed x y) (same_tables xs ys) h in let p = same-typed x y ps.0 in let q = same-tables xs ys ps.1 in cc

pub unequal-columns : (a b : List (Option SqlType)) → (length a ≡ length b → ⊥) → false ≡ same_columns a b
unequal-columns a b h = elim (cases_Bool (same_columns a b)) [ inl t ↦ absurd (h (ap length (same-columns a b t))) | inr f ↦ sym f ]

pub unequal-tables : (a b : List Typed) → (length a ≡ length b → ⊥) → false ≡ same_tables a b
unequal-tables a b h = elim (cases_Bool (same_tables a b)) [ inl t ↦ absurd (h (ap length (same-tables a b t))) | inr f ↦ sym f ]

-- ---- places

-- where what a quantifier ranges over stands
abbrev place_found : List Node → Option OwnedQuant → Option ℕ
place_found bs None = None
place_found bs (Some r) = Some (rank_in r.over bs)

owned-place : (bs : List Node) (q : ℕ) (rs : List OwnedQuant) (old : Option ℕ) → place_or bs q rs old ≡ cond (list_any (is_quant q) rs) (place_found bs (first (is_quant q) rs)) old
owned-place bs q [] old = refl
owned-place bs q (r ∷ rs) old = elim (r.id == q) as (λ t. cond t (Some (rank_in r.over bs)) (place_or bs q rs old) ≡ cond (t || list_any (is_quant q) rs) (place_found bs (cond t (Some r) (first (is_quant q) rs))) old) [
  | true ↦ refl
  | false ↦ owned-place bs q rs old
]

place-is : (bs : List Node) (q : ℕ) (ns : List Node) → place_in bs q ns ≡ place_found bs (range_in q (first (owns q) ns))
place-is bs q [] = refl
place-is bs q (n ∷ ns) = owned-place bs q n.quants (place_in bs q ns) ∙ elim (owns q n) as (λ t. cond t (place_found bs (first (is_quant q) n.quants)) (place_in bs q ns) ≡ place_found bs (range_in q (cond t (Some n) (first (owns q) ns)))) [
  | true ↦ refl
  | false ↦ place-is bs q ns
]

-- ---- rows

module _ (at : Lookup) where
  -- the row of box b stands at its place
  row-place : (b : ℕ) (ns : List Node) → first (is_typed b) (map (typed_by at) ns) ≡ slice_get (map (typed_by at) ns) (rank_in b ns)
  row-place b [] = refl
  row-place b (n ∷ ns) = elim (n.id == b) as (λ t. cond t (Some (typed_by at n)) (first (is_typed b) (map (typed_by at) ns)) ≡ slice_get (typed_by at n ∷ map (typed_by at) ns) (cond t 0 (suc (rank_in b ns)))) [
    | true ↦ refl
    | false ↦ row-place b ns
  ]

  first-box : (table : List Typed) (k b : ℕ) (ns : List Node) → (type_found table k (first (is_box b) ns) ≡ type_in k (first (is_typed b) table)) ⊎ ((first (is_box b) ns ≡ None) × (first (is_typed b) (map (typed_by at) ns) ≡ None))
  first-box table k b [] = inr (refl, refl)
  first-box table k b (n ∷ ns) = elim (n.id == b) as (λ t. (n.id == b) ≡ t → (type_found table k (cond t (Some n) (first (is_box b) ns)) ≡ type_in k (first (is_typed b) table)) ⊎ ((cond t (Some n) (first (is_box b) ns) ≡ None) × (cond t (Some (typed_by at n)) (first (is_typed b) (map (typed_by at) ns)) ≡ None))) [
    | true ↦ λ t. inl (ap (λ (i : ℕ). type_in k (first (is_typed i) table)) (eqb-true n.id b t))
    | false ↦ λ t. first-box table k b ns
  ] refl

  found-row : (k b : ℕ) (ns : List Node) → type_found (map (typed_by at) ns) k (first (is_box b) ns) ≡ type_in k (slice_get (map (typed_by at) ns) (rank_in b ns))
  found-row k b ns = elim (first-box (map (typed_by at) ns) k b ns) [
    | inl e ↦ e ∙ ap (type_in k) (row-place b ns)
    | inr e ↦ ap (type_found (map (typed_by at) ns) k) e.0 ∙ sym (ap (type_in k) (sym (row-place b ns) ∙ e.1))
  ]

  found-place : (k : ℕ) (r : Option OwnedQuant) (ns : List Node) → type_found (map (typed_by at) ns) k (over_box ns r) ≡ type_in k (row_at (map (typed_by at) ns) (place_found ns r))
  found-place k None ns = refl
  found-place k (Some r) ns = found-row k r.over ns

none-found : (k : ℕ) (n : Option Node) → type_found [] k n ≡ None
none-found k None = refl
none-found k (Some n) = refl

none-at : (k : ℕ) (p : Option ℕ) → type_in k (row_at [] p) ≡ None
none-at k None = refl
none-at k (Some i) = refl

module _ {S : Type 0} (bs : List Node) (places : HashMap ℕ ℕ S) (h : ArePlaces bs places) where
  place-of : (q : ℕ) → get nat_eq places q ≡ place_found bs (range_in q (first (owns q) bs))
  place-of q = h q ∙ place-is bs q bs

  at-by : (m q k : ℕ) → type_at (types_after m bs) places q k ≡ column_type bs (types_after m bs) q k
  at-by zero q k = none-at k (get nat_eq places q) ∙ sym (none-found k (box_under bs q))
  at-by (suc m) q k = ap (λ (p : Option ℕ). type_in k (row_at (types_after (suc m) bs) p)) (place-of q) ∙ sym (found-place (column_type bs (types_after m bs)) k (range_in q (first (owns q) bs)) bs)

  -- by places the same is found as by numbers
  pub at-is : (m : ℕ) → type_at (types_after m bs) places ≡ column_type bs (types_after m bs)
  at-is m = fun_ext (λ q. fun_ext (λ k. at-by m q k))

  -- one round more
  pub round-is : (m : ℕ) (table next : List Typed) → table ≡ types_after m bs → next ≡ map (typed_by (type_at table places)) bs → next ≡ types_after (m + 1) bs
  round-is m table next e f =
      f ∙ ap (λ (t : List Typed). map (typed_by (type_at t places)) bs) e ∙ ap (λ (at : Lookup). map (typed_by at) bs) (at-is m) ∙ ap (λ (i : ℕ). types_after i bs) (sym (add-one m))

  stays-by : (m k : ℕ) → types_after (suc m) bs ≡ types_after m bs → types_after (k + m) bs ≡ types_after m bs
  stays-by m zero e = let z : 0 + m ≡ m = omega arith in ap (λ (i : ℕ). types_after i bs) z
  stays-by m (suc k) e =
      let z : suc k + m ≡ suc (k + m) = omega arith in
      let s : types_after (suc k + m) bs ≡ types_after (suc (k + m)) bs = ap (λ (i : ℕ). types_after i bs) z in
      s ∙ ap (λ (t : List Typed). map (typed bs t) bs) (stays-by m k e) ∙ e

  -- where a round changes nothing, no later one does
  pub stays : (m : ℕ) (table next : List Typed) → table ≡ types_after m bs → next ≡ map (typed_by (type_at table places)) bs → same_tables table next ≡ true → m + 1 ≤ length bs → next ≡ types_of bs
  stays m table next e f s l =
      let g : next ≡ types_after (m + 1) bs = round-is m table next e f in
      let same : table ≡ next = same-tables table next s in
      let one : types_after (suc m) bs ≡ types_after m bs = ap (λ (i : ℕ). types_after i bs) (sym (add-one m)) ∙ sym g ∙ sym same ∙ e in
      let all : types_after ((length bs - m) + m) bs ≡ types_after m bs = stays-by m (length bs - m) one in
      let z : (length bs - m) + m ≡ length bs = omega arith in
      let n : types_after ((length bs - m) + m) bs ≡ types_of bs = ap (λ (i : ℕ). types_after i bs) z in
      sym same ∙ e ∙ sym all ∙ n

  -- a column has the same type by places as by numbers
  pub lookup-is : (table : List Typed) → table ≡ types_of bs → type_at table places ≡ lookup_of bs
  lookup-is table e = ap (λ (t : List Typed). type_at t places) e ∙ at-is (length bs)

  -- types disagree by places where they do by numbers
  pub agree-is : (table : List Typed) → table ≡ types_of bs → (n : Node) → types_agree_at (type_at table places) table n ≡ types_agree bs n
  agree-is table e n = ap (λ (t : List Typed). types_agree_at (type_at t places) t n) e ∙ ap (λ (at : Lookup). types_agree_at at (types_of bs) n) (at-is (length bs))
