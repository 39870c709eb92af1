-- Boxes, one of whose quantifiers goes to another place.
use Rattle.std.proofs.Common.{◌≡◌, ◌≢◌, ℕ, zero, suc, ◌<◌, ◌+◌, ◌++◌, ◌||◌, cond, Bool, true, false, List, [], ◌∷◌, Option, Some, None, length, get_or, position, nat_lt, refl, sym, ◌∙◌, ap, subst, arith, map, inl, inr}
use Rattle.std.proofs.Math.ListN.{set}
use Rattle.std.specs.List.{list_any, position_or_len}
use Rattle.std.proofs.lemmas.Bool.{cases_Bool}
use Rattle.std.proofs.lemmas.List.{get_or-set_same, get_or-set_other, length-append, length-map}
use Rattle.std.proofs.lemmas.List.Folds.{position_or_len-set}
use Rattle.qgm_core.specs.Boxes.{ids_in, ids_of, is_box, is_quant, owns, quants_in, range_in}
use Rattle.qgm_core.specs.Edits.{put_range, put_range_found, quant_moved, with_quants, without_quant}
use Rattle.list_laws.specs.Lists.{EachOnce, IsFirst, change, first, insert_found, moved_to, without}
use Rattle.qgm_core.specs.Numbered.{Numbered, Under}
use Rattle.qgm_core.specs.declared.node.Node.{Node}
use Rattle.qgm_core.specs.declared.owned.OwnedQuant.{OwnedQuant}
use Rattle.qgm_core.proofs.First.{is_first}
use Rattle.qgm_core.proofs.Fresh.{fewer-change, ids-insert_one, length-insert, numbered-without, numbers-change, under-change, under-insert, under-left, under-right}

-- ---- two writes

length-set : {X : Type 0} (xs : List X) (i : ℕ) (y : X) → length (set xs i y) ≡ length xs
length-set [] i y = refl
length-set (x ∷ xs) zero y = refl
length-set (x ∷ xs) (suc i) y = ap suc (length-set xs i y)

-- at different places
set-other : {X : Type 0} (xs : List X) (i j : ℕ) (x y : X) → i ≢ j → set (set xs i x) j y ≡ set (set xs j y) i x
set-other [] i j x y n = refl
set-other (z ∷ xs) zero zero x y n = absurd (n refl)
set-other (z ∷ xs) zero (suc j) x y n = refl
set-other (z ∷ xs) (suc i) zero x y n = refl
set-other (z ∷ xs) (suc i) (suc j) x y n = ap (λ zs. z ∷ zs) (set-other xs i j x y (λ e. n (ap suc e)))

-- at one place
set-twice : {X : Type 0} (xs : List X) (i : ℕ) (x y : X) → set (set xs i x) i y ≡ set xs i y
set-twice [] i x y = refl
set-twice (z ∷ xs) zero x y = refl
set-twice (z ∷ xs) (suc i) x y = ap (λ zs. z ∷ zs) (set-twice xs i x y)

-- the first that passes, where another is written that passes as the one there did
pub position-set : {X : Type 0} (p : X → Bool) (xs : List X) (i : ℕ) (y d : X) → p y ≡ p (get_or xs i d) → position p (set xs i y) ≡ position p xs
position-set p xs i y d e = ap (λ (k : ℕ). cond (nat_lt k (length (set xs i y))) (Some k) None) (position_or_len-set p xs i y d e)
    ∙ ap (λ (m : ℕ). cond (nat_lt (position_or_len p xs) m) (Some (position_or_len p xs)) None) (length-set xs i y)

-- what stands at a place of the list, whatever is read past its end
default : {X : Type 0} (xs : List X) (i : ℕ) (d e : X) → i < length xs → get_or xs i d ≡ get_or xs i e
default [] i d e l = absurd (omega (arith, l))
default (x ∷ xs) zero d e l = refl
default (x ∷ xs) (suc i) d e l = default xs i d e (omega (arith, l))

-- without one of them
pub one-fewer : {X : Type 0} (p : X → Bool) (xs : List X) → list_any p xs ≡ true → length (without p xs) + 1 ≡ length xs
one-fewer p [] h = absurd (let z : ⊥ = cc in z)
one-fewer p (x ∷ xs) h =
    elim (p x) as (λ t. (t || list_any p xs) ≡ true → length (cond t xs (x ∷ without p xs)) + 1 ≡ suc (length xs)) [
      | true ↦ λ h. omega arith
      | false ↦ λ h. (let k = one-fewer p xs h in omega (arith, k))
    ] h

-- ---- a quantifier

module _ (q b : ℕ) (xs : List Node) (k j : ℕ) (d : Node) (own : IsFirst (owns q) xs k) (at : position (is_box b) xs ≡ Some j) where
  abbrev was : Node
  was = get_or xs k d

  -- the boxes without the quantifier
  abbrev out : List Node
  out = set xs k (without_quant q was)

  taken_out : change (owns q) (without_quant q) xs ≡ out
  taken_out = sym (own.3 (without_quant q) (without_quant q was) d refl)

  first_out : IsFirst (is_box b) out j
  first_out = is_first (is_box b) out j (position-set (is_box b) xs k (without_quant q was) d refl ∙ at)

  -- box b without it
  there_same : k ≡ j → get_or out j d ≡ without_quant q was
  there_same e = ap (λ (l : ℕ). get_or out l d) (sym e) ∙ get_or-set_same xs k (without_quant q was) d own.0

  there_other : k ≢ j → get_or out j d ≡ get_or xs j d
  there_other n = get_or-set_other xs k j (without_quant q was) d (λ e. n (sym e))

  abbrev left : List OwnedQuant
  left = quants_in (first (is_box b) (change (owns q) (without_quant q) xs))

  left_is : left ≡ (get_or out j d).quants
  left_is = ap (λ (o : Option Node). quants_in o) (ap (λ (ns : List Node). first (is_box b) ns) taken_out ∙ first_out.1 d)

  pub places-same : k ≡ j → length was.quants ≡ length left + 1
  places-same e =
      let l : length left ≡ length (without (is_quant q) was.quants) = ap length (left_is ∙ ap (λ (n : Node). n.quants) (there_same e)) in
      let m = one-fewer (is_quant q) was.quants (own.2 d) in
      omega (arith, l, m)

  pub places-other : k ≢ j → length (get_or xs j d).quants ≡ length left
  places-other n = sym (ap length (left_is ∙ ap (λ (n : Node). n.quants) (there_other n)))

  -- the quantifier is found, and goes in at box b
  module _ (i : ℕ) (r : OwnedQuant) (found : first (is_quant q) was.quants ≡ Some r) where
    unfolded : quant_moved q b i xs ≡ change (is_box b) (put_range i r) out
    unfolded =
        ap (λ (o : Option OwnedQuant). put_range_found b i o (change (owns q) (without_quant q) xs)) (ap (λ (n : Option Node). range_in q n) (own.1 d) ∙ found)
        ∙ ap (λ (ns : List Node). change (is_box b) (put_range i r) ns) taken_out

    put_in : (y : Node) → y ≡ put_range i r (get_or out j d) → quant_moved q b i xs ≡ set out j y
    put_in y e = unfolded ∙ sym (first_out.3 (put_range i r) y d e)

    pub moved-same : (y : Node) → k ≡ j → y ≡ with_quants (moved_to (is_quant q) i) was → set xs k y ≡ quant_moved q b i xs
    moved-same y e h =
        let new : y ≡ put_range i r (without_quant q was) = h ∙ ap (λ (o : Option OwnedQuant). with_quants (λ rs. insert_found i o (without (is_quant q) rs)) was) found in
        sym (put_in y (new ∙ ap (put_range i r) (sym (there_same e))) ∙ ap (λ (l : ℕ). set out l y) (sym e) ∙ set-twice xs k (without_quant q was) y)

    pub moved-other : (y z e f : Node) → k ≢ j → y ≡ put_range i r (get_or xs j e) → z ≡ without_quant q (get_or (set xs j y) k f) → set (set xs j y) k z ≡ quant_moved q b i xs
    moved-other y z e f n h g =
        let within : k < length (set xs j y) = subst (λ (m : ℕ). k < m) (sym (length-set xs j y)) own.0 in
        let same : z ≡ without_quant q was = g ∙ ap (without_quant q) (default (set xs j y) k f d within ∙ get_or-set_other xs j k y d n) in
        let here : get_or xs j e ≡ get_or out j d = default xs j e d (is_first (is_box b) xs j at).0 ∙ sym (there_other n) in
        ap (λ (m : Node). set (set xs j y) k m) same
        ∙ sym (put_in y (h ∙ ap (put_range i r) here) ∙ set-other xs k j (without_quant q was) y n)

-- ---- numbers

ids-fewer : (p : OwnedQuant → Bool) (rs : List OwnedQuant) → list_any p rs ≡ true → length (map (λ r. r.id) (without p rs)) + 1 ≡ length (map (λ r. r.id) rs)
ids-fewer p rs h =
    let id = λ (r : OwnedQuant). r.id in
    let e = one-fewer p rs h in
    let f = length-map (without p rs) id in
    let g = length-map rs id in
    omega (arith, e, f, g)

-- its owner owns one less
owner-fewer : (q : ℕ) (ns : List Node) → list_any (owns q) ns ≡ true → length (ids_in (change (owns q) (without_quant q) ns)) + 1 ≡ length (ids_in ns)
owner-fewer q [] h = absurd (let z : ⊥ = cc in z)
owner-fewer q (n ∷ ns) h =
    let s = length-append (ids_of n) (ids_in ns) in
    elim (cases_Bool (owns q n)) [
      | inl t ↦ (
          let e : change (owns q) (without_quant q) (n ∷ ns) ≡ without_quant q n ∷ ns = ap (λ (b : Bool). cond b (without_quant q n ∷ ns) (n ∷ change (owns q) (without_quant q) ns)) t in
          let f : length (ids_in (change (owns q) (without_quant q) (n ∷ ns))) ≡ length (ids_of (without_quant q n) ++ ids_in ns) = ap (λ (ms : List Node). length (ids_in ms)) e in
          let g = length-append (ids_of (without_quant q n)) (ids_in ns) in
          let k = ids-fewer (is_quant q) n.quants t in
          omega (arith, s, f, g, k))
      | inr t ↦ (
          let e : change (owns q) (without_quant q) (n ∷ ns) ≡ n ∷ change (owns q) (without_quant q) ns = ap (λ (b : Bool). cond b (without_quant q n ∷ ns) (n ∷ change (owns q) (without_quant q) ns)) t in
          let f : length (ids_in (change (owns q) (without_quant q) (n ∷ ns))) ≡ length (ids_of n ++ ids_in (change (owns q) (without_quant q) ns)) = ap (λ (ms : List Node). length (ids_in ms)) e in
          let g = length-append (ids_of n) (ids_in (change (owns q) (without_quant q) ns)) in
          let k = owner-fewer q ns (subst (λ (b : Bool). (b || list_any (owns q) ns) ≡ true) t h) in
          omega (arith, s, f, g, k))
    ]

under-range : (m : ℕ) (p : OwnedQuant → Bool) (rs : List OwnedQuant) (r : OwnedQuant) → Under m (map (λ r. r.id) rs) → first p rs ≡ Some r → r.id < m
under-range m p [] r u e = absurd (let z : ⊥ = cc in z)
under-range m p (x ∷ rs) r u e =
    elim (p x) as (λ t. ◌≡◌ {A = Option OwnedQuant} (cond t (Some x) (first p rs)) (Some r) → r.id < m) [
      | true ↦ λ e. (let same : x ≡ r = cc in subst (λ (r : OwnedQuant). r.id < m) same u.0)
      | false ↦ λ e. under-range m p rs r u.1 e
    ] e

under-found : (m q : ℕ) (p : Node → Bool) (ns : List Node) (r : OwnedQuant) → Under m (ids_in ns) → range_in q (first p ns) ≡ Some r → r.id < m
under-found m q p [] r u e = absurd (let z : ⊥ = cc in z)
under-found m q p (n ∷ ns) r u e =
    elim (p n) as (λ t. ◌≡◌ {A = Option OwnedQuant} (range_in q (cond t (Some n) (first p ns))) (Some r) → r.id < m) [
      | true ↦ λ e. under-range m (is_quant q) n.quants r (under-left m (ids_of n) (ids_in ns) u) e
      | false ↦ λ e. under-found m q p ns r (under-right m (ids_of n) (ids_in ns) u) e
    ] e

numbered-put : (q c i a b : ℕ) (ns : List Node) (o : Option OwnedQuant) → range_in q (first (owns q) ns) ≡ o → list_any (owns q) ns ≡ true → Numbered a b ns → Numbered a b (put_range_found c i o (change (owns q) (without_quant q) ns))
numbered-put q c i a b ns None e h m = numbered-without (owns q) q a b ns m
numbered-put q c i a b ns (Some r) e h m =
    let ms = change (owns q) (without_quant q) ns in
    let w = numbered-without (owns q) q a b ns m in
    let same = sym (numbers-change (is_box c) (put_range i r) (λ n. refl) ms) in
    let low : r.id < b = under-found b q (owns q) ns r m.2 e in
    let l = fewer-change (is_box c) (put_range i r) 1 (λ n. let f : length (ids_of (put_range i r n)) ≡ length (ids_of n) + 1 = ap length (sym (ids-insert_one n.quants i r)) ∙ length-insert (ids_of n) i r.id in omega (arith, f)) ms in
    let k = owner-fewer q ns h in
    let d = m.3 in (
      subst (Under a) same w.0,
      subst EachOnce same w.1,
      under-change (is_box c) (put_range i r) b (λ n u. subst (Under b) (ids-insert_one n.quants i r) (under-insert b (ids_of n) i r.id low u)) ms w.2,
      omega (arith, l, k, d),
    )

pub numbered-requanted : (q c i a b : ℕ) (ns : List Node) → list_any (owns q) ns ≡ true → Numbered a b ns → Numbered a b (quant_moved q c i ns)
numbered-requanted q c i a b ns h m = numbered-put q c i a b ns (range_in q (first (owns q) ns)) refl h m
