-- Boxes where each quantifier over a box loses a column.
use Rattle.std.proofs.Common.{◌≡◌, ℕ, zero, suc, ◌==◌, ◌<◌, ◌≤◌, ◌+◌, ◌++◌, cond, Bool, true, false, List, [], ◌∷◌, length, map, filter, get_or, slice_get, drop, refl, sym, ◌∙◌, ap, subst, arith, add-one}
use Rattle.std.proofs.lemmas.Bool.{eq-eqb, ne_eqb}
use Rattle.qgm_core.specs.Boxes.{ids_in, ids_of, numbers, quants_in}
use Rattle.qgm_core.specs.Edits.{ids_over, quants_over, shift_boxes, shifted_over}
use Rattle.list_laws.specs.Lists.{EachOnce, each}
use Rattle.qgm_core.specs.Numbered.{Numbered, Under}
use Rattle.qgm_core.specs.declared.node.Node.{Node}
use Rattle.qgm_core.specs.declared.owned.OwnedQuant.{OwnedQuant}

-- ---- quantifiers stay

same-quants : (k q : ℕ) (ns : List Node) (i : ℕ) → quants_in (slice_get (shift_boxes k q ns) i) ≡ quants_in (slice_get ns i)
same-quants k q [] i = refl
same-quants k q (n ∷ ns) zero = refl
same-quants k q (n ∷ ns) (suc i) = same-quants k q ns i

same-over : (k q b : ℕ) (ns : List Node) (i : ℕ) → quants_over b (drop i (shift_boxes k q ns)) ≡ quants_over b (drop i ns)
same-over k q b [] zero = refl
same-over k q b [] (suc i) = refl
same-over k q b (n ∷ ns) zero = ap (λ (qs : List ℕ). ids_over b n.quants ++ qs) (same-over k q b ns zero)
same-over k q b (n ∷ ns) (suc i) = same-over k q b ns i

same-length : (k q : ℕ) (ns : List Node) → length (shift_boxes k q ns) ≡ length ns
same-length k q [] = refl
same-length k q (n ∷ ns) = ap suc (same-length k q ns)

module _ (k : ℕ) where
  each-over : (b : ℕ) (qs : List ℕ) (ns : List Node) (i : ℕ) → quants_over b (drop i (each (shift_boxes k) qs ns)) ≡ quants_over b (drop i ns)
  each-over b [] ns i = refl
  each-over b (q ∷ qs) ns i = each-over b qs (shift_boxes k q ns) i ∙ same-over k q b ns i

  pub each-length : (qs : List ℕ) (ns : List Node) → length (each (shift_boxes k) qs ns) ≡ length ns
  each-length [] ns = refl
  each-length (q ∷ qs) ns = each-length qs (shift_boxes k q ns) ∙ same-length k q ns

  each-append : (ps qs : List ℕ) (ns : List Node) → each (shift_boxes k) (ps ++ qs) ns ≡ each (shift_boxes k) qs (each (shift_boxes k) ps ns)
  each-append [] qs ns = refl
  each-append (p ∷ ps) qs ns = each-append ps qs (shift_boxes k p ns)

-- ---- the quantifiers of one box

-- the next one, and those that are left
next-over : (b : ℕ) (rs : List OwnedQuant) (j : ℕ) (d : OwnedQuant) → j < length rs →
    ids_over b (drop j rs) ≡ cond ((get_or rs j d).over == b) ((get_or rs j d).id ∷ ids_over b (drop (suc j) rs)) (ids_over b (drop (suc j) rs))
next-over b [] j d l = absurd (omega (arith, l))
next-over b (r ∷ rs) zero d l =
    elim (r.over == b) as (λ t. ◌≡◌ {A = List ℕ} (map (λ r. r.id) (cond t (r ∷ filter (λ r. r.over == b) rs) (filter (λ r. r.over == b) rs))) (cond t (r.id ∷ ids_over b rs) (ids_over b rs))) [
      | true ↦ refl
      | false ↦ refl
    ]
next-over b (r ∷ rs) (suc j) d l = next-over b rs j d (omega (arith, l))

-- what the loop over a box's quantifiers knows
pub record Owned (b k i j : ℕ) (start now : List Node) : Type 0 where
  pub left : each (shift_boxes k) (ids_over b (drop j (quants_in (slice_get start i)))) now ≡ each (shift_boxes k) (ids_over b (quants_in (slice_get start i))) start
  pub kept : quants_in (slice_get now i) ≡ quants_in (slice_get start i)
  pub same : length now ≡ length start

module _ (b k i j : ℕ) (start now : List Node) (rs : List OwnedQuant) (d : OwnedQuant) (same : rs ≡ quants_in (slice_get start i)) (l : j < length rs) (h : Owned b k i j start now) where
  abbrev all : List OwnedQuant
  all = quants_in (slice_get start i)

  abbrev one : OwnedQuant
  one = get_or rs j d

  abbrev rest : List ℕ
  rest = ids_over b (drop (suc j) all)

  next : ids_over b (drop j all) ≡ cond (one.over == b) (one.id ∷ rest) rest
  next = ap (λ (xs : List OwnedQuant). ids_over b (drop j xs)) (sym same) ∙ next-over b rs j d l ∙ ap (λ (xs : List OwnedQuant). cond (one.over == b) (one.id ∷ ids_over b (drop (suc j) xs)) (ids_over b (drop (suc j) xs))) same

  pub owned-shifted : one.over ≡ b → Owned b k i (j + 1) start (shift_boxes k one.id now)
  owned-shifted e = record {
    left =
        ap (λ (m : ℕ). each (shift_boxes k) (ids_over b (drop m all)) (shift_boxes k one.id now)) (add-one j)
        ∙ sym (ap (λ (qs : List ℕ). each (shift_boxes k) qs now) (next ∙ ap (λ (t : Bool). cond t (one.id ∷ rest) rest) (eq-eqb one.over b e)))
        ∙ h.left;
    kept = same-quants k one.id now i ∙ h.kept;
    same = same-length k one.id now ∙ h.same;
  }

  pub owned-passed : (one.over ≡ b → ⊥) → Owned b k i (j + 1) start now
  owned-passed n = record {
    left =
        ap (λ (m : ℕ). each (shift_boxes k) (ids_over b (drop m all)) now) (add-one j)
        ∙ sym (ap (λ (qs : List ℕ). each (shift_boxes k) qs now) (next ∙ ap (λ (t : Bool). cond t (one.id ∷ rest) rest) (ne_eqb one.over b n)))
        ∙ h.left;
    kept = h.kept;
    same = h.same;
  }

drop-all : {X : Type 0} (xs : List X) (j : ℕ) → length xs ≤ j → drop j xs ≡ []
drop-all [] zero l = refl
drop-all [] (suc j) l = refl
drop-all (x ∷ xs) zero l = absurd (omega (arith, l))
drop-all (x ∷ xs) (suc j) l = drop-all xs j (omega (arith, l))

pub owned-done : (b k i j : ℕ) (start now : List Node) → length (quants_in (slice_get start i)) ≤ j → Owned b k i j start now → now ≡ each (shift_boxes k) (ids_over b (quants_in (slice_get start i))) start
owned-done b k i j start now l h = sym (ap (λ (rs : List OwnedQuant). each (shift_boxes k) (ids_over b rs) now) (drop-all (quants_in (slice_get start i)) j l)) ∙ h.left

-- ---- all boxes

next-box : (b : ℕ) (ns : List Node) (i : ℕ) → i < length ns → quants_over b (drop i ns) ≡ ids_over b (quants_in (slice_get ns i)) ++ quants_over b (drop (suc i) ns)
next-box b [] i l = absurd (omega (arith, l))
next-box b (n ∷ ns) zero l = refl
next-box b (n ∷ ns) (suc i) l = next-box b ns i (omega (arith, l))

-- what the loop over boxes knows
pub record Over (b k i : ℕ) (start now : List Node) : Type 0 where
  pub left : each (shift_boxes k) (quants_over b (drop i now)) now ≡ shifted_over b k start
  pub same : length now ≡ length start

pub over-more : (b k i : ℕ) (start now new : List Node) → i < length start → new ≡ each (shift_boxes k) (ids_over b (quants_in (slice_get now i))) now → Over b k i start now → Over b k (i + 1) start new
over-more b k i start now new l e h =
    let m = h.same in
    let ps = ids_over b (quants_in (slice_get now i)) in
    let done = each (shift_boxes k) ps now in record {
      left =
          ap (λ (ns : List Node). each (shift_boxes k) (quants_over b (drop (i + 1) ns)) ns) e
          ∙ ap (λ (j : ℕ). each (shift_boxes k) (quants_over b (drop j done)) done) (add-one i)
          ∙ ap (λ (qs : List ℕ). each (shift_boxes k) qs done) (each-over k b ps now (suc i))
          ∙ sym (ap (λ (qs : List ℕ). each (shift_boxes k) qs now) (next-box b now i (omega (arith, l, m))) ∙ each-append k ps (quants_over b (drop (suc i) now)) now)
          ∙ h.left;
      same = ap length e ∙ each-length k ps now ∙ m;
    }

pub over-done : (b k i : ℕ) (start now : List Node) → length start ≤ i → Over b k i start now → now ≡ shifted_over b k start
over-done b k i start now l h =
    let m = h.same in
    sym (ap (λ (ns : List Node). each (shift_boxes k) (quants_over b ns) now) (drop-all now i (omega (arith, l, m)))) ∙ h.left

-- ---- numbers

pub shift-numbers : (k q : ℕ) (ns : List Node) → numbers (shift_boxes k q ns) ≡ numbers ns
shift-numbers k q [] = refl
shift-numbers k q (n ∷ ns) = ap (λ (bs : List ℕ). n.id ∷ bs) (shift-numbers k q ns)

shift-ids : (k q : ℕ) (ns : List Node) → ids_in (shift_boxes k q ns) ≡ ids_in ns
shift-ids k q [] = refl
shift-ids k q (n ∷ ns) = ap (λ (qs : List ℕ). ids_of n ++ qs) (shift-ids k q ns)

pub numbered-shifted : (k a b : ℕ) (qs : List ℕ) (ns : List Node) → Numbered a b ns → Numbered a b (each (shift_boxes k) qs ns)
numbered-shifted k a b [] ns m = m
numbered-shifted k a b (q ∷ qs) ns m =
    let e = sym (shift-numbers k q ns) in
    let f = sym (shift-ids k q ns) in
    numbered-shifted k a b qs (shift_boxes k q ns) (subst (Under a) e m.0, subst EachOnce e m.1, subst (Under b) f m.2, subst (λ ids. length ids ≤ b) f m.3)
