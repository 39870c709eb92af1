-- The order in which quantifiers of a select are bound.
use Rattle.std.proofs.Common.{ℕ, suc, zero, ◌≡◌, ◌<◌, ◌≤◌, ◌-◌, ◌++◌, ◌∷◌, ◌==◌, ◌&&◌, ◌||◌, not, All, Bool, true, false, List, [], Some, None, drop, get_or, append-nil, length, take, refl, sym, ap, ap₂, subst, ◌∙◌, inl, inr, arith}
use Rattle.std.specs.Borrow.{Bor}
use Rattle.std.specs.List.{flat_map, list_any, position, remove}
use Rattle.std.proofs.lemmas.Bool.{cases_lt}
use Rattle.std.proofs.lemmas.List.Quantifiers.{position-Some}
use Rattle.std.proofs.lemmas.List.{append_assoc, get_or_default, length-map}
use Rattle.std.proofs.lemmas.List.Edits.{length-remove}
use Rattle.std.proofs.lemmas.List.Folds.{list_any-append}
use Rattle.list_laws.proofs.Booleans.{clash}
use Rattle.qgm_core.specs.Boxes.{is_quant}
use Rattle.qgm_core.specs.declared.node.Node.{Node}
use Rattle.qgm_core.specs.declared.owned.OwnedQuant.{OwnedQuant}
use Rattle.qgm_core.proofs.First.{absent}
use Rattle.qgm_terms.specs.Named.{columns_in}
use Rattle.qgm_terms.specs.Terms.{Term}
use Rattle.qgm_terms.specs.declared.named.Column.{Column}
use Rattle.box_exec.specs.Lasting.{Reorders}
use Rattle.box_exec.specs.Taken.{Match, has_key, in_turn, matched, next_place, or_first, reads_others}
use Rattle.box_exec.specs.Seekers.{IsSeeker, left_ranges}
use Rattle.box_exec.specs.declared.order.Seeker.{Seeker}
use Rattle.qgm_terms.specs.Shown.{term}
use Rattle.qgm_terms.specs.declared.tree.Gx.{Gx}
use Rattle.box_exec.proofs.Asking.{any-map}
use Rattle.box_exec.proofs.Loops.{from}
use Rattle.box_exec.proofs.Orders.{taken}
use Rattle.box_exec.proofs.Rejections.{any-at}

-- ---- the first that has a key

-- a column is of one that is left
left-any : (left : List Seeker) (columns : List Column) → list_any (λ (k : Column). list_any (λ (s : Seeker). s.range.id == k.quant) left) columns ≡ list_any (λ (k : Column). list_any (is_quant k.quant) (left_ranges left)) columns
left-any left [] = refl
left-any left (k ∷ columns) = ap₂ (λ (x y : Bool). x || y) (sym (any-map (λ (s : Seeker). s.range) (is_quant k.quant) left)) (left-any left columns)

-- an expression with columns reads others where none of its columns is of those that are left
pub reads-some : (left : List Seeker) (x : Term) (columns : List Column) (any : Bool) → columns ≡ columns_in x → (length columns == 0) ≡ false → any ≡ list_any (λ (k : Column). list_any (λ (s : Seeker). s.range.id == k.quant) left) columns → not any ≡ reads_others (left_ranges left) x
reads-some left x [] any e some is = absurd (let z : ⊥ = cc in z)
reads-some left x (k ∷ columns) any e some is =
    ap not (is ∙ left-any left (k ∷ columns)) ∙ ap (λ (cs : List Column). list_any (λ (k : Column). true) cs && not (list_any (λ (k : Column). list_any (is_quant k.quant) (left_ranges left)) cs)) e

any-flat : {X Y : Type 0} (p : Y → Bool) (f : X → List Y) (xs : List X) → list_any p (flat_map f xs) ≡ list_any (λ x. list_any p (f x)) xs
any-flat p f [] = refl
any-flat p f (x ∷ xs) = list_any-append p (f x) (flat_map f xs) ∙ ap (λ (b : Bool). list_any p (f x) || b) (any-flat p f xs)

-- a key to others is found among the other sides
seeker-key : (n : Node) (left : List OwnedQuant) (s : Seeker) → IsSeeker n s → list_any (λ (x : Bor Gx). reads_others left (term x.now)) s.others.items ≡ has_key n left s.range
seeker-key n left s is =
    sym (any-map (λ (x : Bor Gx). term x.now) (reads_others left) s.others.items)
    ∙ ap (list_any (reads_others left)) is
    ∙ any-map (λ (m : Match). m.other) (reads_others left) (flat_map (matched s.range.id) n.parts.conds.items)
    ∙ any-flat (λ (m : Match). reads_others left m.other) (matched s.range.id) n.parts.conds.items

range-get : (left : List Seeker) (k : ℕ) (r : OwnedQuant) (d : Seeker) → k < length left → get_or (left_ranges left) k r ≡ (get_or left k d).range
range-get [] k r d l = absurd (omega (arith, l))
range-get (s ∷ left) zero r d l = refl
range-get (s ∷ left) (suc k) r d l = range-get left k r d (omega (arith, l))

pub many-left : (left : List Seeker) → length (left_ranges left) ≡ length left
many-left left = length-map left (λ (s : Seeker). s.range)

module _ (p : OwnedQuant → Bool) (left : List OwnedQuant) where
  pub first-place : (i : ℕ) (r : OwnedQuant) → i < length left → r ≡ get_or left i r → p r ≡ true → ((k : ℕ) (s : OwnedQuant) → k < i → s ≡ get_or left k s → p s ≡ false) → i ≡ or_first (position p left)
  first-place i r l at passes before = elim (position p left) as (λ o. position p left ≡ o → i ≡ or_first o) [
    | None ↦ λ e. absurd (absent p left e (any-at p left i r l at passes))
    | Some j ↦ λ e.
        let h = position-Some p left j r e in
        elim (cases_lt i j) [
          | inl under ↦ absurd (clash (p r) passes (ap p at ∙ h.2 i under))
          | inr over ↦ elim (cases_lt j i) [
            | inl less ↦ absurd (clash (p (get_or left j r)) h.1 (before j (get_or left j r) less (get_or_default left j r (get_or left j r) h.0)))
            | inr more ↦ omega (arith, over, more)
          ]
        ]
  ] refl

  place-within : 0 < length left → (r : OwnedQuant) → or_first (position p left) < length left
  place-within some r = elim (position p left) as (λ o. position p left ≡ o → or_first o < length left) [
    | None ↦ λ e. some
    | Some j ↦ λ e. (position-Some p left j r e).0
  ] refl

pub no-place : (p : OwnedQuant → Bool) (left : List OwnedQuant) → ((k : ℕ) (s : OwnedQuant) → k < length left → s ≡ get_or left k s → p s ≡ false) → 0 ≡ or_first (position p left)
no-place p [] none = refl
no-place p (r ∷ rs) none = elim (position p (r ∷ rs)) as (λ o. position p (r ∷ rs) ≡ o → 0 ≡ or_first o) [
  | None ↦ λ e. refl
  | Some j ↦ λ e.
      let left : List OwnedQuant = r ∷ rs in
      let h = position-Some p left j r e in
      absurd (clash (p (get_or left j r)) h.1 (none j (get_or left j r) h.0 (get_or_default left j r (get_or left j r) h.0)))
] refl

module _ (n : Node) (left : List Seeker) (all : All (λ s. IsSeeker n s) left) where
  abbrev seeks : Seeker → Bool
  seeks s = list_any (λ (x : Bor Gx). reads_others (left_ranges left) (term x.now)) s.others.items

  key-at : (k : ℕ) (d : Seeker) → k < length left → seeks (get_or left k d) ≡ has_key n (left_ranges left) (get_or left k d).range
  key-at k d l = seeker-key n (left_ranges left) (get_or left k d) (all k d l)

  none-before : (i : ℕ) → i ≤ length left → (d : Seeker) → ((k : ℕ) (s : Seeker) → k < i → s ≡ get_or left k s → seeks s ≡ false) → (k : ℕ) (r : OwnedQuant) → k < i → r ≡ get_or (left_ranges left) k r → has_key n (left_ranges left) r ≡ false
  none-before i le d before k r l at =
      let inside : k < length left = omega (arith, l, le) in
      let s = get_or left k d in
      ap (has_key n (left_ranges left)) (at ∙ range-get left k r d inside) ∙ sym (key-at k d inside) ∙ before k s l (get_or_default left k d s inside)

  pub next-is : (i : ℕ) (s : Seeker) → i < length left → s ≡ get_or left i s → seeks s ≡ true → ((k : ℕ) (s : Seeker) → k < i → s ≡ get_or left k s → seeks s ≡ false) → i ≡ next_place n (left_ranges left)
  next-is i s l at found before =
      let many = many-left left in
      first-place (has_key n (left_ranges left)) (left_ranges left) i s.range (omega (arith, l, many)) (ap (λ (x : Seeker). x.range) at ∙ sym (range-get left i s.range s l))
      (sym (ap seeks at ∙ key-at i s l ∙ ap (λ (x : Seeker). has_key n (left_ranges left) x.range) (sym at)) ∙ found)
      (none-before i (omega (arith, l)) s before)

  none-next : (d : Seeker) → ((k : ℕ) (s : Seeker) → k < length left → s ≡ get_or left k s → seeks s ≡ false) → 0 ≡ next_place n (left_ranges left)
  none-next d none =
      let many = many-left left in
      no-place (has_key n (left_ranges left)) (left_ranges left) (λ k r l at. none-before (length left) (omega arith) d none k r (omega (arith, l, many)) at)

pub next-none : (n : Node) (left : List Seeker) → All (λ s. IsSeeker n s) left → ((k : ℕ) (s : Seeker) → k < length left → s ≡ get_or left k s → list_any (λ (x : Bor Gx). reads_others (left_ranges left) (term x.now)) s.others.items ≡ false) → 0 ≡ next_place n (left_ranges left)
next-none n [] all none = refl
next-none n (s ∷ left) all none = none-next n (s ∷ left) all s none

pub ranges-removed : (left : List Seeker) (i : ℕ) → left_ranges (remove left i) ≡ remove (left_ranges left) i
ranges-removed [] zero = refl
ranges-removed [] (suc i) = refl
ranges-removed (s ∷ left) zero = refl
ranges-removed (s ∷ left) (suc i) = ap (λ (rs : List OwnedQuant). s.range ∷ rs) (ranges-removed left i)

pub all-removed : (P : Seeker → Type 0) (left : List Seeker) (i : ℕ) → All P left → All P (remove left i)
all-removed P [] zero h k d l = absurd (omega (arith, l))
all-removed P [] (suc i) h k d l = absurd (omega (arith, l))
all-removed P (s ∷ left) zero h k d l = h (suc k) d (omega (arith, l))
all-removed P (s ∷ left) (suc i) h zero d l = h zero d (omega arith)
all-removed P (s ∷ left) (suc i) h (suc k) d l = all-removed P left i (λ j e m. h (suc j) e (omega (arith, m))) k d (omega (arith, l))

-- ---- one after the other

first-of : (left : List OwnedQuant) (i : ℕ) (r : OwnedQuant) → i < length left → r ≡ get_or left i r → take 1 (drop i left) ≡ r ∷ []
first-of left i r l at = ap (take 1) (from left i r l) ∙ ap (λ (x : OwnedQuant). x ∷ []) (sym at)

shorter : (left : List OwnedQuant) (i m : ℕ) → i < length left → length left ≡ suc m → length (remove left i) ≡ m
shorter left i m l e = let h = length-remove left i l in omega (arith, h, e)

-- one more
pub turn-more : (n : Node) (left made : List OwnedQuant) (i : ℕ) (r : OwnedQuant) (whole : List OwnedQuant) → i < length left → r ≡ get_or left i r → i ≡ next_place n left → made ++ in_turn n (length left) left ≡ whole
    → (made ++ r ∷ []) ++ in_turn n (length (remove left i)) (remove left i) ≡ whole
turn-more n left made i r whole l at is h =
    let m : ℕ = length left - 1 in
    let e : length left ≡ suc m = omega (arith, l) in
    let step : in_turn n (length left) left ≡ r ∷ in_turn n (length (remove left i)) (remove left i) =
    ap (λ (k : ℕ). in_turn n k left) e
    ∙ ap (λ (k : ℕ). take 1 (drop k left) ++ in_turn n m (remove left k)) (sym is)
    ∙ ap₂ (λ (xs : List OwnedQuant) (k : ℕ). xs ++ in_turn n k (remove left i)) (first-of left i r l at) (sym (shorter left i m l e)) in
    append_assoc made (r ∷ []) (in_turn n (length (remove left i)) (remove left i)) ∙ ap (λ (xs : List OwnedQuant). made ++ xs) (sym step) ∙ h

-- they are the quantifiers in another order
pub turn-reorders : (n : Node) (m : ℕ) (left : List OwnedQuant) → length left ≡ m → Reorders left (in_turn n m left)
turn-reorders n zero [] e = refl
turn-reorders n zero (r ∷ left) e = absurd (omega (arith, e))
turn-reorders n (suc m) [] e = absurd (omega (arith, e))
turn-reorders n (suc m) (x ∷ xs) e =
    let left : List OwnedQuant = x ∷ xs in
    let i : ℕ = next_place n left in
    let l : i < length left = place-within (has_key n left) left (omega arith) x in
    let r = get_or left i x in
    let at : r ≡ get_or left i r = get_or_default left i x r l in
    subst (λ (ys : List OwnedQuant). Reorders left (ys ++ in_turn n m (remove left i))) (sym (first-of left i r l at))
    (taken left i r l at (in_turn n m (remove left i)) (turn-reorders n m (remove left i) (shorter left i m l e)))

-- none is left
pub turn-done : (n : Node) (left made whole : List OwnedQuant) → length left ≤ 0 → made ++ in_turn n (length left) left ≡ whole → made ≡ whole
turn-done n [] made whole l h = sym (append-nil made) ∙ h
turn-done n (r ∷ left) made whole l h = absurd (omega (arith, l))

-- one more of those that are left
pub turn-next : (n : Node) (left : List Seeker) (made : List OwnedQuant) (i : ℕ) (s : Seeker) (whole : List OwnedQuant) → i < length left → s ≡ get_or left i s → i ≡ next_place n (left_ranges left)
    → made ++ in_turn n (length (left_ranges left)) (left_ranges left) ≡ whole → (made ++ s.range ∷ []) ++ in_turn n (length (left_ranges (remove left i))) (left_ranges (remove left i)) ≡ whole
turn-next n left made i s whole l at is h =
    let many = many-left left in
    subst (λ (rs : List OwnedQuant). (made ++ s.range ∷ []) ++ in_turn n (length rs) rs ≡ whole) (sym (ranges-removed left i))
    (turn-more n (left_ranges left) made i s.range whole (omega (arith, l, many)) (ap (λ (x : Seeker). x.range) at ∙ sym (range-get left i s.range s l)) is h)
