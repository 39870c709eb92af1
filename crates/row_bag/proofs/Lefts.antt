-- Different tuples, and how many of each are left.
use Rattle.std.proofs.Common.{◌≡◌, ℕ, zero, suc, ◌+◌, ◌<◌, ◌≤◌, add-zero, zero-add, add_assoc, Bool, true, false, cond, List, [], ◌∷◌, ◌++◌, map, length, get_or, set, Some, refl, sym, ap, ap₂, ◌∙◌, arith, inl, inr}
use Rattle.std.specs.Prelude.{slice_get}
use Rattle.std.proofs.lemmas.Bool.{cases_Bool}
use Rattle.std.proofs.lemmas.List.{get_or_default, length-map}
use Rattle.sql_value.specs.declared.cell.Cell.{Cell}
use Rattle.row_bag.specs.Matched.{left_of, often}
use Rattle.row_bag.specs.Sets.{same_cells}
use Rattle.row_bag.proofs.Entering.{often-some}
use Rattle.row_bag.proofs.Indexed.{past-end, some-same}
use Rattle.row_bag.proofs.TupleBags.{same_cells-decides}

abbrev pub Tuple : Type 0
Tuple = List Cell

module _ {L : Type 0} (tuple : L → Tuple) (left : L → ℕ) where
  pub left-push : (c : Tuple) (xs : List L) (x : L) → left_of tuple left c (xs ++ x ∷ []) ≡ left_of tuple left c xs + cond (same_cells (tuple x) c) (left x) 0
  left-push c [] x = add-zero (cond (same_cells (tuple x) c) (left x) 0) ∙ sym (zero-add (cond (same_cells (tuple x) c) (left x) 0))
  left-push c (y ∷ xs) x =
      ap (λ m. cond (same_cells (tuple y) c) (left y) 0 + m) (left-push c xs x)
      ∙ sym (add_assoc (cond (same_cells (tuple y) c) (left y) 0) (left_of tuple left c xs) (cond (same_cells (tuple x) c) (left x) 0))

  -- of a tuple that stands nowhere none is left
  pub left-none : (c : Tuple) (xs : List L) → often c (map tuple xs) ≡ 0 → left_of tuple left c xs ≡ 0
  left-none c [] none = refl
  left-none c (x ∷ xs) none = elim (cases_Bool (same_cells (tuple x) c)) [
    | inl is ↦
        let one : ◌≡◌ {A = ℕ} (cond (same_cells (tuple x) c) 1 0) 1 = ap (λ b. cond b 1 0) is in
        absurd (omega (arith, one, none))
    | inr other ↦ ap (λ b. cond b (left x) 0 + left_of tuple left c xs) other ∙ zero-add (left_of tuple left c xs) ∙ left-none c xs (omega (arith, none))
  ]

  -- of a tuple that stands once so many are left as at its place
  pub left-at : (c : Tuple) (xs : List L) (k : ℕ) (d : L) → often c (map tuple xs) ≤ 1 → slice_get (map tuple xs) k ≡ Some c → left_of tuple left c xs ≡ left (get_or xs k d)
  left-at c [] k d once found = absurd (cc found)
  left-at c (x ∷ xs) zero d once found =
      let is : same_cells (tuple x) c ≡ true = (same_cells-decides (tuple x) c).1 (some-same (tuple x) c found) in
      let one : ◌≡◌ {A = ℕ} (cond (same_cells (tuple x) c) 1 0) 1 = ap (λ b. cond b 1 0) is in
      ap₂ (λ b m. cond b (left x) 0 + m) is (left-none c xs (omega (arith, one, once))) ∙ add-zero (left x)
  left-at c (x ∷ xs) (suc k) d once found = elim (cases_Bool (same_cells (tuple x) c)) [
    | inl is ↦
        let one : ◌≡◌ {A = ℕ} (cond (same_cells (tuple x) c) 1 0) 1 = ap (λ b. cond b 1 0) is in
        let more = often-some c (map tuple xs) k found in
        absurd (omega (arith, one, more, once))
    | inr other ↦ ap (λ b. cond b (left x) 0 + left_of tuple left c xs) other ∙ zero-add (left_of tuple left c xs) ∙ left-at c xs k d (omega (arith, once)) found
  ]

  pub left-set : (c : Tuple) (xs : List L) (k : ℕ) (new old : L) (x : Tuple) → slice_get (map tuple xs) k ≡ Some x → old ≡ get_or xs k old → tuple new ≡ tuple old
      → left_of tuple left c (set xs k new) + cond (same_cells x c) (left old) 0 ≡ left_of tuple left c xs + cond (same_cells x c) (left new) 0
  left-set c [] k new old x found is same = absurd (cc found)
  left-set c (y ∷ xs) zero new old x found is same =
      let at : tuple y ≡ x = some-same (tuple y) x found in
      let mine : cond (same_cells (tuple new) c) (left new) 0 ≡ cond (same_cells x c) (left new) 0 = ap (λ t. cond (same_cells t c) (left new) 0) (same ∙ ap tuple is ∙ at) in
      let theirs : cond (same_cells (tuple y) c) (left y) 0 ≡ cond (same_cells x c) (left old) 0 = ap₂ (λ t m. cond (same_cells t c) m 0) at (ap left (sym is)) in
      omega (arith, mine, theirs)
  left-set c (y ∷ xs) (suc k) new old x found is same = let rest = left-set c xs k new old x found is same in omega (arith, rest)

-- what is read twice at the place of a tuple
pub read-same : {L : Type 0} (tuple : L → Tuple) (xs : List L) (k : ℕ) (cells : Tuple) (a b : L) → slice_get (map tuple xs) k ≡ Some cells → a ≡ get_or xs k a → b ≡ get_or xs k b → a ≡ b
read-same tuple xs k cells a b found ea eb =
    let size = length-map xs tuple in
    let within = past-end (map tuple xs) k cells found in
    ea ∙ get_or_default xs k a b (omega (arith, size, within)) ∙ sym eb

pub within : {L : Type 0} (tuple : L → Tuple) (xs : List L) (k : ℕ) (cells : Tuple) → slice_get (map tuple xs) k ≡ Some cells → k < length xs
within tuple xs k cells found =
    let size = length-map xs tuple in
    let inside = past-end (map tuple xs) k cells found in
    omega (arith, size, inside)

-- one more is left
pub one-more : (b : Bool) (m n k : ℕ) → m + cond b k 0 ≡ n + cond b (k + 1) 0 → m ≡ n + cond b 1 0
one-more true m n k e = omega (arith, e)
one-more false m n k e = omega (arith, e)

-- one fewer is left
pub one-fewer : (b : Bool) (m n k l : ℕ) → l + 1 ≡ k → m + cond b k 0 ≡ n + cond b l 0 → n ≡ cond b 1 0 + m
one-fewer true m n k l less e = omega (arith, e, less)
one-fewer false m n k l less e = omega (arith, e)
