-- Numbers of a list, one after the other.
use Rattle.std.proofs.Common.{ℕ, zero, suc, ◌+◌, ◌<◌, ◌==◌, ◌≡◌, true, false, List, ◌∷◌, drop, length, slice_index_or, refl, ap, subst, ◌∙◌, eqb-true, arith, inl, inr, []}
use Rattle.std.proofs.lemmas.Bool.{cases_Bool}
use Rattle.list_laws.specs.Lists.{EachOnce, In, holds}
use Rattle.list_laws.proofs.Membership.{in-holds}
use Rattle.list_laws.proofs.Booleans.{clash}

pub drop-at : (xs : List ℕ) (i : ℕ) → i < length xs → drop i xs ≡ slice_index_or xs i 0 ∷ drop (i + 1) xs
drop-at [] i h = absurd (omega arith)
drop-at (x ∷ xs) zero h = refl
drop-at (x ∷ xs) (suc i) h =
    let e : suc (i + 1) ≡ suc i + 1 = omega arith in
    drop-at xs i (let d : length (x ∷ xs) ≡ suc (length xs) = refl in omega (arith, h, d)) ∙ ap (λ j. slice_index_or (x ∷ xs) (suc i) 0 ∷ drop j (x ∷ xs)) e

pub other-once : (x q : ℕ) (xs : List ℕ) → EachOnce (x ∷ xs) → In q xs → (q == x) ≡ false
other-once x q xs once i = elim (cases_Bool (q == x)) [
  | inr f ↦ f
  | inl t ↦ absurd (clash (holds x xs) (subst (λ z. holds z xs ≡ true) (eqb-true q x t) (in-holds q xs i)) once.0)
]
