-- The first element that passes.
use Rattle.std.proofs.Common.{◌≡◌, ℕ, zero, suc, ◌<◌, ◌≤◌, ◌+◌, ◌||◌, Bool, true, false, List, [], ◌∷◌, length, get_or, refl, sym, ap, ◌∙◌, arith, Some, None, cond, nat_lt, not, position, insert, add-one}
use Rattle.std.proofs.Math.ListN.{set}
use Rattle.std.specs.Prelude.{is_some, IsSome}
use Rattle.std.specs.List.{list_any, position_or_len, remove}
use Rattle.std.proofs.lemmas.List.Quantifiers.{position-Some}
use Rattle.std.proofs.lemmas.Bool.{ltb-false}
use Rattle.std.proofs.lemmas.Grind.{common_steps}
use Rattle.list_laws.specs.Lists.{change, first, put_below, without, IsFirst}

none_by : (m n : ℕ) (b : Bool) → b ≡ nat_lt m n → cond b (Some m) None ≡ None → n ≤ m
none_by m n true h e = absurd (let q : ⊥ = cc in q)
none_by m n false h e = ltb-false m n (sym h)

any_step : (t a : Bool) (m n : ℕ) → (t || a) ≡ true → (a ≡ true → m < n) → cond (not t) (1 + m) 0 < suc n
any_step true a m n h r = omega arith
any_step false a m n h r = let k = r h in omega arith

module _ {X : Type 0} (p : X → Bool) where
  first_at : (xs : List X) (i : ℕ) (d : X) → i < length xs → p (get_or xs i d) ≡ true → ((k : ℕ) → k < i → p (get_or xs k d) ≡ false) → first p xs ≡ Some (get_or xs i d)
  first_at [] i d h t n = absurd (omega arith)
  first_at (x ∷ xs) zero d h t n = rw t refl
  first_at (x ∷ xs) (suc i) d h t n = rw (n zero (omega arith)) (first_at xs i d (omega arith) t (λ k l. n (suc k) (omega arith)))

  change_at : (f : X → X) (xs : List X) (i : ℕ) (y d : X) → i < length xs → p (get_or xs i d) ≡ true →
      ((k : ℕ) → k < i → p (get_or xs k d) ≡ false) → y ≡ f (get_or xs i d) → set xs i y ≡ change p f xs
  change_at f [] i y d h t n e = absurd (omega arith)
  change_at f (x ∷ xs) zero y d h t n e = rw t (ap (λ z. z ∷ xs) e)
  change_at f (x ∷ xs) (suc i) y d h t n e =
      rw (n zero (omega arith)) (ap (λ zs. x ∷ zs) (change_at f xs i y d (omega arith) t (λ k l. n (suc k) (omega arith)) e))

  put_below_at : (xs : List X) (i : ℕ) (y d : X) → i < length xs → p (get_or xs i d) ≡ true →
      ((k : ℕ) → k < i → p (get_or xs k d) ≡ false) → insert xs (suc i) y ≡ put_below p y xs
  put_below_at [] i y d h t n = absurd (omega arith)
  put_below_at (x ∷ xs) zero y d h t n = rw t refl
  put_below_at (x ∷ xs) (suc i) y d h t n =
      rw (n zero (omega arith)) (ap (λ zs. x ∷ zs) (put_below_at xs i y d (omega arith) t (λ k l. n (suc k) (omega arith))))

  without_at : (xs : List X) (i : ℕ) (d : X) → i < length xs → p (get_or xs i d) ≡ true → ((k : ℕ) → k < i → p (get_or xs k d) ≡ false) → remove xs i ≡ without p xs
  without_at [] i d h t n = absurd (omega arith)
  without_at (x ∷ xs) zero d h t n = rw t refl
  without_at (x ∷ xs) (suc i) d h t n = rw (n zero (omega arith)) (ap (λ zs. x ∷ zs) (without_at xs i d (omega arith) t (λ k l. n (suc k) (omega arith))))

  removed : (xs : List X) (i : ℕ) → position p xs ≡ Some i → remove xs i ≡ without p xs
  removed [] i e = absurd (let q : ⊥ = cc in q)
  removed (x ∷ xs) i e = let at = position-Some p (x ∷ xs) i x e in without_at (x ∷ xs) i x at.0 at.1 at.2

  within : (xs : List X) (i : ℕ) → position p xs ≡ Some i → i < length xs
  within [] i e = absurd (let q : ⊥ = cc in q)
  within (x ∷ xs) i e = (position-Some p (x ∷ xs) i x e).0

  pub is_first : (xs : List X) (i : ℕ) → position p xs ≡ Some i → IsFirst p xs i
  is_first xs i e =
      let at = λ (d : X). position-Some p xs i d e in
      let h = within xs i e in
      (h, (λ d. first_at xs i d h (at d).1 (at d).2), (λ d. (at d).1), λ f y d r. change_at f xs i y d h (at d).1 (at d).2 r, removed xs i e)

  pub goes_below : (xs : List X) (i : ℕ) (y : X) → position p xs ≡ Some i → insert xs (i + 1) y ≡ put_below p y xs
  goes_below xs i y e = let at = position-Some p xs i y e in rw (add-one i) (put_below_at xs i y y (within xs i e) at.1 at.2)

  pub any_found : (xs : List X) → is_some (position p xs) ≡ list_any p xs
  any_found [] = refl
  any_found (x ∷ xs) = let k = any_found xs in grind (arith, common_steps)

  any_within : (xs : List X) → list_any p xs ≡ true → position_or_len p xs < length xs
  any_within [] h = absurd (let q : ⊥ = cc in q)
  any_within (x ∷ xs) h = any_step (p x) (list_any p xs) (position_or_len p xs) (length xs) h (any_within xs)

  pub is_there : (xs : List X) → list_any p xs ≡ true → IsSome (position p xs)
  is_there xs h = any_found xs ∙ h

  pub absent : (xs : List X) → position p xs ≡ None → list_any p xs ≡ true → ⊥
  absent xs e h =
      let l = none_by (position_or_len p xs) (length xs) (nat_lt (position_or_len p xs) (length xs)) refl e in
      let k = any_within xs h in omega arith
