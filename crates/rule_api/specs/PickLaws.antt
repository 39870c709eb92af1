-- The lists of places hold exactly those that pass, in order.
use Rattle.std.proofs.Common.{ℕ, ◌+◌, ◌≡◌, ◌<◌, ◌≤◌, Bool, true, false, List, [], ◌∷◌, ◌++◌, ◌⊎◌, inl, inr, refl, sym, ◌∙◌, ap, arith}
use Rattle.std.specs.Prelude.{◌↔◌}
use Rattle.list_laws.specs.Lists.{In}
use Rattle.rule_api.specs.Picks.{Passes, PassesBoth, PassesTwo, cross, grid, picked, picks, row}
use Rattle.rule_api.specs.Rules.{Ascending, Before, BeforeAll, Pair}

same-pair : (p q : Pair) → p.0 ≡ q.0 → p.1 ≡ q.1 → q ≡ p
same-pair p q e f = ap (λ a. (a, q.1)) (sym e) ∙ ap (λ a. (p.0, a)) (sym f)

module _ {X : Type 0} (t : X → Bool) where
  to : (first : ℕ) (xs : List X) (p : Pair) → In p (picks t first xs) → (p.1 ≡ 0) × Passes t first xs p.0
  to first [] p h = elim h [ ]
  to first (x ∷ xs) p h =
      elim (t x) as (λ v. In p (picked v first 0 ++ picks t (first + 1) xs) → (p.1 ≡ 0) × (((p.0 ≡ first) × (v ≡ true)) ⊎ Passes t (first + 1) xs p.0)) [
        | true ↦ λ h. elim h [ inl e ↦ (ap (λ z. z.1) (sym e), inl (ap (λ z. z.0) (sym e), refl)) | inr i ↦ (let r = to (first + 1) xs p i in (r.0, inr r.1)) ]
        | false ↦ λ i. (let r = to (first + 1) xs p i in (r.0, inr r.1))
      ] h

  from : (first : ℕ) (xs : List X) (p : Pair) → p.1 ≡ 0 → Passes t first xs p.0 → In p (picks t first xs)
  from first [] p j h = elim h [ ]
  from first (x ∷ xs) p j h =
      elim (t x) as (λ v. (((p.0 ≡ first) × (v ≡ true)) ⊎ Passes t (first + 1) xs p.0) → In p (picked v first 0 ++ picks t (first + 1) xs)) [
        | true ↦ λ h. elim h [ inl k ↦ inl (same-pair p (first, 0) k.0 j) | inr k ↦ inr (from (first + 1) xs p j k) ]
        | false ↦ λ h. elim h [ inl k ↦ absurd (let q : ⊥ = cc in q) | inr k ↦ from (first + 1) xs p j k ]
      ] h

  pub picks_exact : (first : ℕ) (xs : List X) (i j : ℕ) → In (i, j) (picks t first xs) ↔ ((j ≡ 0) × Passes t first xs i)
  picks_exact first xs i j = (to first xs (i, j), λ h. from first xs (i, j) h.0 h.1)

  after : (n first : ℕ) (xs : List X) → n < first → BeforeAll (n, 0) (picks t first xs)
  after n first [] h = tt
  after n first (x ∷ xs) h =
      elim (t x) as (λ v. BeforeAll (n, 0) (picked v first 0 ++ picks t (first + 1) xs)) [
        | true ↦ (inl h, after n (first + 1) xs (omega arith))
        | false ↦ after n (first + 1) xs (omega arith)
      ]

  pub picks_ascending : (first : ℕ) (xs : List X) → Ascending (picks t first xs)
  picks_ascending first [] = tt
  picks_ascending first (x ∷ xs) =
      elim (t x) as (λ v. Ascending (picked v first 0 ++ picks t (first + 1) xs)) [
        | true ↦ (after first (first + 1) xs (omega arith), picks_ascending (first + 1) xs)
        | false ↦ picks_ascending (first + 1) xs
      ]

-- one place, where a test passes
once_to : (v : Bool) (p : Pair) → In p (picked v 0 0) → (p.1 ≡ 0) × ((p.0 ≡ 0) × (v ≡ true))
once_to true p h = elim h [ inl e ↦ (ap (λ z. z.1) (sym e), (ap (λ z. z.0) (sym e), refl)) | inr i ↦ elim i [ ] ]
once_to false p h = elim h [ ]

once_from : (v : Bool) (p : Pair) → p.1 ≡ 0 → p.0 ≡ 0 → v ≡ true → In p (picked v 0 0)
once_from true p j i t = inl (same-pair p (0, 0) i j)
once_from false p j i t = absurd (let q : ⊥ = cc in q)

pub once_exact : (v : Bool) (i j : ℕ) → In (i, j) (picked v 0 0) ↔ ((j ≡ 0) × ((i ≡ 0) × (v ≡ true)))
once_exact v i j = (once_to v (i, j), λ h. once_from v (i, j) h.0 h.1.0 h.1.1)

pub once_ascending : (v : Bool) → Ascending (picked v 0 0)
once_ascending true = (tt, tt)
once_ascending false = tt

-- ---- places of two numbers

in-append : (x : Pair) (a b : List Pair) → In x (a ++ b) → In x a ⊎ In x b
in-append x [] b h = inr h
in-append x (y ∷ a) b (inl e) = inl (inl e)
in-append x (y ∷ a) b (inr h) = elim (in-append x a b h) [ inl i ↦ inl (inr i) | inr i ↦ inr i ]

in-left : (x : Pair) (a b : List Pair) → In x a → In x (a ++ b)
in-left x [] b h = elim h [ ]
in-left x (y ∷ a) b (inl e) = inl e
in-left x (y ∷ a) b (inr h) = inr (in-left x a b h)

in-right : (x : Pair) (a b : List Pair) → In x b → In x (a ++ b)
in-right x [] b h = h
in-right x (y ∷ a) b h = inr (in-right x a b h)

-- in order, where all of the first are before all of the second
after-append : (p : Pair) (a b : List Pair) → BeforeAll p a → BeforeAll p b → BeforeAll p (a ++ b)
after-append p [] b h k = k
after-append p (x ∷ a) b h k = (h.0, after-append p a b h.1 k)

all-after : (p : Pair) (b : List Pair) → ((y : Pair) → In y b → Before p y) → BeforeAll p b
all-after p [] h = tt
all-after p (y ∷ b) h = (h y (inl refl), all-after p b (λ z i. h z (inr i)))

ascending-append : (a b : List Pair) → Ascending a → Ascending b → ((x y : Pair) → In x a → In y b → Before x y) → Ascending (a ++ b)
ascending-append [] b h k n = k
ascending-append (x ∷ a) b h k n = (after-append x a b h.0 (all-after x b (λ y i. n x y (inl refl) i)), ascending-append a b h.1 k (λ z y i j. n z y (inr i) j))

module _ {X : Type 0} where
  row-to : (p : X → Bool) (i first : ℕ) (ys : List X) (x : Pair) → In x (row p i first ys) → (x.0 ≡ i) × Passes p first ys x.1
  row-to p i first [] x h = elim h [ ]
  row-to p i first (y ∷ ys) x h =
      elim (p y) as (λ v. In x (picked v i first ++ row p i (first + 1) ys) → (x.0 ≡ i) × (((x.1 ≡ first) × (v ≡ true)) ⊎ Passes p (first + 1) ys x.1)) [
        | true ↦ λ h. elim h [ inl e ↦ (ap (λ z. z.0) (sym e), inl (ap (λ z. z.1) (sym e), refl)) | inr k ↦ (let r = row-to p i (first + 1) ys x k in (r.0, inr r.1)) ]
        | false ↦ λ k. (let r = row-to p i (first + 1) ys x k in (r.0, inr r.1))
      ] h

  row-from : (p : X → Bool) (i first : ℕ) (ys : List X) (x : Pair) → x.0 ≡ i → Passes p first ys x.1 → In x (row p i first ys)
  row-from p i first [] x e h = elim h [ ]
  row-from p i first (y ∷ ys) x e h =
      elim (p y) as (λ v. (((x.1 ≡ first) × (v ≡ true)) ⊎ Passes p (first + 1) ys x.1) → In x (picked v i first ++ row p i (first + 1) ys)) [
        | true ↦ λ h. elim h [ inl k ↦ inl (same-pair x (i, first) e k.0) | inr k ↦ inr (row-from p i (first + 1) ys x e k) ]
        | false ↦ λ h. elim h [ inl k ↦ absurd (let q : ⊥ = cc in q) | inr k ↦ row-from p i (first + 1) ys x e k ]
      ] h

  passes-from : (p : X → Bool) (first : ℕ) (ys : List X) (j : ℕ) → Passes p first ys j → first ≤ j
  passes-from p first [] j h = elim h [ ]
  passes-from p first (y ∷ ys) j h = elim h [ inl k ↦ (let e = k.0 in omega arith) | inr k ↦ (let r = passes-from p (first + 1) ys j k in omega arith) ]

  row-ascending : (p : X → Bool) (i first : ℕ) (ys : List X) → Ascending (row p i first ys)
  row-ascending p i first [] = tt
  row-ascending p i first (y ∷ ys) =
      elim (p y) as (λ v. Ascending (picked v i first ++ row p i (first + 1) ys)) [
        | true ↦ (all-after (i, first) (row p i (first + 1) ys) (λ z k. (let r = row-to p i (first + 1) ys z k in let f = passes-from p (first + 1) ys z.1 r.1 in inr (sym r.0, omega arith))), row-ascending p i (first + 1) ys)
        | false ↦ row-ascending p i (first + 1) ys
      ]

  grid-to : (t : X → X → Bool) (first : ℕ) (xs : List X) (x : Pair) → In x (grid t first xs) → PassesBoth t first xs x.0 x.1
  grid-to t first [] x h = elim h [ ]
  grid-to t first (y ∷ ys) x h =
      elim (in-append x (row (t y) first (first + 1) ys) (grid t (first + 1) ys) h) [ inl k ↦ inl (row-to (t y) first (first + 1) ys x k) | inr k ↦ inr (grid-to t (first + 1) ys x k) ]

  grid-from : (t : X → X → Bool) (first : ℕ) (xs : List X) (x : Pair) → PassesBoth t first xs x.0 x.1 → In x (grid t first xs)
  grid-from t first [] x h = elim h [ ]
  grid-from t first (y ∷ ys) x h =
      elim h [
        | inl k ↦ in-left x (row (t y) first (first + 1) ys) (grid t (first + 1) ys) (row-from (t y) first (first + 1) ys x k.0 k.1)
        | inr k ↦ in-right x (row (t y) first (first + 1) ys) (grid t (first + 1) ys) (grid-from t (first + 1) ys x k)
      ]

  pub grid_exact : (t : X → X → Bool) (first : ℕ) (xs : List X) (i j : ℕ) → In (i, j) (grid t first xs) ↔ PassesBoth t first xs i j
  grid_exact t first xs i j = (grid-to t first xs (i, j), grid-from t first xs (i, j))

  both-from : (t : X → X → Bool) (first : ℕ) (xs : List X) (i j : ℕ) → PassesBoth t first xs i j → first ≤ i
  both-from t first [] i j h = elim h [ ]
  both-from t first (y ∷ ys) i j h = elim h [ inl k ↦ (let e = k.0 in omega arith) | inr k ↦ (let r = both-from t (first + 1) ys i j k in omega arith) ]

  pub grid_ascending : (t : X → X → Bool) (first : ℕ) (xs : List X) → Ascending (grid t first xs)
  grid_ascending t first [] = tt
  grid_ascending t first (y ∷ ys) =
      ascending-append (row (t y) first (first + 1) ys) (grid t (first + 1) ys) (row-ascending (t y) first (first + 1) ys) (grid_ascending t (first + 1) ys)
      (λ x z i k. (let a = (row-to (t y) first (first + 1) ys x i).0 in let b = both-from t (first + 1) ys z.0 z.1 (grid-to t (first + 1) ys z k) in inl (omega arith)))

  -- ---- ordered pairs

  module _ (t : X → X → Bool) (all : List X) where
    cross-to : (first : ℕ) (xs : List X) (x : Pair) → In x (cross t all first xs) → PassesTwo t all first xs x.0 x.1
    cross-to first [] x h = elim h [ ]
    cross-to first (y ∷ ys) x h = elim (in-append x (row (t y) first 1 all) (cross t all (first + 1) ys) h) [ inl k ↦ inl (row-to (t y) first 1 all x k) | inr k ↦ inr (cross-to (first + 1) ys x k) ]

    cross-from : (first : ℕ) (xs : List X) (x : Pair) → PassesTwo t all first xs x.0 x.1 → In x (cross t all first xs)
    cross-from first [] x h = elim h [ ]
    cross-from first (y ∷ ys) x h = elim h [
      | inl k ↦ in-left x (row (t y) first 1 all) (cross t all (first + 1) ys) (row-from (t y) first 1 all x k.0 k.1)
      | inr k ↦ in-right x (row (t y) first 1 all) (cross t all (first + 1) ys) (cross-from (first + 1) ys x k)
    ]

    pub cross_exact : (first : ℕ) (xs : List X) (i j : ℕ) → In (i, j) (cross t all first xs) ↔ PassesTwo t all first xs i j
    cross_exact first xs i j = (cross-to first xs (i, j), cross-from first xs (i, j))

    two-from : (first : ℕ) (xs : List X) (i j : ℕ) → PassesTwo t all first xs i j → first ≤ i
    two-from first [] i j h = elim h [ ]
    two-from first (y ∷ ys) i j h = elim h [ inl k ↦ (let e = k.0 in omega arith) | inr k ↦ (let r = two-from (first + 1) ys i j k in omega arith) ]

    pub cross_ascending : (first : ℕ) (xs : List X) → Ascending (cross t all first xs)
    cross_ascending first [] = tt
    cross_ascending first (y ∷ ys) =
        ascending-append (row (t y) first 1 all) (cross t all (first + 1) ys) (row-ascending (t y) first 1 all) (cross_ascending (first + 1) ys)
        (λ x z i k. (let a = (row-to (t y) first 1 all x i).0 in let b = two-from (first + 1) ys z.0 z.1 (cross-to (first + 1) ys z k) in inl (omega arith)))

-- ---- what holds of the lists

pub record OnceIsExact : Type 0 where
  pub exact : (v : Bool) (i j : ℕ) → In (i, j) (picked v 0 0) ↔ ((j ≡ 0) × ((i ≡ 0) × (v ≡ true)))
  pub ascends : (v : Bool) → Ascending (picked v 0 0)

-- of lists of numbers, by whatever test
pub record PicksAreExact : Type 0 where
  pub exact : (t : ℕ → Bool) (first : ℕ) (xs : List ℕ) (i j : ℕ) → In (i, j) (picks t first xs) ↔ ((j ≡ 0) × Passes t first xs i)
  pub ascends : (t : ℕ → Bool) (first : ℕ) (xs : List ℕ) → Ascending (picks t first xs)

pub record GridIsExact : Type 0 where
  pub exact : (t : ℕ → ℕ → Bool) (first : ℕ) (xs : List ℕ) (i j : ℕ) → In (i, j) (grid t first xs) ↔ PassesBoth t first xs i j
  pub ascends : (t : ℕ → ℕ → Bool) (first : ℕ) (xs : List ℕ) → Ascending (grid t first xs)

pub record CrossIsExact : Type 0 where
  pub exact : (t : ℕ → ℕ → Bool) (all : List ℕ) (first : ℕ) (xs : List ℕ) (i j : ℕ) → In (i, j) (cross t all first xs) ↔ PassesTwo t all first xs i j
  pub ascends : (t : ℕ → ℕ → Bool) (all : List ℕ) (first : ℕ) (xs : List ℕ) → Ascending (cross t all first xs)
