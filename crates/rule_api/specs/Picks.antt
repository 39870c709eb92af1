-- The places at which a test passes, in order.
use Rattle.std.specs.Prelude.{ℕ, ◌+◌, ◌≡◌, ◌++◌, ◌⊎◌, if◌then◌else◌, Bool, true, List, [], ◌∷◌}
use Rattle.rule_api.specs.Rules.{Pair}

-- a place, where a test passes
abbrev pub picked : Bool → ℕ → ℕ → List Pair
picked passes i j = if passes then (i, j) ∷ [] else []

-- those of these, numbered from first on, that pass
abbrev pub picks : {X : Type 0} → (X → Bool) → ℕ → List X → List Pair
picks p first [] = []
picks p first (x ∷ xs) = picked (p x) first 0 ++ picks p (first + 1) xs

-- i is the number of one that passes
abbrev pub Passes : {X : Type 0} → (X → Bool) → ℕ → List X → ℕ → Type 0
Passes p first [] i = ⊥
Passes p first (x ∷ xs) i = ((i ≡ first) × (p x ≡ true)) ⊎ Passes p (first + 1) xs i

-- those of these, numbered from first on, that pass, with i before each
abbrev pub row : {X : Type 0} → (X → Bool) → ℕ → ℕ → List X → List Pair
row p i first [] = []
row p i first (y ∷ ys) = picked (p y) i first ++ row p i (first + 1) ys

-- two of these, the first before the second, that pass together
abbrev pub grid : {X : Type 0} → (X → X → Bool) → ℕ → List X → List Pair
grid t first [] = []
grid t first (x ∷ xs) = row (t x) first (first + 1) xs ++ grid t (first + 1) xs

-- i and j are the numbers of such two
abbrev pub PassesBoth : {X : Type 0} → (X → X → Bool) → ℕ → List X → ℕ → ℕ → Type 0
PassesBoth t first [] i j = ⊥
PassesBoth t first (x ∷ xs) i j = ((i ≡ first) × Passes (t x) (first + 1) xs j) ⊎ PassesBoth t (first + 1) xs i j

-- each of these, numbered from first on, with each of all, numbered from 1 on, that pass together
abbrev pub cross : {X : Type 0} → (X → X → Bool) → List X → ℕ → List X → List Pair
cross t all first [] = []
cross t all first (x ∷ xs) = row (t x) first 1 all ++ cross t all (first + 1) xs

-- i and j are the numbers of such two, i among these and j among all
abbrev pub PassesTwo : {X : Type 0} → (X → X → Bool) → List X → ℕ → List X → ℕ → ℕ → Type 0
PassesTwo t all first [] i j = ⊥
PassesTwo t all first (x ∷ xs) i j = ((i ≡ first) × Passes (t x) 1 all j) ⊎ PassesTwo t all (first + 1) xs i j
