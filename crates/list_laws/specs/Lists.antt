-- What is found in lists, and lists with one element changed.
use Rattle.std.specs.Prelude.{ℕ, ◌≡◌, ◌==◌, ◌<◌, ◌+◌, if◌then◌else◌, Bool, true, false, List, [], ◌∷◌, Option, Some, None, length, insert, slice_set, slice_index_or, ⊤, ◌⊎◌}
use Rattle.std.specs.List.{list_any, remove}

-- x stands here
abbrev pub In : {X : Type 0} → X → List X → Type 0
In x [] = ⊥
In x (y ∷ ys) = (y ≡ x) ⊎ In x ys

-- a number stands here
abbrev pub holds : ℕ → List ℕ → Bool
holds b marks = list_any (λ m. m == b) marks

-- how often a number stands here
abbrev pub times : ℕ → List ℕ → ℕ
times x [] = 0
times x (y ∷ ys) = (if y == x then 1 else 0) + times x ys

-- no number stands here twice
abbrev pub EachOnce : List ℕ → Type 0
EachOnce [] = ⊤
EachOnce (x ∷ xs) = (holds x xs ≡ false) × EachOnce xs

-- the first that passes
abbrev pub first : {X : Type 0} → (X → Bool) → List X → Option X
first p [] = None
first p (x ∷ xs) = if p x then Some x else first p xs

-- the first that passes, changed; all else stays
abbrev pub change : {X : Type 0} → (X → Bool) → (X → X) → List X → List X
change p f [] = []
change p f (x ∷ xs) = if p x then f x ∷ xs else x ∷ change p f xs

-- without the first that passes; all else stays
abbrev pub without : {X : Type 0} → (X → Bool) → List X → List X
without p [] = []
without p (x ∷ xs) = if p x then xs else x ∷ without p xs

abbrev pub insert_found : {X : Type 0} → ℕ → Option X → List X → List X
insert_found i None xs = xs
insert_found i (Some x) xs = insert xs i x

-- the first that passes at place i, from 0, among the others
abbrev pub moved_to : {X : Type 0} → (X → Bool) → ℕ → List X → List X
moved_to p i xs = insert_found i (first p xs) (without p xs)

-- x just below the first that passes, else last
abbrev pub put_below : {X : Type 0} → (X → Bool) → X → List X → List X
put_below p x [] = x ∷ []
put_below p x (y ∷ ys) = if p y then y ∷ (x ∷ ys) else y ∷ put_below p x ys

-- each of these, from the left, done to what was made so far
abbrev pub each : {X A : Type 0} → (X → A → A) → List X → A → A
each f [] a = a
each f (x ∷ xs) a = each f xs (f x a)

-- the first that passes stands here: it is read here, and a write or a removal here is one of it alone
abbrev pub IsFirst : {X : Type 0} → (X → Bool) → List X → ℕ → Type 0
IsFirst {X} p xs i =
    (i < length xs)
    × ((d : X) → first p xs ≡ Some (slice_index_or xs i d))
    × ((d : X) → p (slice_index_or xs i d) ≡ true)
    × ((f : X → X) (y d : X) → y ≡ f (slice_index_or xs i d) → slice_set xs i y ≡ change p f xs)
    × (remove xs i ≡ without p xs)
