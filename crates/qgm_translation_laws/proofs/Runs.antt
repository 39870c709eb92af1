-- Elements at places of lists, and runs of them.
use Rattle.std.proofs.Common.{◌≡◌, ◌+◌, ℕ, zero, suc, List, [], ◌∷◌, ◌++◌, get_or, length, Option, None, refl, subst, arith}
use Rattle.std.specs.Prelude.{⊤}

-- x stands at a place
abbrev pub Stands : {A : Type 0} → List A → ℕ → A → Type 0
Stands [] place x = ⊥
Stands (y ∷ ys) zero x = y ≡ x
Stands (y ∷ ys) (suc place) x = Stands ys place x

-- these stand side by side, the first at a place
abbrev pub Run : {A : Type 0} → List A → ℕ → List A → Type 0
Run ys place [] = ⊤
Run ys place (x ∷ xs) = Stands ys place x × Run ys (suc place) xs

pub stands_at : {A : Type 0} (xs : List A) (m n : ℕ) (x : A) → m ≡ n → Stands xs m x → Stands xs n x
stands_at xs m n x e h = subst (λ (k : ℕ). Stands xs k x) e h

pub run_at : {A : Type 0} (xs : List A) (m n : ℕ) (ys : List A) → m ≡ n → Run xs m ys → Run xs n ys
run_at xs m n ys e h = subst (λ (k : ℕ). Run xs k ys) e h

pub stands_left : {A : Type 0} (xs ys : List A) (place : ℕ) (x : A) → Stands xs place x → Stands (xs ++ ys) place x
stands_left [] ys place x h = absurd h
stands_left (z ∷ xs) ys zero x h = h
stands_left (z ∷ xs) ys (suc place) x h = stands_left xs ys place x h

pub stands_later : {A : Type 0} (xs ys : List A) (place : ℕ) (x : A) → Stands ys place x → Stands (xs ++ ys) (length xs + place) x
stands_later [] ys place x h = stands_at ys place (0 + place) x (omega arith) h
stands_later (z ∷ xs) ys place x h = stands_at (z ∷ xs ++ ys) (suc (length xs + place)) (length (z ∷ xs) + place) x (omega arith) (stands_later xs ys place x h)

run_more : {A : Type 0} (z : A) (xs : List A) (place : ℕ) (ys : List A) → Run xs place ys → Run (z ∷ xs) (suc place) ys
run_more z xs place [] h = tt
run_more z xs place (y ∷ ys) h = (h.0, run_more z xs (suc place) ys h.1)

pub run_here : {A : Type 0} (xs ys : List A) → Run (xs ++ ys) 0 xs
run_here [] ys = tt
run_here (x ∷ xs) ys = (refl, run_more x (xs ++ ys) 0 xs (run_here xs ys))

pub run_all : {A : Type 0} (xs : List A) → Run xs 0 xs
run_all [] = tt
run_all (x ∷ xs) = (refl, run_more x xs 0 xs (run_all xs))

pub run_later : {A : Type 0} (xs ys : List A) (place : ℕ) (zs : List A) → Run ys place zs → Run (xs ++ ys) (length xs + place) zs
run_later [] ys place zs h = run_at ys place (0 + place) zs (omega arith) h
run_later (x ∷ xs) ys place zs h = run_at (x ∷ xs ++ ys) (suc (length xs + place)) (length (x ∷ xs) + place) zs (omega arith) (run_more x (xs ++ ys) (length xs + place) zs (run_later xs ys place zs h))

-- what stands in a run stands so much further on
pub stands_run : {A : Type 0} (xs : List A) (first : ℕ) (ys : List A) (place : ℕ) (x : A) → Run xs first ys → Stands ys place x → Stands xs (first + place) x
stands_run xs first [] place x r h = absurd h
stands_run xs first (y ∷ ys) zero x r h = stands_at xs first (first + 0) x (omega arith) (subst (Stands xs first) h r.0)
stands_run xs first (y ∷ ys) (suc place) x r h = stands_at xs (suc first + place) (first + suc place) x (omega arith) (stands_run xs (suc first) ys place x r.1 h)

pub stands_get : {A : Type 0} (xs : List (Option A)) (place : ℕ) (x : Option A) → Stands xs place x → get_or xs place None ≡ x
stands_get [] place x h = absurd h
stands_get (y ∷ xs) zero x h = h
stands_get (y ∷ xs) (suc place) x h = stands_get xs place x h
