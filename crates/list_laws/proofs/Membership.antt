-- What stands in lists.
use Rattle.std.proofs.Common.{ℕ, ◌==◌, ◌≡◌, ◌||◌, cond, Bool, true, false, List, [], ◌∷◌, ◌++◌, map, filter, refl, sym, ap, subst, ◌∙◌, eqb-true, ◌⊎◌, inl, inr}
use Rattle.std.specs.List.{list_any, list_all, flat_map}
use Rattle.std.proofs.lemmas.Bool.{and_parts, and_from, or_cases, or_from, or_left, or_right, cases_Bool, eq-eqb}
use Rattle.list_laws.specs.Lists.{In, holds}
use Rattle.list_laws.proofs.Booleans.{clash}

-- ---- any, all

pub any-in : {X : Type 0} (p : X → Bool) (xs : List X) → list_any p xs ≡ true → (x : X) × (In x xs × (p x ≡ true))
any-in p [] h = absurd (let z : ⊥ = cc in z)
any-in p (x ∷ xs) h = elim (or_cases (p x) (list_any p xs) h) [
  | inl t ↦ (x, (inl refl, t))
  | inr t ↦ (let r = any-in p xs t in (r.0, (inr r.1.0, r.1.1)))
]

pub any-from : {X : Type 0} (p : X → Bool) (x : X) (xs : List X) → In x xs → p x ≡ true → list_any p xs ≡ true
any-from p x [] i h = elim i [ ]
any-from p x (y ∷ xs) i h = elim i [
  | inl e ↦ or_left (p y) (list_any p xs) (subst (λ z. p z ≡ true) (sym e) h)
  | inr j ↦ or_right (p y) (list_any p xs) (any-from p x xs j h)
]

pub any-none : {X : Type 0} (p : X → Bool) (x : X) (xs : List X) → list_any p xs ≡ false → In x xs → p x ≡ false
any-none p x xs n i = elim (cases_Bool (p x)) [ inl t ↦ absurd (clash (list_any p xs) (any-from p x xs i t) n) | inr f ↦ f ]

pub any-not : {X : Type 0} (p : X → Bool) (xs : List X) → ((x : X) → In x xs → p x ≡ false) → list_any p xs ≡ false
any-not p [] h = refl
any-not p (x ∷ xs) h = or_from (p x) (list_any p xs) (h x (inl refl)) (any-not p xs (λ y i. h y (inr i)))

pub all-in : {X : Type 0} (p : X → Bool) (x : X) (xs : List X) → list_all p xs ≡ true → In x xs → p x ≡ true
all-in p x [] h i = elim i [ ]
all-in p x (y ∷ xs) h i =
    let ps = and_parts (p y) (list_all p xs) h in
    elim i [
      | inl e ↦ subst (λ z. p z ≡ true) e ps.0
      | inr j ↦ all-in p x xs ps.1 j
    ]

pub all-from : {X : Type 0} (p : X → Bool) (xs : List X) → ((x : X) → In x xs → p x ≡ true) → list_all p xs ≡ true
all-from p [] h = refl
all-from p (x ∷ xs) h = and_from (p x) (list_all p xs) (h x (inl refl)) (all-from p xs (λ y i. h y (inr i)))

pub eq-itself : (q : ℕ) → (q == q) ≡ true
eq-itself q = eq-eqb q q refl

pub holds-in : (b : ℕ) (ms : List ℕ) → holds b ms ≡ true → In b ms
holds-in b ms h = let x = any-in (λ m. m == b) ms h in subst (λ z. In z ms) (eqb-true x.0 b x.1.1) x.1.0

pub in-holds : (b : ℕ) (ms : List ℕ) → In b ms → holds b ms ≡ true
in-holds b ms i = any-from (λ m. m == b) b ms i (eq-itself b)

-- ---- lists put together

pub in-left : {X : Type 0} (x : X) (xs ys : List X) → In x xs → In x (xs ++ ys)
in-left x [] ys i = elim i [ ]
in-left x (z ∷ xs) ys i = elim i [ inl e ↦ inl e | inr j ↦ inr (in-left x xs ys j) ]

pub in-right : {X : Type 0} (x : X) (xs ys : List X) → In x ys → In x (xs ++ ys)
in-right x [] ys i = i
in-right x (z ∷ xs) ys i = inr (in-right x xs ys i)

pub in-append : {X : Type 0} (x : X) (xs ys : List X) → In x (xs ++ ys) → In x xs ⊎ In x ys
in-append x [] ys i = inr i
in-append x (z ∷ xs) ys i = elim i [ inl e ↦ inl (inl e) | inr j ↦ elim (in-append x xs ys j) [ inl k ↦ inl (inr k) | inr k ↦ inr k ] ]

pub append-one : {X : Type 0} (xs : List X) (x : X) (ys : List X) → (xs ++ x ∷ []) ++ ys ≡ xs ++ x ∷ ys
append-one [] x ys = refl
append-one (z ∷ xs) x ys = ap (λ t. z ∷ t) (append-one xs x ys)

pub in-map : {X Y : Type 0} (f : X → Y) (y : Y) (xs : List X) → In y (map f xs) → (x : X) × (In x xs × (f x ≡ y))
in-map f y [] i = elim i [ ]
in-map f y (x ∷ xs) i = elim i [ inl e ↦ (x, (inl refl, e)) | inr j ↦ (let r = in-map f y xs j in (r.0, (inr r.1.0, r.1.1))) ]

pub map-in : {X Y : Type 0} (f : X → Y) (x : X) (xs : List X) → In x xs → In (f x) (map f xs)
map-in f x [] i = elim i [ ]
map-in f x (y ∷ xs) i = elim i [ inl e ↦ inl (ap f e) | inr j ↦ inr (map-in f x xs j) ]

pub in-flat : {X Y : Type 0} (f : X → List Y) (y : Y) (xs : List X) → In y (flat_map f xs) → (x : X) × (In x xs × In y (f x))
in-flat f y [] i = elim i [ ]
in-flat f y (x ∷ xs) i = elim (in-append y (f x) (flat_map f xs) i) [
  | inl j ↦ (x, (inl refl, j))
  | inr j ↦ (let r = in-flat f y xs j in (r.0, (inr r.1.0, r.1.1)))
]

pub flat-in : {X Y : Type 0} (f : X → List Y) (x : X) (y : Y) (xs : List X) → In x xs → In y (f x) → In y (flat_map f xs)
flat-in f x y [] i j = elim i [ ]
flat-in f x y (z ∷ xs) i j = elim i [
  | inl e ↦ in-left y (f z) (flat_map f xs) (subst (λ w. In y (f w)) (sym e) j)
  | inr k ↦ in-right y (f z) (flat_map f xs) (flat-in f x y xs k j)
]

pub in-filter : {X : Type 0} (p : X → Bool) (x : X) (xs : List X) → In x (filter p xs) → In x xs × (p x ≡ true)
in-filter p x [] i = elim i [ ]
in-filter p x (y ∷ xs) i = elim (p y) as (λ t. p y ≡ t → In x (cond t (y ∷ filter p xs) (filter p xs)) → In x (y ∷ xs) × (p x ≡ true)) [
  | true ↦ λ t i. elim i [ inl e ↦ (inl e, subst (λ z. p z ≡ true) e t) | inr j ↦ (let r = in-filter p x xs j in (inr r.0, r.1)) ]
  | false ↦ λ t i. (let r = in-filter p x xs i in (inr r.0, r.1))
] refl i

pub filter-in : {X : Type 0} (p : X → Bool) (x : X) (xs : List X) → In x xs → p x ≡ true → In x (filter p xs)
filter-in p x [] i k = elim i [ ]
filter-in p x (y ∷ xs) i k = elim (p y) as (λ t. p y ≡ t → In x (cond t (y ∷ filter p xs) (filter p xs))) [
  | true ↦ λ t. elim i [ inl e ↦ inl e | inr j ↦ inr (filter-in p x xs j k) ]
  | false ↦ λ t. elim i [ inl e ↦ absurd (clash (p x) k (subst (λ z. p z ≡ false) e t)) | inr j ↦ filter-in p x xs j k ]
] refl

-- ---- equal numbers

-- numbers that a test tells apart
pub other : (P : ℕ → Bool) (p r : ℕ) → P p ≡ false → P r ≡ true → (p == r) ≡ false
other P p r n y = elim (cases_Bool (p == r)) [ inl t ↦ absurd (let same : p ≡ r = eqb-true p r t in let x : P r ≡ false = subst (λ z. P z ≡ false) same n in let z : true ≡ false = sym y ∙ x in let w : ⊥ = cc in w) | inr f ↦ f ]

pub eq-false-sym : (p r : ℕ) → (p == r) ≡ false → (r == p) ≡ false
eq-false-sym p r f = elim (cases_Bool (r == p)) [ inl t ↦ absurd (let same : r ≡ p = eqb-true r p t in let x : (p == r) ≡ true = eq-eqb p r (sym same) in let z : true ≡ false = sym x ∙ f in let w : ⊥ = cc in w) | inr g ↦ g ]

-- ---- the same for each that stands there

pub map-same : {X Y : Type 0} (f g : X → Y) (xs : List X) → ((x : X) → In x xs → f x ≡ g x) → map f xs ≡ map g xs
map-same f g [] h = refl
map-same f g (x ∷ xs) h = ap (λ z. z ∷ map f xs) (h x (inl refl)) ∙ ap (λ z. g x ∷ z) (map-same f g xs (λ y i. h y (inr i)))

pub filter-same : {X : Type 0} (p q : X → Bool) (xs : List X) → ((x : X) → In x xs → p x ≡ q x) → filter p xs ≡ filter q xs
filter-same p q [] h = refl
filter-same p q (x ∷ xs) h = ap (λ z. cond z (x ∷ filter p xs) (filter p xs)) (h x (inl refl)) ∙ ap (λ z. cond (q x) (x ∷ z) z) (filter-same p q xs (λ y i. h y (inr i)))
