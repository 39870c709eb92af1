-- How many of a list pass, and sums over lists.
use Rattle.std.proofs.Common.{ℕ, ◌≡◌, ◌≤◌, ◌+◌, cond, Bool, true, false, List, [], ◌∷◌, ◌++◌, map, refl, ap, ap₂, ◌∙◌, inl, inr, arith}
use Rattle.list_laws.specs.Lists.{In}
use Rattle.qgm_props.specs.Measure.{many, summed}
use Rattle.list_laws.proofs.Membership.{in-left, in-right}

pub many-append : {X : Type 0} (p : X → Bool) (xs ys : List X) → many p (xs ++ ys) ≡ many p xs + many p ys
many-append p [] ys = omega arith
many-append p (x ∷ xs) ys = let h = many-append p xs ys in omega (arith, h)

pub summed-append : {X : Type 0} (f : X → ℕ) (xs ys : List X) → summed f (xs ++ ys) ≡ summed f xs + summed f ys
summed-append f [] ys = omega arith
summed-append f (x ∷ xs) ys = let h = summed-append f xs ys in omega (arith, h)

pub one-less : (a b : Bool) → (a ≡ true → b ≡ true) → cond a 1 0 ≤ cond b 1 0
one-less true true h = omega arith
one-less true false h = absurd (let e = h refl in let z : ⊥ = cc in z)
one-less false true h = omega arith
one-less false false h = omega arith

pub many-fewer : {X : Type 0} (p q : X → Bool) (xs : List X) → ((x : X) → In x xs → p x ≡ true → q x ≡ true) → many p xs ≤ many q xs
many-fewer p q [] h = omega arith
many-fewer p q (x ∷ xs) h = let a = one-less (p x) (q x) (h x (inl refl)) in let b = many-fewer p q xs (λ y i. h y (inr i)) in omega (arith, a, b)

pub summed-less : {X : Type 0} (f g : X → ℕ) (xs : List X) → ((x : X) → In x xs → f x ≤ g x) → summed f xs ≤ summed g xs
summed-less f g [] h = omega arith
summed-less f g (x ∷ xs) h = let a = h x (inl refl) in let b = summed-less f g xs (λ y i. h y (inr i)) in omega (arith, a, b)

pub many-none : {X : Type 0} (p : X → Bool) (xs : List X) → ((x : X) → In x xs → p x ≡ false) → many p xs ≡ 0
many-none p [] h = refl
many-none p (x ∷ xs) h = let e : cond (p x) 1 0 ≡ ◌+◌ 0 0 = ap (λ b. cond b 1 0) (h x (inl refl)) ∙ omega arith in let b = many-none p xs (λ y i. h y (inr i)) in omega (arith, e, b)

pub many-map : {X : Type 0} (p r : X → Bool) (g : X → X) (xs : List X) → ((x : X) → In x xs → p (g x) ≡ r x) → many p (map g xs) ≡ many r xs
many-map p r g [] h = refl
many-map p r g (x ∷ xs) h = ap₂ (λ (t : Bool) (k : ℕ). cond t 1 0 + k) (h x (inl refl)) (many-map p r g xs (λ y j. h y (inr j)))

pub many-same : {X : Type 0} (p r : X → Bool) (xs : List X) → ((x : X) → In x xs → p x ≡ r x) → many p xs ≡ many r xs
many-same p r [] h = refl
many-same p r (x ∷ xs) h = ap₂ (λ (t : Bool) (k : ℕ). cond t 1 0 + k) (h x (inl refl)) (many-same p r xs (λ y j. h y (inr j)))

pub summed-map : {X : Type 0} (f h : X → ℕ) (g : X → X) (xs : List X) → ((x : X) → In x xs → f (g x) ≡ h x) → summed f (map g xs) ≡ summed h xs
summed-map f h g [] e = refl
summed-map f h g (x ∷ xs) e = ap₂ (λ (a o : ℕ). a + o) (e x (inl refl)) (summed-map f h g xs (λ y j. e y (inr j)))

-- beside one more, which doesn't pass
pub many-beside : {X : Type 0} (p r : X → Bool) (g : X → X) (xs ys : List X) (d : X) → p d ≡ false → ((x : X) → In x (xs ++ ys) → p (g x) ≡ r x) → many p (map g xs ++ d ∷ map g ys) ≡ many r (xs ++ ys)
many-beside p r g xs ys d hd h =
    let a = many-append p (map g xs) (d ∷ map g ys) in
    let o = many-append r xs ys in
    let u = many-map p r g xs (λ x j. h x (in-left x xs ys j)) in
    let v = many-map p r g ys (λ x j. h x (in-right x xs ys j)) in
    let e : cond (p d) 1 0 ≡ ◌+◌ 0 0 = ap (λ b. cond b 1 0) hd ∙ omega arith in
    omega (arith, a, o, u, v, e)

pub summed-beside : {X : Type 0} (f h : X → ℕ) (g : X → X) (xs ys : List X) (d : X) → f d ≡ 0 → ((x : X) → In x (xs ++ ys) → f (g x) ≡ h x) → summed f (map g xs ++ d ∷ map g ys) ≡ summed h (xs ++ ys)
summed-beside f h g xs ys d hd e =
    let a = summed-append f (map g xs) (d ∷ map g ys) in
    let o = summed-append h xs ys in
    let u = summed-map f h g xs (λ x j. e x (in-left x xs ys j)) in
    let v = summed-map f h g ys (λ x j. e x (in-right x xs ys j)) in
    omega (arith, a, o, u, v, hd)

-- beside two more, of which the first passes or doesn't, and the second doesn't
pub many-two : {X : Type 0} (p r : X → Bool) (g : X → X) (xs ys : List X) (d m : X) (t : Bool) → p d ≡ t → p m ≡ false → ((x : X) → In x (xs ++ ys) → p (g x) ≡ r x) → many p (map g xs ++ d ∷ (m ∷ map g ys)) ≡ cond t 1 0 + many r (xs ++ ys)
many-two p r g xs ys d m t hd hm h =
    let a = many-append p (map g xs) (d ∷ (m ∷ map g ys)) in
    let o = many-append r xs ys in
    let u = many-map p r g xs (λ x j. h x (in-left x xs ys j)) in
    let v = many-map p r g ys (λ x j. h x (in-right x xs ys j)) in
    let e1 : ◌≡◌ {A = ℕ} (cond (p d) 1 0) (cond t 1 0) = ap (λ b. cond b 1 0) hd in
    let e2 : cond (p m) 1 0 ≡ ◌+◌ 0 0 = ap (λ b. cond b 1 0) hm ∙ omega arith in
    omega (arith, a, o, u, v, e1, e2)

pub summed-two : {X : Type 0} (f h : X → ℕ) (g : X → X) (xs ys : List X) (d m : X) → f d ≡ 0 → f m ≡ 0 → ((x : X) → In x (xs ++ ys) → f (g x) ≡ h x) → summed f (map g xs ++ d ∷ (m ∷ map g ys)) ≡ summed h (xs ++ ys)
summed-two f h g xs ys d m hd hm e =
    let a = summed-append f (map g xs) (d ∷ (m ∷ map g ys)) in
    let o = summed-append h xs ys in
    let u = summed-map f h g xs (λ x j. e x (in-left x xs ys j)) in
    let v = summed-map f h g ys (λ x j. e x (in-right x xs ys j)) in
    omega (arith, a, o, u, v, hd, hm)
