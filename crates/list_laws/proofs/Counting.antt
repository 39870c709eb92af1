-- How often a number stands in lists.
use Rattle.std.proofs.Common.{ℕ, suc, zero, ◌==◌, ◌≡◌, ◌+◌, ◌≤◌, ◌||◌, cond, Bool, true, false, List, [], ◌∷◌, ◌++◌, map, refl, sym, ap, subst, ◌∙◌, eqb-true, inl, inr, arith}
use Rattle.std.specs.List.{flat_map}
use Rattle.std.proofs.lemmas.Bool.{cases_Bool, cases_eq}
use Rattle.list_laws.specs.Lists.{EachOnce, In, holds, times}
use Rattle.list_laws.proofs.Booleans.{clash}
use Rattle.list_laws.proofs.Membership.{eq-itself, holds-in, in-append, in-holds}

pub times-append : (x : ℕ) (xs ys : List ℕ) → times x (xs ++ ys) ≡ times x xs + times x ys
times-append x [] ys = omega arith
times-append x (z ∷ xs) ys = rw (times-append x xs ys) (omega arith)

-- it stands in one of the lists
pub times-some : {X : Type 0} (f : X → List ℕ) (x : ℕ) (ns : List X) → 1 ≤ times x (flat_map f ns) → (n : X) × (In n ns × (1 ≤ times x (f n)))
times-some f x [] h = absurd (omega arith)
times-some f x (n ∷ ns) h =
    let s = times-append x (f n) (flat_map f ns) in
    elim (cases_eq (times x (f n)) 0) [
      | inl e ↦ (let r = times-some f x ns (omega arith) in (r.0, (inr r.1.0, r.1.1)))
      | inr k ↦ (n, (inl refl, positive (times x (f n)) k))
    ]
  where
    positive : (k : ℕ) → (k ≡ 0 → ⊥) → 1 ≤ k
    positive zero k = absurd (k refl)
    positive (suc k) h = omega arith

pub times-in : {X : Type 0} (f : X → List ℕ) (x : ℕ) (n : X) (ns : List X) → In n ns → times x (f n) ≤ times x (flat_map f ns)
times-in f x n [] i = elim i [ ]
times-in f x n (m ∷ ns) i =
    let s = times-append x (f m) (flat_map f ns) in
    elim i [
      | inl e ↦ (let g : times x (f m) ≡ times x (f n) = ap (λ z. times x (f z)) e in omega arith)
      | inr j ↦ (let h = times-in f x n ns j in omega arith)
    ]

-- it stands in one of them alone
pub times-once : {X : Type 0} (f : X → List ℕ) (x : ℕ) (n m : X) (ns : List X) → times x (flat_map f ns) ≤ 1 → In n ns → In m ns → 1 ≤ times x (f n) → 1 ≤ times x (f m) → n ≡ m
times-once f x n m [] o i j h k = elim i [ ]
times-once f x n m (y ∷ ns) o i j h k =
    let s = times-append x (f y) (flat_map f ns) in
    elim i [
      | inl p ↦ elim j [
        | inl q ↦ sym p ∙ q
        | inr l ↦ absurd (let a = times-in f x m ns l in let b : times x (f y) ≡ times x (f n) = ap (λ z. times x (f z)) p in omega arith)
      ]
      | inr l ↦ elim j [
        | inl q ↦ absurd (let a = times-in f x n ns l in let b : times x (f y) ≡ times x (f m) = ap (λ z. times x (f z)) q in omega arith)
        | inr u ↦ times-once f x n m ns (omega arith) l u h k
      ]
    ]

pub in-times : {X : Type 0} (f : X → ℕ) (r : X) (rs : List X) → In r rs → 1 ≤ times (f r) (map f rs)
in-times f r [] i = elim i [ ]
in-times f r (s ∷ rs) i = elim i [
  | inl e ↦ (let t : (f s == f r) ≡ true = subst (λ z. (f s == f z) ≡ true) e (eq-itself (f s)) in rw t (omega arith))
  | inr j ↦ (let h = in-times f r rs j in omega arith)
]

pub times-map : {X : Type 0} (f : X → ℕ) (x : ℕ) (rs : List X) → 1 ≤ times x (map f rs) → (r : X) × (In r rs × (f r ≡ x))
times-map f x [] h = absurd (omega arith)
times-map f x (r ∷ rs) h = elim (cases_Bool (f r == x)) [
  | inl t ↦ (r, (inl refl, eqb-true (f r) x t))
  | inr t ↦ (let g : 1 ≤ 0 + times x (map f rs) = subst (λ (b : Bool). 1 ≤ cond b 1 0 + times x (map f rs)) t h in let u = times-map f x rs (omega arith) in (u.0, (inr u.1.0, u.1.1)))
]

-- ---- each once

-- numbers that stand at most once each
pub each-once : (xs : List ℕ) → ((x : ℕ) → times x xs ≤ 1) → EachOnce xs
each-once [] h = tt
each-once (x ∷ xs) h = (absent, each-once xs (λ y. (let a = h y in omega arith)))
  where
    held : (ys : List ℕ) → holds x ys ≡ true → 1 ≤ times x ys
    held [] t = absurd (let z : ⊥ = cc in z)
    held (y ∷ ys) t = elim (y == x) as (λ b. (b || holds x ys) ≡ true → 1 ≤ cond b 1 0 + times x ys) [ true ↦ λ t. (omega arith) | false ↦ λ t. (let a = held ys t in omega arith) ] t

    absent : holds x xs ≡ false
    absent = elim (cases_Bool (holds x xs)) [ inr f ↦ f | inl t ↦ absurd (let a : 1 + times x xs ≤ 1 = subst (λ b. cond b 1 0 + times x xs ≤ 1) (eq-itself x) (h x) in let d = held xs t in omega arith) ]

pub absent : (x : ℕ) (xs : List ℕ) → (In x xs → ⊥) → holds x xs ≡ false
absent x xs h = elim (holds x xs) as (λ v. holds x xs ≡ v → v ≡ false) [ true ↦ λ e. absurd (h (holds-in x xs e)) | false ↦ λ e. refl ] refl

pub gone : (x : ℕ) (xs : List ℕ) → holds x xs ≡ false → In x xs → ⊥
gone x xs h i = clash (holds x xs) (in-holds x xs i) h

pub once-append : (xs ys : List ℕ) → EachOnce xs → EachOnce ys → ((y : ℕ) → In y xs → In y ys → ⊥) → EachOnce (xs ++ ys)
once-append [] ys ox oy h = oy
once-append (x ∷ xs) ys ox oy h =
    (absent x (xs ++ ys) (λ i. elim (in-append x xs ys i) [ inl j ↦ gone x xs ox.0 j | inr j ↦ h x (inl refl) j ]), once-append xs ys ox.1 oy (λ y i j. h y (inr i) j))

pub once-more : (xs : List ℕ) (b : ℕ) → holds b xs ≡ false → EachOnce xs → EachOnce (xs ++ b ∷ [])
once-more xs b h o = once-append xs (b ∷ []) o (refl, tt) (λ y i j. elim j [ inl e ↦ gone b xs h (subst (λ z. In z xs) (sym e) i) | inr z ↦ elim z [ ] ])
