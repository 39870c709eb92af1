-- A number that is put among ascending ones.
use Rattle.std.proofs.Common.{◌≡◌, ℕ, zero, suc, ◌<◌, ◌≤◌, ◌==◌, cond, nat_lt, true, false, inl, inr, List, [], ◌∷◌, length, get_or, refl, sym, subst, ◌∙◌, ap, arith, insert}
use Rattle.std.proofs.lemmas.Bool.{lt-ltb, le-ltb, ltb-true, ltb-false, ne_eqb, eq-eqb, eqb-false}
use Rattle.std.specs.Prelude.{⊤}
use Rattle.list_laws.specs.Lists.{In}
use Rattle.qgm_core.specs.Free.{put_each, put_once}

pub put_new : (q : ℕ) (xs : List ℕ) (i d : ℕ) → i ≤ length xs → ((k : ℕ) → k < i → get_or xs k 0 < q) → (i < length xs → q < get_or xs i d) → insert xs i q ≡ put_once q xs
put_new q [] zero d h l n = refl
put_new q [] (suc i) d h l n = absurd (omega arith)
put_new q (x ∷ xs) zero d h l n = let m = n (omega arith) in rw (lt-ltb q x m) refl
put_new q (x ∷ xs) (suc i) d h l n =
    let m : x < q = l zero (omega arith) in
    rw (le-ltb q x (omega arith), ne_eqb x q (λ e. omega arith))
    (ap (λ ys. x ∷ ys) (put_new q xs i d (omega arith) (λ k r. l (suc k) (omega arith)) (λ r. n (omega arith))))

pub put_old : (q : ℕ) (xs : List ℕ) (i d : ℕ) → i < length xs → ((k : ℕ) → k < i → get_or xs k 0 < q) → get_or xs i d ≡ q → xs ≡ put_once q xs
put_old q [] i d h l e = absurd (omega arith)
put_old q (x ∷ xs) zero d h l e = rw (le-ltb q x (omega arith), eq-eqb x q e) refl
put_old q (x ∷ xs) (suc i) d h l e =
    let m : x < q = l zero (omega arith) in
    rw (le-ltb q x (omega arith), ne_eqb x q (λ e'. omega arith))
    (ap (λ ys. x ∷ ys) (put_old q xs i d (omega arith) (λ k r. l (suc k) (omega arith)) e))

-- ---- ascending numbers

abbrev AllAbove : ℕ → List ℕ → Type 0
AllAbove k [] = ⊤
AllAbove k (x ∷ xs) = (k < x) × AllAbove k xs

abbrev Ascends : List ℕ → Type 0
Ascends [] = ⊤
Ascends (x ∷ xs) = AllAbove x xs × Ascends xs

above-weaker : (j k : ℕ) (xs : List ℕ) → j < k → AllAbove k xs → AllAbove j xs
above-weaker j k [] l a = tt
above-weaker j k (x ∷ xs) l a = (let h = a.0 in omega (arith, l, h), above-weaker j k xs l a.1)

above-in : (k q : ℕ) (xs : List ℕ) → AllAbove k xs → In q xs → k < q
above-in k q [] a i = elim i [ ]
above-in k q (x ∷ xs) a i = elim i [ inl e ↦ subst (λ (y : ℕ). k < y) e a.0 | inr j ↦ above-in k q xs a.1 j ]

above-once : (k q : ℕ) (rs : List ℕ) → k < q → AllAbove k rs → AllAbove k (put_once q rs)
above-once k q [] l a = (l, tt)
above-once k q (r ∷ rs) l a = elim (nat_lt q r) as (λ t. AllAbove k (cond t (q ∷ (r ∷ rs)) (cond (r == q) (r ∷ rs) (r ∷ put_once q rs)))) [
  | true ↦ (l, a)
  | false ↦ elim (r == q) as (λ t. AllAbove k (cond t (r ∷ rs) (r ∷ put_once q rs))) [
    | true ↦ a
    | false ↦ (a.0, above-once k q rs l a.1)
  ]
]

ascends-once : (q : ℕ) (rs : List ℕ) → Ascends rs → Ascends (put_once q rs)
ascends-once q [] a = (tt, tt)
ascends-once q (r ∷ rs) a = elim (nat_lt q r) as (λ t. nat_lt q r ≡ t → Ascends (cond t (q ∷ (r ∷ rs)) (cond (r == q) (r ∷ rs) (r ∷ put_once q rs)))) [
  | true ↦ λ t. (let l = ltb-true q r t in ((l, above-weaker q r rs l a.0), a))
  | false ↦ λ t. elim (r == q) as (λ s. (r == q) ≡ s → Ascends (cond s (r ∷ rs) (r ∷ put_once q rs))) [
    | true ↦ λ s. a
    | false ↦ λ s. (let g = ltb-false q r t in let n = eqb-false r q s in (above-once r q rs (omega (arith, g, n)) a.0, ascends-once q rs a.1))
  ] refl
] refl

ascends-each : (out qs : List ℕ) → Ascends out → Ascends (put_each out qs)
ascends-each out [] a = a
ascends-each out (q ∷ qs) a = ascends-each (put_once q out) qs (ascends-once q out a)

same-ascending : (xs ys : List ℕ) → Ascends xs → Ascends ys → ((q : ℕ) → In q xs → In q ys) → ((q : ℕ) → In q ys → In q xs) → xs ≡ ys
same-ascending [] [] a b f g = refl
same-ascending [] (y ∷ ys) a b f g = absurd (elim (g y (inl refl)) [ ])
same-ascending (x ∷ xs) [] a b f g = absurd (elim (f x (inl refl)) [ ])
same-ascending (x ∷ xs) (y ∷ ys) a b f g = ap (λ (z : ℕ). z ∷ xs) heads ∙ ap (λ (zs : List ℕ). y ∷ zs) (same-ascending xs ys a.1 b.1 there back)
  where
    heads : x ≡ y
    heads = elim (f x (inl refl)) [
      | inl e ↦ sym e
      | inr i ↦ elim (g y (inl refl)) [
        | inl e ↦ e
        | inr j ↦ absurd (let l = above-in y x ys b.0 i in let m = above-in x y xs a.0 j in omega (arith, l, m))
      ]
    ]

    there : (q : ℕ) → In q xs → In q ys
    there q i = elim (f q (inr i)) [
      | inl e ↦ absurd (let l = above-in x q xs a.0 i in let h = heads in omega (arith, l, e, h))
      | inr j ↦ j
    ]

    back : (q : ℕ) → In q ys → In q xs
    back q i = elim (g q (inr i)) [
      | inl e ↦ absurd (let l = above-in y q ys b.0 i in let h = heads in omega (arith, l, e, h))
      | inr j ↦ j
    ]

-- numbers that are put in turn are told by what stands among them
pub each-same : (xs ys : List ℕ) → ((q : ℕ) → In q (put_each [] xs) → In q (put_each [] ys)) → ((q : ℕ) → In q (put_each [] ys) → In q (put_each [] xs)) → put_each [] xs ≡ put_each [] ys
each-same xs ys f g = same-ascending (put_each [] xs) (put_each [] ys) (ascends-each [] xs tt) (ascends-each [] ys tt) f g
