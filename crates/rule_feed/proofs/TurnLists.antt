-- Lists that are turned: what stands in them, and how often.
use Rattle.std.proofs.Common.{ℕ, ◌==◌, ◌≡◌, ◌+◌, cond, not, Bool, true, false, List, [], ◌∷◌, ◌++◌, map, filter, refl, sym, ap, ◌∙◌, ◌⊎◌, inl, inr, arith}
use Rattle.std.specs.List.{flat_map, list_all, list_any}
use Rattle.std.proofs.lemmas.Bool.{cases_Bool}
use Rattle.list_laws.specs.Lists.{In, times}
use Rattle.list_laws.proofs.Booleans.{same-truth}
use Rattle.list_laws.proofs.Membership.{all-from, all-in, any-from, any-in, filter-in, flat-in, in-append, in-filter, in-flat, in-left, in-right}
use Rattle.rule_feed.specs.Turn.{before_first, failing, from_first}

module _ {X : Type 0} (t : X → Bool) where
  in-before : (x : X) (xs : List X) → In x (before_first t xs) → In x xs × (t x ≡ false)
  in-before x [] i = elim i [ ]
  in-before x (y ∷ ys) i = one (t y) refl (in-before x ys) i
    where
      one : (b : Bool) → t y ≡ b → (In x (before_first t ys) → In x ys × (t x ≡ false)) → In x (cond b [] (y ∷ before_first t ys)) → In x (y ∷ ys) × (t x ≡ false)
      one true e again i = elim i [ ]
      one false e again i = elim i [
        | inl k ↦ (inl k, ap t (sym k) ∙ e)
        | inr k ↦ (let h = again k in (inr h.0, h.1))
      ]

  in-from : (x : X) (xs : List X) → In x (from_first t xs) → In x xs
  in-from x [] i = i
  in-from x (y ∷ ys) i = elim (t y) as (λ b. In x (cond b (y ∷ ys) (from_first t ys)) → In x (y ∷ ys)) [ true ↦ λ i. i | false ↦ λ i. inr (in-from x ys i) ] i

  -- each stands before the first that passes, or behind
  in-either : (x : X) (xs : List X) → In x xs → In x (before_first t xs) ⊎ In x (from_first t xs)
  in-either x [] i = elim i [ ]
  in-either x (y ∷ ys) i = elim (t y) as (λ b. In x (cond b [] (y ∷ before_first t ys)) ⊎ In x (cond b (y ∷ ys) (from_first t ys))) [
    | true ↦ inr i
    | false ↦ elim i [
      | inl k ↦ inl (inl k)
      | inr k ↦ elim (in-either x ys k) [ inl a ↦ inl (inr a) | inr a ↦ inr a ]
    ]
  ]

  -- what passes, and what fails, is all
  pub in-parts : (x : X) (xs : List X) → In x xs → In x (filter t xs) ⊎ In x (failing t xs)
  in-parts x xs i = elim (cases_Bool (t x)) [
    | inl e ↦ inl (filter-in t x xs i e)
    | inr e ↦ inr (filter-in (λ x. not (t x)) x xs i (ap not e))
  ]

  pub in-turned : (x : X) (xs : List X) → In x (before_first t xs ++ (filter t xs ++ failing t (from_first t xs))) → In x xs
  in-turned x xs i = elim (in-append x (before_first t xs) (filter t xs ++ failing t (from_first t xs)) i) [
    | inl a ↦ (in-before x xs a).0
    | inr a ↦ elim (in-append x (filter t xs) (failing t (from_first t xs)) a) [
      | inl k ↦ (in-filter t x xs k).0
      | inr k ↦ in-from x xs (in-filter (λ x. not (t x)) x (from_first t xs) k).0
    ]
  ]

  pub turned-in : (x : X) (xs : List X) → In x xs → In x (before_first t xs ++ (filter t xs ++ failing t (from_first t xs)))
  turned-in x xs i = elim (cases_Bool (t x)) [
    | inl e ↦ in-right x (before_first t xs) (filter t xs ++ failing t (from_first t xs)) (in-left x (filter t xs) (failing t (from_first t xs)) (filter-in t x xs i e))
    | inr e ↦ elim (in-either x xs i) [
      | inl a ↦ in-left x (before_first t xs) (filter t xs ++ failing t (from_first t xs)) a
      | inr a ↦ in-right x (before_first t xs) (filter t xs ++ failing t (from_first t xs)) (in-right x (filter t xs) (failing t (from_first t xs)) (filter-in (λ x. not (t x)) x (from_first t xs) a (ap not e)))
    ]
  ]

  -- those that pass all stand from the first on
  pub passing-from : (xs : List X) → filter t (from_first t xs) ≡ filter t xs
  passing-from [] = refl
  passing-from (x ∷ xs) = elim (cases_Bool (t x)) [
    | inl e ↦ ap (λ b. filter t (cond b (x ∷ xs) (from_first t xs))) e
    | inr e ↦ ap (λ b. filter t (cond b (x ∷ xs) (from_first t xs))) e ∙ passing-from xs ∙ sym (ap (λ b. cond b (x ∷ filter t xs) (filter t xs)) e)
  ]

  pub together : (xs : List X) → before_first t xs ++ from_first t xs ≡ xs
  together [] = refl
  together (x ∷ xs) = elim (t x) as (λ b. cond b [] (x ∷ before_first t xs) ++ cond b (x ∷ xs) (from_first t xs) ≡ x ∷ xs) [ true ↦ refl | false ↦ ap (λ z. x ∷ z) (together xs) ]

  module _ (f : X → ℕ) (n : ℕ) where
    times-both : (xs ys : List X) → times n (map f (xs ++ ys)) ≡ times n (map f xs) + times n (map f ys)
    times-both [] ys = omega arith
    times-both (x ∷ xs) ys = let h = times-both xs ys in omega arith

    times-parts : (xs : List X) → times n (map f (filter t xs)) + times n (map f (failing t xs)) ≡ times n (map f xs)
    times-parts [] = refl
    times-parts (x ∷ xs) = elim (t x) as (λ b. times n (map f (cond b (x ∷ filter t xs) (filter t xs))) + times n (map f (cond (not b) (x ∷ failing t xs) (failing t xs))) ≡ cond (f x == n) 1 0 + times n (map f xs)) [
      | true ↦ (let h = times-parts xs in omega arith)
      | false ↦ (let h = times-parts xs in omega arith)
    ]

    pub times-turned : (xs : List X) → times n (map f (before_first t xs ++ (filter t xs ++ failing t (from_first t xs)))) ≡ times n (map f xs)
    times-turned xs =
        let a = times-both (before_first t xs) (filter t xs ++ failing t (from_first t xs)) in
        let b = times-both (filter t xs) (failing t (from_first t xs)) in
        let c = times-parts (from_first t xs) in
        let d = ap (λ z. times n (map f z)) (passing-from xs) in
        let e = times-both (before_first t xs) (from_first t xs) in
        let g = ap (λ z. times n (map f z)) (together xs) in omega arith

-- ---- what is asked of those that fail and of those that pass is asked of all

module _ {X : Type 0} (t : X → Bool) where
  in-sifted : (x : X) (xs : List X) → In x (failing t xs ++ filter t xs) → In x xs
  in-sifted x xs i = elim (in-append x (failing t xs) (filter t xs) i) [
    | inl a ↦ (in-filter (λ x. not (t x)) x xs a).0
    | inr a ↦ (in-filter t x xs a).0
  ]

  sifted-in : (x : X) (xs : List X) → In x xs → In x (failing t xs ++ filter t xs)
  sifted-in x xs i = elim (in-parts t x xs i) [
    | inl a ↦ in-right x (failing t xs) (filter t xs) a
    | inr a ↦ in-left x (failing t xs) (filter t xs) a
  ]

  pub any-sifted : (p : X → Bool) (xs : List X) → list_any p (failing t xs ++ filter t xs) ≡ list_any p xs
  any-sifted p xs = same-truth (list_any p (failing t xs ++ filter t xs)) (list_any p xs)
      (λ h. let x = any-in p (failing t xs ++ filter t xs) h in any-from p x.0 xs (in-sifted x.0 xs x.1.0) x.1.1)
      (λ h. let x = any-in p xs h in any-from p x.0 (failing t xs ++ filter t xs) (sifted-in x.0 xs x.1.0) x.1.1)

  pub all-sifted : (p : X → Bool) (xs : List X) → list_all p xs ≡ true → list_all p (failing t xs ++ filter t xs) ≡ true
  all-sifted p xs h = all-from p (failing t xs ++ filter t xs) (λ x i. all-in p x xs h (in-sifted x xs i))

  pub flat-sifted : {Y : Type 0} (p : Y → Bool) (f : X → List Y) (xs : List X) → list_all p (flat_map f xs) ≡ true → list_all p (flat_map f (failing t xs ++ filter t xs)) ≡ true
  flat-sifted p f xs h = all-from p (flat_map f (failing t xs ++ filter t xs)) (λ y i. (let x = in-flat f y (failing t xs ++ filter t xs) i in all-in p y (flat_map f xs) h (flat-in f x.0 y xs (in-sifted x.0 xs x.1.0) x.1.1)))
