-- Lists of numbers that stand for one another one to one.
use Rattle.std.proofs.Common.{ℕ, suc, ◌≡◌, ◌==◌, ◌||◌, ◌++◌, Bool, true, false, cond, List, [], ◌∷◌, refl, sym, ap, ap₂, subst, ◌∙◌, eqb-true, inl, inr}
use Rattle.std.proofs.lemmas.Bool.{cases_Bool}
use Rattle.list_laws.specs.Lists.{holds}
use Rattle.list_laws.proofs.Membership.{eq-itself}
use Rattle.graph_print.specs.Places.{place_in}
pub use Rattle.graph_alike.specs.OneToOne.{Along, more, none}
use Rattle.graph_alike.specs.OneToOne.{IsOneToOne}

pub along-append : (R : ℕ → ℕ → Type 0) (xs ys us vs : List ℕ) → Along R xs ys → Along R us vs → Along R (xs ++ us) (ys ++ vs)
along-append R [] [] us vs none b = b
along-append R [] (y ∷ ys) us vs a b = elim a [ ]
along-append R (x ∷ xs) [] us vs a b = elim a [ ]
along-append R (x ∷ xs) (y ∷ ys) us vs (more _ _ _ _ r a) b = more x y (xs ++ us) (ys ++ vs) r (along-append R xs ys us vs a b)

module _ (R : ℕ → ℕ → Type 0) (o : IsOneToOne R) where
  pub same-test : (x y a b : ℕ) → R x y → R a b → (x == a) ≡ (y == b)
  same-test x y a b r s = elim (cases_Bool (x == a)) [
    | inl t ↦ (
        let e : y ≡ b = o.one a y b (subst (λ z. R z y) (eqb-true x a t) r) s in
        t ∙ sym (ap (λ z. z == b) e ∙ eq-itself b))
    | inr f ↦ elim (cases_Bool (y == b)) [
      | inr g ↦ f ∙ sym g
      | inl t ↦ (
          let e : x ≡ a = o.other x a b (subst (λ z. R x z) (eqb-true y b t) r) s in
          absurd (let z : true ≡ false = sym (ap (λ z. z == a) e ∙ eq-itself a) ∙ f in cc z))
    ]
  ]

  pub same-holds : (xs ys : List ℕ) (a b : ℕ) → Along R xs ys → R a b → holds a xs ≡ holds b ys
  same-holds [] [] a b none s = refl
  same-holds [] (y ∷ ys) a b l s = elim l [ ]
  same-holds (x ∷ xs) [] a b l s = elim l [ ]
  same-holds (x ∷ xs) (y ∷ ys) a b (more _ _ _ _ r h) s = ap₂ (λ u v. u || v) (same-test x y a b r s) (same-holds xs ys a b h s)

  pub same-place : (xs ys : List ℕ) (a b : ℕ) → Along R xs ys → R a b → place_in xs a ≡ place_in ys b
  same-place [] [] a b none s = refl
  same-place [] (y ∷ ys) a b l s = elim l [ ]
  same-place (x ∷ xs) [] a b l s = elim l [ ]
  same-place (x ∷ xs) (y ∷ ys) a b (more _ _ _ _ r h) s = ap₂ (λ (u : Bool) (v : ℕ). cond u 1 (suc v)) (same-test x y a b r s) (same-place xs ys a b h s)

  -- the number for which another stands
  abbrev pub partner : List ℕ → List ℕ → ℕ → ℕ
  partner [] ys b = 0
  partner (x ∷ xs) [] b = 0
  partner (x ∷ xs) (y ∷ ys) b = cond (y == b) x (partner xs ys b)

  pub partner-is : (xs ys : List ℕ) (a b : ℕ) → Along R xs ys → R a b → holds b ys ≡ true → partner xs ys b ≡ a
  partner-is [] [] a b none s h = absurd (cc h)
  partner-is [] (y ∷ ys) a b l s h = elim l [ ]
  partner-is (x ∷ xs) [] a b l s h = elim l [ ]
  partner-is (x ∷ xs) (y ∷ ys) a b (more _ _ _ _ r l) s h = elim (cases_Bool (y == b)) [
    | inl t ↦ ap (λ u. cond u x (partner xs ys b)) t ∙ o.other x a b (subst (λ z. R x z) (eqb-true y b t) r) s
    | inr f ↦ ap (λ u. cond u x (partner xs ys b)) f ∙ partner-is xs ys a b l s (sym (ap (λ u. u || holds b ys) f) ∙ h)
  ]

-- the first of two lists that stand for one another names the second
pub along-holds : (R : ℕ → ℕ → Type 0) (xs ys : List ℕ) (a : ℕ) → Along R xs ys → holds a xs ≡ true → (b : ℕ) × (R a b × (holds b ys ≡ true))
along-holds R [] [] a none h = absurd (cc h)
along-holds R [] (y ∷ ys) a l h = elim l [ ]
along-holds R (x ∷ xs) [] a l h = elim l [ ]
along-holds R (x ∷ xs) (y ∷ ys) a (more _ _ _ _ r l) h = elim (cases_Bool (x == a)) [
  | inl t ↦ (y, (subst (λ z. R z y) (eqb-true x a t) r, ap (λ z. z || holds y ys) (eq-itself y)))
  | inr f ↦ (
      let i = along-holds R xs ys a l (sym (ap (λ u. u || holds a xs) f) ∙ h) in
      (i.0, (i.1.0, or-held (y == i.0) (holds i.0 ys) i.1.1)))
]
  where
    or-held : (u v : Bool) → v ≡ true → (u || v) ≡ true
    or-held true v e = refl
    or-held false v e = e
