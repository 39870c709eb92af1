-- The tuples that stand in a bag.
use Rattle.std.proofs.Common.{◌≡◌, ℕ, ◌+◌, nat_eq, cond, not, Bool, true, false, ◌&&◌, ◌||◌, List, [], ◌∷◌, refl, ap, sym, ◌∙◌, Decides, arith, inl, inr}
use Rattle.std.proofs.lemmas.Bool.{and_from, cases_Bool, eq-eqb}
use Rattle.std.proofs.Math.Dec.{eqb-suc-zero}
use Rattle.std.proofs.Math.Numerals.{one-add}
use Rattle.sql_value.specs.declared.level.Level.{Level}
use Rattle.sql_value.specs.declared.level.Level.TheVariants.{No, Cardinality, Division, Overflow, Yes}
use Rattle.row_bag.specs.Bags.{Alike, bind, if_there, keep, row}
use Rattle.row_bag.specs.Sets.{multiplicity, once}
use Rattle.row_bag.specs.Verdict.{is_there}
use Rattle.row_bag.specs.declared.row.Row.{Row}
use Rattle.row_bag.proofs.Agreement.{alike-append, alike-keep, alike-keep_no, alike-refl, alike-sym, alike-trans, sum-monoid}
use Rattle.row_bag.proofs.GreatestLevels.{total-once}
use Rattle.row_bag.specs.AsSets.{stands}

or-true : (b : Bool) → (b || true) ≡ true
or-true true = refl
or-true false = refl

module _ {T : Type 0} (same : T → T → Bool) where
  weight : (c k : T) (l : Level) → ◌≡◌ {A = ℕ} (if_there 0 (λ k m. cond (same k c) 1 0) k l) (cond (same k c && is_there (row k l)) 1 0)
  weight c k No = elim (same k c) as (λ b. ◌≡◌ {A = ℕ} 0 (cond (b && false) 1 0)) [ true ↦ refl | false ↦ refl ]
  weight c k Cardinality = elim (same k c) as (λ b. ◌≡◌ {A = ℕ} (cond b 1 0) (cond (b && true) 1 0)) [ true ↦ refl | false ↦ refl ]
  weight c k Division = elim (same k c) as (λ b. ◌≡◌ {A = ℕ} (cond b 1 0) (cond (b && true) 1 0)) [ true ↦ refl | false ↦ refl ]
  weight c k Overflow = elim (same k c) as (λ b. ◌≡◌ {A = ℕ} (cond b 1 0) (cond (b && true) 1 0)) [ true ↦ refl | false ↦ refl ]
  weight c k Yes = elim (same k c) as (λ b. ◌≡◌ {A = ℕ} (cond b 1 0) (cond (b && true) 1 0)) [ true ↦ refl | false ↦ refl ]

  more : (b s : Bool) (n : ℕ) → nat_eq n 0 ≡ not s → nat_eq (cond b 1 0 + n) 0 ≡ not (b || s)
  more true s n h = ap (λ m. nat_eq m 0) (one-add n) ∙ eqb-suc-zero n
  more false s n h = ap (λ m. nat_eq m 0) (omega arith) ∙ h

  -- a tuple stands in a bag, or it occurs not once
  pub stands-often : (c : T) (rs : List (Row T)) → nat_eq (multiplicity same c rs) 0 ≡ not (stands same c rs)
  stands-often c [] = refl
  stands-often c (r ∷ rs) =
      ap (λ m. nat_eq (m + multiplicity same c rs) 0) (weight c r.cells r.level) ∙ more (same r.cells c && is_there r) (stands same c rs) (multiplicity same c rs) (stands-often c rs)

  not-true : (b : Bool) → not b ≡ false → b ≡ true
  not-true true h = refl
  not-true false h = cc h

  not-false : (b : Bool) → b ≡ true → not b ≡ false
  not-false true h = refl
  not-false false h = cc h

  pub stands-from : (c : T) (rs : List (Row T)) → nat_eq (multiplicity same c rs) 0 ≡ false → stands same c rs ≡ true
  stands-from c rs h = not-true (stands same c rs) (sym (stands-often c rs) ∙ h)

  pub stands-some : (c : T) (rs : List (Row T)) → stands same c rs ≡ true → nat_eq (multiplicity same c rs) 0 ≡ false
  stands-some c rs h = stands-often c rs ∙ not-false (stands same c rs) h

  module _ (dec : (a b : T) → Decides (same a b) (a ≡ b)) where
    pub stands-once : (c : T) (rs : List (Row T)) → stands same c (once same rs) ≡ true → stands same c rs ≡ true
    stands-once c rs h = elim (cases_Bool (nat_eq (multiplicity same c rs) 0)) [
      | inl e ↦
          let often : multiplicity same c (once same rs) ≡ cond (nat_eq (multiplicity same c rs) 0) 0 (cond (same c c) 1 0) =
          total-once same dec sum-monoid (λ j l. cond (same j c) 1 0) c (λ j l other. ap (λ b. cond b 1 0) other) rs in
          let none : multiplicity same c (once same rs) ≡ 0 = often ∙ ap (λ b. cond b 0 (cond (same c c) 1 0)) e in
          let some : nat_eq (multiplicity same c (once same rs)) 0 ≡ false = stands-some c (once same rs) h in
          let zero : nat_eq (multiplicity same c (once same rs)) 0 ≡ true = eq-eqb (multiplicity same c (once same rs)) 0 none in
          absurd (let z : ⊥ = cc in z)
      | inr e ↦ stands-from c rs e
    ]

    one-within : {U : Type 0} (f g : T → List (Row U)) (c : T) (l : Level) → (is_there (row c l) ≡ true → Alike (f c) (g c)) → Alike (keep l (f c)) (keep l (g c))
    one-within f g c No h = alike-trans (alike-keep_no (f c)) (alike-sym (alike-keep_no (g c)))
    one-within f g c Cardinality h = alike-keep Cardinality (h refl)
    one-within f g c Division h = alike-keep Division (h refl)
    one-within f g c Overflow h = alike-keep Overflow (h refl)
    one-within f g c Yes h = alike-keep Yes (h refl)

    -- only what is given of the tuples that stand there matters
    pub bind-standing : {U : Type 0} (rs : List (Row T)) (f g : T → List (Row U)) → ((c : T) → stands same c rs ≡ true → Alike (f c) (g c)) → Alike (bind rs f) (bind rs g)
    bind-standing [] f g h = alike-refl []
    bind-standing (r ∷ rs) f g h =
        alike-append
        (one-within f g r.cells r.level (λ t. h r.cells (ap (λ (b : Bool). b || stands same r.cells rs) (and_from (same r.cells r.cells) (is_there r) ((dec r.cells r.cells).1 refl) t))))
        (bind-standing rs f g (λ c k. h c (ap (λ (b : Bool). (same r.cells c && is_there r) || b) k ∙ or-true (same r.cells c && is_there r))))
