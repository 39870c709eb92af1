-- The laws of the chain of levels.
use Rattle.std.proofs.Common.{◌≡◌, ◌≢◌, ℕ, Bool, true, false, cond, nat_eq, nat_le, ◌&&◌, refl, ap, sym, ◌∙◌, eqb-true, ◌⊎◌, inl, inr}
use Rattle.std.proofs.lemmas.Bool.{and_parts, cases_Bool}
use Rattle.sql_value.specs.Level.{greatest, least, rank}
use Rattle.sql_value.specs.declared.level.Level.{Level}
use Rattle.sql_value.specs.declared.level.Level.TheVariants.{No, Cardinality, Division, Overflow, Yes}
use Rattle.row_bag.specs.Bags.{IsCommutativeMonoid, same_level}

-- a test at each level, at each two, and at each three
abbrev each : (Level → Bool) → Bool
each p = p No && (p Cardinality && (p Division && (p Overflow && p Yes)))

abbrev each2 : (Level → Level → Bool) → Bool
each2 p = each (λ a. each (p a))

abbrev each3 : (Level → Level → Level → Bool) → Bool
each3 p = each (λ a. each2 (p a))

five : (a b c d e : Bool) → (a && (b && (c && (d && e)))) ≡ true → (a ≡ true) × (b ≡ true) × (c ≡ true) × (d ≡ true) × (e ≡ true)
five a b c d e h =
    let h1 = and_parts a (b && (c && (d && e))) h in
    let h2 = and_parts b (c && (d && e)) h1.1 in
    let h3 = and_parts c (d && e) h2.1 in
    let h4 = and_parts d e h3.1 in
    (h1.0, h2.0, h3.0, h4.0, h4.1)

each_at : (p : Level → Bool) → each p ≡ true → (l : Level) → p l ≡ true
each_at p h l =
    let k = five (p No) (p Cardinality) (p Division) (p Overflow) (p Yes) h in
    elim l as (λ l. p l ≡ true) [ No ↦ k.0 | Cardinality ↦ k.1 | Division ↦ k.2 | Overflow ↦ k.3 | Yes ↦ k.4 ]

each2_at : (p : Level → Level → Bool) → each2 p ≡ true → (a b : Level) → p a b ≡ true
each2_at p h a b = each_at (p a) (each_at (λ a. each (p a)) h a) b

each3_at : (p : Level → Level → Level → Bool) → each3 p ≡ true → (a b c : Level) → p a b c ≡ true
each3_at p h a b c = each2_at (p a) (each_at (λ a. each2 (p a)) h a) b c

level_at : ℕ → Level
level_at n = cond (nat_eq n 0) No (cond (nat_eq n 1) Cardinality (cond (nat_eq n 2) Division (cond (nat_eq n 3) Overflow Yes)))

level_at-rank : (l : Level) → level_at (rank l) ≡ l
unfolding level_at
level_at-rank No = refl
level_at-rank Cardinality = refl
level_at-rank Division = refl
level_at-rank Overflow = refl
level_at-rank Yes = refl

-- a rank has one level
pub rank-once : (a b : Level) → rank a ≡ rank b → a ≡ b
rank-once a b h = sym (level_at-rank a) ∙ ap level_at h ∙ level_at-rank b

pub same_level-true : (a b : Level) → same_level a b ≡ true → a ≡ b
same_level-true a b h = rank-once a b (eqb-true (rank a) (rank b) h)

pub level_is_no : (l : Level) → (l ≡ No) ⊎ (l ≢ No)
level_is_no No = inl refl
level_is_no Cardinality = inr (λ h. cc)
level_is_no Division = inr (λ h. cc)
level_is_no Overflow = inr (λ h. cc)
level_is_no Yes = inr (λ h. cc)

pub least-associative : (a b c : Level) → least (least a b) c ≡ least a (least b c)
least-associative a b c = same_level-true _ _ (each3_at (λ a b c. same_level (least (least a b) c) (least a (least b c))) refl a b c)

pub greatest-associative : (a b c : Level) → greatest (greatest a b) c ≡ greatest a (greatest b c)
greatest-associative a b c = same_level-true _ _ (each3_at (λ a b c. same_level (greatest (greatest a b) c) (greatest a (greatest b c))) refl a b c)

pub least-commutative : (a b : Level) → least a b ≡ least b a
least-commutative a b = same_level-true _ _ (each2_at (λ a b. same_level (least a b) (least b a)) refl a b)

pub greatest-commutative : (a b : Level) → greatest a b ≡ greatest b a
greatest-commutative a b = same_level-true _ _ (each2_at (λ a b. same_level (greatest a b) (greatest b a)) refl a b)

pub greatest-itself : (a : Level) → greatest a a ≡ a
greatest-itself a = same_level-true _ _ (each_at (λ a. same_level (greatest a a) a) refl a)

pub least-yes : (a : Level) → least a Yes ≡ a
least-yes a = same_level-true _ _ (each_at (λ a. same_level (least a Yes) a) refl a)

pub yes-least : (a : Level) → least Yes a ≡ a
yes-least a = same_level-true _ _ (each_at (λ a. same_level (least Yes a) a) refl a)

pub least-no : (a : Level) → least a No ≡ No
least-no a = same_level-true _ _ (each_at (λ a. same_level (least a No) No) refl a)

pub no-least : (a : Level) → least No a ≡ No
no-least a = same_level-true _ _ (each_at (λ a. same_level (least No a) No) refl a)

pub greatest-no : (a : Level) → greatest a No ≡ a
greatest-no a = same_level-true _ _ (each_at (λ a. same_level (greatest a No) a) refl a)

pub no-greatest : (a : Level) → greatest No a ≡ a
no-greatest a = same_level-true _ _ (each_at (λ a. same_level (greatest No a) a) refl a)

pub least-greatest : (a b c : Level) → least a (greatest b c) ≡ greatest (least a b) (least a c)
least-greatest a b c = same_level-true _ _ (each3_at (λ a b c. same_level (least a (greatest b c)) (greatest (least a b) (least a c))) refl a b c)

pub greatest-either : (a b : Level) → (greatest a b ≡ a) ⊎ (greatest a b ≡ b)
greatest-either a b = elim (cases_Bool (nat_le (rank a) (rank b))) [ inl t ↦ inr (ap (λ x. cond x b a) t) | inr t ↦ inl (ap (λ x. cond x b a) t) ]

-- no is the same level as no other
pub no-other : (l : Level) → l ≢ No → same_level No l ≡ false
no-other No h = absurd (h refl)
no-other Cardinality h = refl
no-other Division h = refl
no-other Overflow h = refl
no-other Yes h = refl

-- the greatest one among levels
pub greatest-monoid : IsCommutativeMonoid Level greatest No
greatest-monoid = record { associative = greatest-associative; commutative = greatest-commutative; unit = no-greatest }
