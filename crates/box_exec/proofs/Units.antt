-- Truths that change nothing in an AND or an OR, and those that decide it.
use Rattle.std.proofs.Common.{◌≡◌, Bool, true, false, refl, ap, ap₂}
use Rattle.std.proofs.lemmas.Bool.{and_parts}
use Rattle.sql_value.specs.Level.{greatest, least}
use Rattle.sql_value.specs.Truths as t
use Rattle.sql_value.specs.Truths.{truth_of}
use Rattle.sql_value.specs.declared.level.Level.{Level}
use Rattle.sql_value.specs.declared.level.Level.TheVariants.{No, Cardinality, Division, Overflow, Yes}
use Rattle.sql_value.specs.declared.truth.Truth.{Truth}
use Rattle.box_exec.specs.Levels.{is_none, is_yes}
use Rattle.box_exec.specs.Idle.{is_wholly, joined}
use Rattle.box_exec.proofs.Rejections.{none-no}

abbrev truth : Level → Level → Truth
truth t f = record { t = t; f = f }

-- ---- levels

no-greatest : (l : Level) → greatest No l ≡ l
no-greatest No = refl
no-greatest Cardinality = refl
no-greatest Division = refl
no-greatest Overflow = refl
no-greatest Yes = refl

yes-least : (l : Level) → least Yes l ≡ l
yes-least No = refl
yes-least Cardinality = refl
yes-least Division = refl
yes-least Overflow = refl
yes-least Yes = refl

greatest-no : (l : Level) → greatest l No ≡ l
greatest-no No = refl
greatest-no Cardinality = refl
greatest-no Division = refl
greatest-no Overflow = refl
greatest-no Yes = refl

least-yes : (l : Level) → least l Yes ≡ l
least-yes No = refl
least-yes Cardinality = refl
least-yes Division = refl
least-yes Overflow = refl
least-yes Yes = refl

yes-greatest : (l : Level) → greatest Yes l ≡ Yes
yes-greatest No = refl
yes-greatest Cardinality = refl
yes-greatest Division = refl
yes-greatest Overflow = refl
yes-greatest Yes = refl

no-least : (l : Level) → least No l ≡ No
no-least No = refl
no-least Cardinality = refl
no-least Division = refl
no-least Overflow = refl
no-least Yes = refl

greatest-yes : (l : Level) → greatest l Yes ≡ Yes
greatest-yes No = refl
greatest-yes Cardinality = refl
greatest-yes Division = refl
greatest-yes Overflow = refl
greatest-yes Yes = refl

least-no : (l : Level) → least l No ≡ No
least-no No = refl
least-no Cardinality = refl
least-no Division = refl
least-no Overflow = refl
least-no Yes = refl

-- ---- units

pub or-unit : (p : Truth) → t.or (truth_of false) p ≡ p
or-unit p = ap₂ truth (no-greatest p.t) (yes-least p.f)

pub and-unit : (p : Truth) → t.and (truth_of true) p ≡ p
and-unit p = ap₂ truth (yes-least p.t) (no-greatest p.f)

pub joined-unit : (holds : Bool) (p : Truth) → joined holds p (truth_of holds) ≡ p
joined-unit false p = ap₂ truth (greatest-no p.t) (least-yes p.f)
joined-unit true p = ap₂ truth (least-yes p.t) (greatest-no p.f)

pub unit-joined : (holds : Bool) (p : Truth) → joined holds (truth_of holds) p ≡ p
unit-joined false p = or-unit p
unit-joined true p = and-unit p

-- ---- once an OR is true nothing changes it, and once an AND is false

pub or-done : (p : Truth) → t.or (truth_of true) p ≡ truth_of true
or-done p = ap₂ truth (yes-greatest p.t) (no-least p.f)

pub and-done : (p : Truth) → t.and (truth_of false) p ≡ truth_of false
and-done p = ap₂ truth (no-least p.t) (yes-greatest p.f)

pub or-last : (p : Truth) → t.or p (truth_of true) ≡ truth_of true
or-last p = ap₂ truth (greatest-yes p.t) (least-no p.f)

pub and-last : (p : Truth) → t.and p (truth_of false) ≡ truth_of false
and-last p = ap₂ truth (least-no p.t) (greatest-yes p.f)

-- ---- truths that are wholly so

yes-is : (l : Level) → is_yes l ≡ true → l ≡ Yes
yes-is No e = absurd (let z : ⊥ = cc in z)
yes-is Cardinality e = absurd (let z : ⊥ = cc in z)
yes-is Division e = absurd (let z : ⊥ = cc in z)
yes-is Overflow e = absurd (let z : ⊥ = cc in z)
yes-is Yes e = refl

pub wholly-is : (holds : Bool) (p : Truth) → is_wholly holds p ≡ true → p ≡ truth_of holds
wholly-is true p h = let both = and_parts (is_yes p.t) (is_none p.f) h in ap₂ truth (yes-is p.t both.0) (none-no p.f both.1)
wholly-is false p h = let both = and_parts (is_none p.t) (is_yes p.f) h in ap₂ truth (none-no p.t both.0) (yes-is p.f both.1)

pub wholly-of : (holds : Bool) (p : Truth) → p ≡ truth_of holds → is_wholly holds p ≡ true
wholly-of true p e = ap (λ (x : Truth). is_wholly true x) e
wholly-of false p e = ap (λ (x : Truth). is_wholly false x) e
