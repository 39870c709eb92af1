-- Tests of which both hold, faults that aren't there, and lists that are empty.
use Rattle.std.proofs.Common.{◌≡◌, ◌∙◌, ◌&&◌, ℕ, suc, Bool, true, false, not, List, [], ◌∷◌, ◌++◌, refl, ap₂}
use Rattle.std.specs.List.{list_any}
use Rattle.std.proofs.lemmas.Bool.{and_parts, or_left, or_right}
use Rattle.std.proofs.lemmas.List.Folds.{list_any-append}
use Rattle.sql_faults.specs.Rules.{fault_if}

-- the last of three
pub last_so : (a b c : Bool) → (a && (b && c)) ≡ true → c ≡ true
last_so a b c h = (and_parts b c (and_parts a (b && c) h).1).1

-- where a rule isn't broken, its test holds
pub is_so : (b : Bool) (n : ℕ) → fault_if (not b) (suc n) ≡ 0 → b ≡ true
is_so true n h = refl
is_so false n h = absurd (cc)

pub none : {A : Type 0} (xs ys : List A) → xs ≡ [] → ys ≡ [] → xs ++ ys ≡ []
none {A} xs ys h k = ap₂ (λ (a b : List A). a ++ b) h k

pub none_both : {A : Type 0} (xs ys : List A) → xs ++ ys ≡ [] → (xs ≡ []) × (ys ≡ [])
none_both [] ys h = (refl, h)
none_both (x ∷ xs) ys h = absurd (cc)

-- one of the first passes, or one of the others: so does one of both
pub any_left : {A : Type 0} (p : A → Bool) (xs ys : List A) → list_any p xs ≡ true → list_any p (xs ++ ys) ≡ true
any_left p xs ys h = list_any-append p xs ys ∙ or_left (list_any p xs) (list_any p ys) h

pub any_right : {A : Type 0} (p : A → Bool) (xs ys : List A) → list_any p ys ≡ true → list_any p (xs ++ ys) ≡ true
any_right p xs ys h = list_any-append p xs ys ∙ or_right (list_any p xs) (list_any p ys) h
