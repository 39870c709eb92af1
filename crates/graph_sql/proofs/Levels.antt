-- Which levels are yes, and which are no error.
use Rattle.std.proofs.Common.{◌≡◌, ◌&&◌, ◌||◌, Bool, true, false, cond, refl, nat_le}
use Rattle.sql_value.specs.Level.{greatest, least, rank}
use Rattle.sql_value.specs.declared.level.Level.{Level}
use Rattle.sql_value.specs.declared.level.Level.TheVariants.{No, Cardinality, Division, Overflow, Yes}
use Rattle.row_bag.specs.AsSets.{is_decided}
use Rattle.qgm_meaning.specs.Satisfies.{is_yes}

pub yes-least : (a b : Level) → is_yes (least a b) ≡ (is_yes a && is_yes b)
yes-least No No = refl
yes-least No Cardinality = refl
yes-least No Division = refl
yes-least No Overflow = refl
yes-least No Yes = refl
yes-least Cardinality No = refl
yes-least Cardinality Cardinality = refl
yes-least Cardinality Division = refl
yes-least Cardinality Overflow = refl
yes-least Cardinality Yes = refl
yes-least Division No = refl
yes-least Division Cardinality = refl
yes-least Division Division = refl
yes-least Division Overflow = refl
yes-least Division Yes = refl
yes-least Overflow No = refl
yes-least Overflow Cardinality = refl
yes-least Overflow Division = refl
yes-least Overflow Overflow = refl
yes-least Overflow Yes = refl
yes-least Yes No = refl
yes-least Yes Cardinality = refl
yes-least Yes Division = refl
yes-least Yes Overflow = refl
yes-least Yes Yes = refl

pub yes-greatest : (a b : Level) → is_yes (greatest a b) ≡ (is_yes a || is_yes b)
yes-greatest No No = refl
yes-greatest No Cardinality = refl
yes-greatest No Division = refl
yes-greatest No Overflow = refl
yes-greatest No Yes = refl
yes-greatest Cardinality No = refl
yes-greatest Cardinality Cardinality = refl
yes-greatest Cardinality Division = refl
yes-greatest Cardinality Overflow = refl
yes-greatest Cardinality Yes = refl
yes-greatest Division No = refl
yes-greatest Division Cardinality = refl
yes-greatest Division Division = refl
yes-greatest Division Overflow = refl
yes-greatest Division Yes = refl
yes-greatest Overflow No = refl
yes-greatest Overflow Cardinality = refl
yes-greatest Overflow Division = refl
yes-greatest Overflow Overflow = refl
yes-greatest Overflow Yes = refl
yes-greatest Yes No = refl
yes-greatest Yes Cardinality = refl
yes-greatest Yes Division = refl
yes-greatest Yes Overflow = refl
yes-greatest Yes Yes = refl

chosen : (t : Bool) (a b : Level) → is_decided a ≡ true → is_decided b ≡ true → is_decided (cond t a b) ≡ true
chosen true a b h k = h
chosen false a b h k = k

pub decided-least : (a b : Level) → is_decided a ≡ true → is_decided b ≡ true → is_decided (least a b) ≡ true
decided-least a b h k = chosen (nat_le (rank a) (rank b)) a b h k

pub decided-greatest : (a b : Level) → is_decided a ≡ true → is_decided b ≡ true → is_decided (greatest a b) ≡ true
decided-greatest a b h k = chosen (nat_le (rank a) (rank b)) b a k h
