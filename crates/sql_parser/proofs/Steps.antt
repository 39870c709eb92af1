-- What a step of reading that succeeds has done.
use Rattle.std.proofs.Common.{◌≡◌, Bool, true, false, List, ◌∷◌, Some, None, refl}
use Rattle.std.specs.Prelude.{◌&&◌, not}
use Rattle.sql_text.specs.declared.token.Token.{Token}
use Rattle.sql_text.specs.declared.token.Token.TheVariants as t
use Rattle.sql_parser.specs.Words.{Parsed, Parser, ◌>>=◌, closing, closed, mapped}

pub some_inj : {A : Type 0} (x y : A) → Some x ≡ Some y → x ≡ y
some_inj x y h = cc

pub none_some : {A : Type 0} (y : A) → None ≡ Some y → ⊥
none_some y h = cc

pub bind_ok : {A B : Type 0} (m : Parsed A) (f : A → Parser B) (y : B × List Token) → (m >>= f) ≡ Some y
    → (x : A × List Token) × (m ≡ Some x) × (f x.0 x.1 ≡ Some y)
bind_ok None f y h = absurd (none_some y h)
bind_ok (Some x) f y h = (x, refl, h)

pub mapped_ok : {A B : Type 0} (f : A → B) (m : Parsed A) (y : B × List Token) → mapped f m ≡ Some y
    → (x : A × List Token) × (m ≡ Some x) × (y ≡ (f x.0, x.1))
mapped_ok f None y h = absurd (none_some y h)
mapped_ok f (Some x) y h = (x, refl, cc)

pub and_true : (a b : Bool) → a ≡ true → b ≡ true → a && b ≡ true
and_true a b p q = rw (p, q) refl

pub and_ok : (a b : Bool) → a && b ≡ true → (a ≡ true) × (b ≡ true)
and_ok true b h = (refl, h)
and_ok false b h = absurd (cc)

pub and_false : (a : Bool) → a && false ≡ false
and_false true = refl
and_false false = refl

pub not_ok : (a : Bool) → not a ≡ true → a ≡ false
not_ok true h = absurd (cc)
not_ok false h = refl

pub not_true : (a : Bool) → a ≡ false → not a ≡ true
not_true true h = absurd (cc)
not_true false h = refl

pub closing_ok : {A : Type 0} (x : A) (ts : List Token) (r : A × List Token) → closing x ts ≡ Some r → (r.0 ≡ x) × (ts ≡ t.RightParen ∷ r.1)
closing_ok x (t.RightParen ∷ ts) r h = (cc, cc)
closing_ok x _ r h = absurd (none_some r h)

pub closed_ok : {A B : Type 0} (f : A → B) (x : A) (ts : List Token) (r : B × List Token) → closed f x ts ≡ Some r
    → (r.0 ≡ f x) × (ts ≡ t.RightParen ∷ r.1)
closed_ok f x = closing_ok (f x)
