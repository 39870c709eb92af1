-- What it means that a reader is sound: the tokens that it takes are those of the tree that it gives, and the tree is the grammar's.
use Rattle.std.proofs.Common.{◌≡◌, Bool, true, List, ◌∷◌, Some, ◌∙◌, ap, subst}
use Rattle.sql_text.specs.declared.key.Key.TheVariants as k
use Rattle.sql_text.specs.declared.token.Token.{Token}
use Rattle.sql_text.specs.declared.token.Token.TheVariants as t
use Rattle.sql_parser.specs.Read.{ending as at_end, end_case}
use Rattle.sql_parser.specs.Words.{Parser, ◌>>=◌, closed}
use Rattle.sql_parser.proofs.Steps.{some_inj, none_some, bind_ok, closed_ok}

ending_ok : {A : Type 0} (x : A) (ts : List Token) (r : A × List Token) → at_end x ts ≡ Some r → (r.0 ≡ x) × (ts ≡ t.Key k.End ∷ r.1)
ending_ok x (t.Key k.End ∷ ts) r h = (cc, cc)
ending_ok x _ r h = absurd (none_some r h)

pub end_case_ok : {A B : Type 0} (f : A → B) (x : A) (ts : List Token) (r : B × List Token) → end_case f x ts ≡ Some r
    → (r.0 ≡ f x) × (ts ≡ t.Key k.End ∷ r.1)
end_case_ok f x = ending_ok (f x)

-- the tokens are the tree's, and then the rest
pub record Takes {A : Type 0} (ok : A → Bool) (spell : A → List Token → List Token) (ts : List Token) (x : A × List Token) : Type 0 where
  pub grammatical : ok x.0 ≡ true
  pub tokens : ts ≡ spell x.0 x.1

pub record Sound {A : Type 0} (ok : A → Bool) (spell : A → List Token → List Token) (p : Parser A) : Type 0 where
  pub holds : (ts : List Token) (x : A × List Token) → p ts ≡ Some x → Takes ok spell ts x

-- the same of a value that the found one is made of
pub record Made {A B : Type 0} (ok : A → Bool) (spell : A → List Token → List Token) (f : A → B) (ts : List Token) (x : B × List Token) : Type 0 where
  pub value : A
  pub is : x.0 ≡ f value
  pub grammatical : ok value ≡ true
  pub tokens : ts ≡ spell value x.1

-- the spelling of what a bracket closes, and of what END closes
abbrev pub in_bracket : {A : Type 0} → (A → List Token → List Token) → A → List Token → List Token
in_bracket spell x ts = spell x (t.RightParen ∷ ts)

abbrev pub to_end : {A : Type 0} → (A → List Token → List Token) → A → List Token → List Token
to_end spell x ts = spell x (t.Key k.End ∷ ts)

pub inside : {A B : Type 0} (ok : A → Bool) (spell : A → List Token → List Token) (p : Parser A) → Sound ok spell p → (f : A → B) (ts : List Token) (x : B × List Token)
    → (p ts >>= closed f) ≡ Some x → Made ok (in_bracket spell) f ts x
inside ok spell p sound f ts x h =
    let b = bind_ok (p ts) (closed f) x h in
    let k = sound.holds ts b.0 b.1 in
    let e = closed_ok f b.0.0 b.0.1 x b.2 in
    record { value = b.0.0; is = e.0; grammatical = k.grammatical; tokens = k.tokens ∙ ap (spell b.0.0) e.1 }

pub ending : {A B : Type 0} (ok : A → Bool) (spell : A → List Token → List Token) (p : Parser A) → Sound ok spell p → (f : A → B) (ts : List Token) (x : B × List Token)
    → (p ts >>= end_case f) ≡ Some x → Made ok (to_end spell) f ts x
ending ok spell p sound f ts x h =
    let b = bind_ok (p ts) (end_case f) x h in
    let k = sound.holds ts b.0 b.1 in
    let e = end_case_ok f b.0.0 b.0.1 x b.2 in
    record { value = b.0.0; is = e.0; grammatical = k.grammatical; tokens = k.tokens ∙ ap (spell b.0.0) e.1 }

pub found : {A : Type 0} (ok : A → Bool) (spell : A → List Token → List Token) (ts : List Token) (x y : A × List Token) → Takes ok spell ts x → Some x ≡ Some y → Takes ok spell ts y
found ok spell ts x y h e = subst (λ r. Takes ok spell ts r) (some_inj x y e) h
