-- A recursion on a count of turns, beside a loop that counts up: of elements and of statements; where no constraint stands first.
use Rattle.std.proofs.Common.{◌≡◌, ℕ, zero, suc, List, [], ◌∷◌, ◌++◌, map, false, Option, Some, None, ap, ◌∙◌, sym, refl}
use Rattle.std.specs.Option.{option_map, option_and_then}
use Rattle.std.proofs.lemmas.List.{append_assoc, map-append}
use Rattle.sql_text.specs.declared.key.Key.TheVariants as k
use Rattle.sql_text.specs.declared.token.Token.{Token}
use Rattle.sql_text.specs.declared.token.Token.TheVariants as t
use Rattle.sql_parser.specs.Read.{starts_comma}
use Rattle.sql_ast.specs.Syntax as s
use Rattle.sql_parser.specs.ReadSchema.{constraints, starts_not_null, starts_primary_key, starts_unique, more_elements, ended, statements}

pub elements_stop : (n : ℕ) (ts : List Token) → starts_comma ts ≡ false → more_elements n ts ≡ Some ([], ts)
elements_stop zero ts h = refl
elements_stop (suc n) (t.Comma ∷ ts) h = absurd (cc)
elements_stop (suc n) ts h = refl

pub no_constraint : (ts : List Token) → starts_not_null ts ≡ false → starts_primary_key ts ≡ false → starts_unique ts ≡ false → constraints ts ≡ ([], ts)
no_constraint (t.Key k.Not ∷ t.Key k.Null ∷ ts) not_null primary_key unique = absurd (cc)
no_constraint (t.Key k.Primary ∷ t.Key k.Key ∷ ts) not_null primary_key unique = absurd (cc)
no_constraint (t.Key k.Unique ∷ ts) not_null primary_key unique = absurd (cc)
no_constraint ts not_null primary_key unique = refl

-- ---- a list that is read up to the end

pub before_none : {A : Type 0} (m : Option (List A)) → m ≡ option_map (λ xs. xs) m
before_none None = refl
before_none (Some xs) = refl

pub before_one : {A B : Type 0} (f : A → B) (out : List A) (x : A) (m : Option (List B))
    → option_map (λ xs. map f out ++ xs) (option_map (λ xs. f x ∷ xs) m) ≡ option_map (λ xs. map f (out ++ x ∷ []) ++ xs) m
before_one f out x None = refl
before_one f out x (Some xs) = ap Some (sym (ap (λ ys. ys ++ xs) (map-append f out (x ∷ [])) ∙ append_assoc (map f out) (f x ∷ []) xs))

pub statements_next : (n : ℕ) (ts : List Token) (x : s.Statement) (us : List Token) → ended ts ≡ Some (x, us) → statements (suc n) ts ≡ option_map (λ xs. x ∷ xs) (statements n us)
statements_next n [] x us h = absurd (cc)
statements_next n (u ∷ ts) x us h = ap (option_and_then (λ y. option_map (λ ys. y.0 ∷ ys) (statements n y.1))) h
