-- Counting within statements, from the left.
use Rattle.std.proofs.Common.{◌≡◌, refl, sym, ◌∙◌, ℕ, ◌+◌, ◌<◌, ◌≤◌, Bool, true, false, ◌||◌, not, ◌==◌, List, [], ◌∷◌, length, arith}
use Rattle.std.specs.Prelude.{if◌then◌else◌, nat_lt, cond}
use Rattle.std.specs.List.{list_any, count_by, onto_first}
use Rattle.std.proofs.lemmas.Bool.{eqb-true}
use Rattle.std.proofs.lemmas.List.Sums.{sum_by-cons}
use Rattle.std.proofs.lemmas.List.Splits.{length-slice_split}
use Rattle.sql_text.specs.declared.token.Token.{Token}
use Rattle.sql_text.specs.declared.depth.Counted.TheVariants.{Tables, Values}
use Rattle.sql_text.specs.Depth.{is_counted, is_semicolon, shallow, statements, crowded, too_deep}

-- after `count` tokens of the statement that stands first: some statement has over `limit`
abbrev pub running : (Token → Bool) → ℕ → ℕ → List Token → Bool
running test limit count [] = false
running test limit count (token ∷ others) =
    if is_semicolon token then running test limit 0 others
    else (if test token then (if count == limit then true else running test limit (count + 1) others)
    else running test limit count others)

-- the same of statements
abbrev crowded_after : (Token → Bool) → ℕ → ℕ → List (List Token) → Bool
crowded_after test limit count [] = false
crowded_after test limit count (part ∷ parts) = nat_lt limit (count + count_by test part) || list_any (λ statement. nat_lt limit (count_by test statement)) parts

from_none : (test : Token → Bool) (limit : ℕ) (parts : List (List Token)) → crowded_after test limit 0 parts ≡ list_any (λ statement. nat_lt limit (count_by test statement)) parts
from_none test limit [] = refl
from_none test limit (part ∷ parts) = let e : 0 + count_by test part ≡ count_by test part = omega arith in rw e refl

within : (limit count : ℕ) → count ≤ limit → nat_lt limit count ≡ false
within limit count h = grind (arith, h)

over : (limit count : ℕ) → limit < count → nat_lt limit count ≡ true
over limit count h = grind (arith, h)

after_end : (test : Token → Bool) (limit count : ℕ) (parts : List (List Token)) → count ≤ limit → crowded_after test limit count ([] ∷ parts) ≡ crowded_after test limit 0 parts
after_end test limit count parts h =
    let e : count + 0 ≡ count = omega arith in
    rw (e, within limit count h) (sym (from_none test limit parts))

counted : (test : Token → Bool) (token : Token) (part : List Token) (b : Bool) → test token ≡ b → count_by test (token ∷ part) ≡ cond b 1 0 + count_by test part
counted test token part b h = sum_by-cons (λ x. cond (test x) 1 0) token part ∙ rw h refl

not_counted : (test : Token → Bool) (limit count : ℕ) (token : Token) (parts : List (List Token)) → test token ≡ false → 0 < length parts → crowded_after test limit count (onto_first token parts) ≡ crowded_after test limit count parts
not_counted test limit count token [] h some = absurd (omega arith)
not_counted test limit count token (part ∷ parts) h some =
    let e : count_by test (token ∷ part) ≡ count_by test part = counted test token part false h ∙ omega arith in
    rw e refl

one_more : (test : Token → Bool) (limit count : ℕ) (token : Token) (parts : List (List Token)) → test token ≡ true → 0 < length parts → crowded_after test limit count (onto_first token parts) ≡ crowded_after test limit (count + 1) parts
one_more test limit count token [] h some = absurd (omega arith)
one_more test limit count token (part ∷ parts) h some =
    let e : count + count_by test (token ∷ part) ≡ (count + 1) + count_by test part = omega (arith, counted test token part true h) in
    rw e refl

too_many : (test : Token → Bool) (limit count : ℕ) (parts : List (List Token)) → limit < count → 0 < length parts → crowded_after test limit count parts ≡ true
too_many test limit count [] h some = absurd (omega arith)
too_many test limit count (part ∷ parts) h some = rw (over limit (count + count_by test part) (omega (arith, h))) refl

some_statement : (tokens : List Token) → 0 < length (statements tokens)
some_statement tokens = omega (arith, length-slice_split is_semicolon tokens)

running_turn : (test : Token → Bool) (limit count : ℕ) (token : Token) (others : List Token) (ends counts full : Bool) → is_semicolon token ≡ ends → test token ≡ counts → (count == limit) ≡ full → count ≤ limit
    → ((count : ℕ) → count ≤ limit → running test limit count others ≡ crowded_after test limit count (statements others))
    → (if ends then running test limit 0 others else (if counts then (if full then true else running test limit (count + 1) others) else running test limit count others)) ≡ crowded_after test limit count (cond ends ([] ∷ statements others) (onto_first token (statements others)))
running_turn test limit count token others true counts full e t f low rest = rest 0 (omega arith) ∙ sym (after_end test limit count (statements others) low)
running_turn test limit count token others false false full e t f low rest = rest count low ∙ sym (not_counted test limit count token (statements others) t (some_statement others))
running_turn test limit count token others false true true e t f low rest =
    let full : count ≡ limit = eqb-true count limit f in
    sym (one_more test limit count token (statements others) t (some_statement others) ∙ too_many test limit (count + 1) (statements others) (omega (arith, full)) (some_statement others))
running_turn test limit count token others false true false e t f low rest =
    rest (count + 1) (grind (arith, f, low)) ∙ sym (one_more test limit count token (statements others) t (some_statement others))

running_is : (test : Token → Bool) (limit count : ℕ) (tokens : List Token) → count ≤ limit → running test limit count tokens ≡ crowded_after test limit count (statements tokens)
running_is test limit count [] low =
    let e : count + 0 ≡ count = omega arith in
    rw (e, within limit count low) refl
running_is test limit count (token ∷ others) low =
    running_turn test limit count token others (is_semicolon token) (test token) (count == limit) refl refl refl low (λ count low. running_is test limit count others low)

pub crowded_is : (test : Token → Bool) (limit : ℕ) (tokens : List Token) → crowded test limit tokens ≡ running test limit 0 tokens
crowded_is test limit tokens = sym (running_is test limit 0 tokens (omega arith) ∙ from_none test limit (statements tokens))

-- what a text that is not too deep keeps to
within_budget : (shallows tables values : Bool) → (not shallows || tables || values) ≡ false → shallows ≡ true
within_budget true tables values h = refl
within_budget false tables values h = absurd (cc)

pub shallow_if_read : (tokens : List Token) → too_deep tokens ≡ false → shallow 64 tokens ≡ true
unfolding too_deep
shallow_if_read tokens h = within_budget (shallow 64 tokens) (crowded (is_counted Tables) 64 tokens) (crowded (is_counted Values) 2048 tokens) h
