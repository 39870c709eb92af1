-- The value of digits.
use Rattle.std.proofs.Common.{◌≡◌, refl, ap, ◌∙◌, ℕ, ◌+◌, ◌-◌, ◌*◌, ◌<◌, ◌≤◌, Bool, true, false, List, [], ◌∷◌, length, arith}
use Rattle.std.specs.Prelude.{All, cond}
use Rattle.std.proofs.lemmas.List.Elements.{All-cons}
use Rattle.std.proofs.lemmas.List.Sums.{take_while-cons}
use Rattle.sql_text.specs.Tokens.{is_digit, digits, value_after}

pub value_grows : (before : ℕ) (ds : List ℕ) → before ≤ value_after before ds
value_grows before [] = omega arith
value_grows before (d ∷ ds) = omega (arith, value_grows (10 * before + (d - 48)) ds)

-- ten times a number is within what it and one more digit begin
pub value_too_large : (before : ℕ) (ds : List ℕ) → 922337203685477580 < before → 0 < length ds → 9223372036854775807 < value_after before ds
value_too_large before [] h some = absurd (omega arith)
value_too_large before (d ∷ ds) h some = omega (arith, h, value_grows (10 * before + (d - 48)) ds)

passes : (b : Bool) (c : ℕ) (cs : List ℕ) → is_digit c ≡ b → All (λ c. is_digit c ≡ true) cs → All (λ c. is_digit c ≡ true) (cond b (c ∷ cs) [])
passes true c cs h k = All-cons (λ c. is_digit c ≡ true) c cs h k
passes false c cs h k = λ _ _ low. absurd (omega (arith, low))

pub digits_pass : (cs : List ℕ) → All (λ c. is_digit c ≡ true) (digits cs)
digits_pass [] = λ _ _ low. absurd (omega (arith, low))
digits_pass (c ∷ cs) = rw (take_while-cons is_digit c cs) (passes (is_digit c) c (digits cs) refl (digits_pass cs))

again : (b : Bool) (c : ℕ) (cs : List ℕ) → is_digit c ≡ b → digits (digits cs) ≡ digits cs → digits (cond b (c ∷ digits cs) []) ≡ cond b (c ∷ digits cs) []
again true c cs h k = take_while-cons is_digit c (digits cs) ∙ rw h (ap (λ ds. c ∷ ds) k)
again false c cs h k = refl

pub digits_again : (cs : List ℕ) → digits (digits cs) ≡ digits cs
digits_again [] = refl
digits_again (c ∷ cs) = rw (take_while-cons is_digit c cs) (again (is_digit c) c cs refl (digits_again cs))
