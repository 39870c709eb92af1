-- What `parse` reads, in the words of `integer_of`.
use Rattle.std.proofs.Common.{ℕ, zero, suc, ℤ, pos, neg_ℤ, ◌^◌, ◌<◌, ◌≤◌, ◌≡◌, ◌==◌, ◌&&◌, inl, inr, Bool, true, false, List, [], ◌∷◌, drop, length, Option, Some, None, Result, Ok, Err, refl, ap, arith, rules, nat_lt, nat_le, if◌then◌else◌, slice_index}
use Rattle.std.proofs.lemmas.Bool.{cases_Bool, eqb-true, eqb-false, ltb-true, lt-ltb, leb-true, le-leb}
use Rattle.std.proofs.lemmas.Str.{IsUtf8-from_ascii}
use Rattle.std.proofs.lemmas.Str.Ascii.{IsAscii-nil}
use Rattle.std.proofs.lemmas.Str.Parse.{IsNumeralModel, numerals_by_value, tells_all_ascii_digits, parse_signed_minus, parse_signed_plain, parse_signed_plus}
use Rattle.std.specs.Result.{OkIff, result_ok}
use Rattle.std.specs.Str.{all_ascii_digits, IsAscii, IsUtf8}
use Rattle.std.specs.Str.Parse.{ParsesSigned, digits_value}
use mir.Syntax.{w64}
use Rattle.csv_tables.specs.Cells.{integer_of, is_number, negative, positive}

own : IsNumeralModel (λ ds. all_ascii_digits ds ≡ true) (digits_value 10)
own = numerals_by_value (λ ds. all_ascii_digits ds ≡ true) tells_all_ascii_digits

-- a test that says whether a parse is taken
choose : {E : Type 0} {P : Type 0} (t : Bool) (v : ℤ) (r : Result ℤ E) → (P → t ≡ true) → (t ≡ true → P) → OkIff r P v → result_ok r ≡ (if t then Some v else None)
choose true v (Ok x) to from h = ap (λ (z : ℤ). Some z) h.1
choose true v (Err e) to from h = absurd (h (from refl))
choose false v (Ok x) to from h = absurd (cc (to h.0))
choose false v (Err e) to from h = refl

under : (ds : List ℕ) (top : ℕ) → (all_ascii_digits ds ≡ true) × (0 < length ds) × (digits_value 10 ds < top) → (is_number ds && nat_lt (digits_value 10 ds) top) ≡ true
under ds top h = rw (lt-ltb 0 (length ds) h.1, h.0, lt-ltb (digits_value 10 ds) top h.2) refl

both : (a b : Bool) → (a && b) ≡ true → (a ≡ true) × (b ≡ true)
both true b e = (refl, e)
both false b e = cc e

over : (ds : List ℕ) (top : ℕ) → (is_number ds && nat_lt (digits_value 10 ds) top) ≡ true → (all_ascii_digits ds ≡ true) × (0 < length ds) × (digits_value 10 ds < top)
over ds top e =
    let (number, small) = both (is_number ds) (nat_lt (digits_value 10 ds) top) e in
    let (some, digits) = both (nat_lt 0 (length ds)) (all_ascii_digits ds) number in
    (digits, ltb-true 0 (length ds) some, ltb-true (digits_value 10 ds) top small)

under-or : (ds : List ℕ) (top : ℕ) → (all_ascii_digits ds ≡ true) × (0 < length ds) × (digits_value 10 ds ≤ top) → (is_number ds && nat_le (digits_value 10 ds) top) ≡ true
under-or ds top h = rw (lt-ltb 0 (length ds) h.1, h.0, le-leb (digits_value 10 ds) top h.2) refl

over-or : (ds : List ℕ) (top : ℕ) → (is_number ds && nat_le (digits_value 10 ds) top) ≡ true → (all_ascii_digits ds ≡ true) × (0 < length ds) × (digits_value 10 ds ≤ top)
over-or ds top e =
    let (number, small) = both (is_number ds) (nat_le (digits_value 10 ds) top) e in
    let (some, digits) = both (nat_lt 0 (length ds)) (all_ascii_digits ds) number in
    (digits, ltb-true 0 (length ds) some, leb-true (digits_value 10 ds) top small)

is-positive : {E : Type 0} (ds : List ℕ) (r : Result ℤ E) → OkIff r ((all_ascii_digits ds ≡ true) × (0 < length ds) × (digits_value 10 ds < 2 ^ 63)) (pos (digits_value 10 ds)) → result_ok r ≡ positive ds
unfolding positive
is-positive ds r h = choose (is_number ds && nat_lt (digits_value 10 ds) (2 ^ 63)) (pos (digits_value 10 ds)) r (under ds (2 ^ 63)) (over ds (2 ^ 63)) h

is-negative : {E : Type 0} (ds : List ℕ) (r : Result ℤ E) → OkIff r ((all_ascii_digits ds ≡ true) × (0 < length ds) × (digits_value 10 ds ≤ 2 ^ 63)) (neg_ℤ (pos (digits_value 10 ds))) → result_ok r ≡ negative ds
unfolding negative
is-negative ds r h = choose (is_number ds && nat_le (digits_value 10 ds) (2 ^ 63)) (neg_ℤ (pos (digits_value 10 ds))) r (under-or ds (2 ^ 63)) (over-or ds (2 ^ 63)) h

pub integer-parsed : {E : Type 0} (bs : List ℕ) (r : Result ℤ E) → ParsesSigned w64 10 bs r → result_ok r ≡ integer_of bs
unfolding integer_of
integer-parsed bs r h = elim (cases_Bool (slice_index bs 0 == 45)) [
  | inl minus ↦ rw minus (is-negative (drop 1 bs) r (parse_signed_minus own w64 bs r h (eqb-true _ _ minus)))
  | inr other ↦ elim (cases_Bool (slice_index bs 0 == 43)) [
    | inl plus ↦ rw (other, plus) (is-positive (drop 1 bs) r (parse_signed_plus own w64 bs r h (eqb-true _ _ plus)))
    | inr plain ↦ rw (other, plain) (is-positive bs r (parse_signed_plain own w64 bs r h (eqb-false _ _ plain) (eqb-false _ _ other)))
  ]
]

none-from : (t : Bool) (v : ℤ) → (t ≡ true → ⊥) → ◌≡◌ {A = Option ℤ} None (if t then Some v else None)
none-from true v h = absurd (h refl)
none-from false v h = refl

ascii-cons : (c : ℕ) (cs : List ℕ) → c < 128 → IsAscii cs → (i : ℕ) → slice_index (c ∷ cs) i < 128
ascii-cons c cs h rest zero = h
ascii-cons c cs h rest (suc i) = rest i

digits-ascii : (ds : List ℕ) → all_ascii_digits ds ≡ true → IsAscii ds
digits-ascii [] h = search rules
digits-ascii (c ∷ cs) h = let k = tells_all_ascii_digits.parts c cs h in ascii-cons c cs (omega arith) (digits-ascii cs k.1)

sign-ascii : (c : ℕ) (cs : List ℕ) → c < 128 → all_ascii_digits cs ≡ true → IsAscii (c ∷ cs)
sign-ascii c cs h d = ascii-cons c cs h (digits-ascii cs d)

pub integer-ascii : (bs : List ℕ) → (IsUtf8 bs → ⊥) → ◌≡◌ {A = Option ℤ} None (integer_of bs)
unfolding integer_of positive negative
integer-ascii [] h = absurd (h (IsUtf8-from_ascii [] IsAscii-nil))
integer-ascii (c ∷ cs) h = elim (cases_Bool (c == 45)) [
  | inl minus ↦ rw minus (none-from (is_number cs && nat_le (digits_value 10 cs) (2 ^ 63)) _ (λ e. h (IsUtf8-from_ascii (c ∷ cs) (sign-ascii c cs (let k = eqb-true _ _ minus in omega arith) (over-or cs (2 ^ 63) e).0))))
  | inr other ↦ elim (cases_Bool (c == 43)) [
    | inl plus ↦ rw (other, plus) (none-from (is_number cs && nat_lt (digits_value 10 cs) (2 ^ 63)) _ (λ e. h (IsUtf8-from_ascii (c ∷ cs) (sign-ascii c cs (let k = eqb-true _ _ plus in omega arith) (over cs (2 ^ 63) e).0))))
    | inr plain ↦ rw (other, plain) (none-from (is_number (c ∷ cs) && nat_lt (digits_value 10 (c ∷ cs)) (2 ^ 63)) _ (λ e. h (IsUtf8-from_ascii (c ∷ cs) (digits-ascii (c ∷ cs) (over (c ∷ cs) (2 ^ 63) e).0))))
  ]
]
