-- Operations on cells that are no errors.
use Rattle.std.proofs.Common.{ℕ, zero, suc, ℤ, pos, negsuc, ◌≡◌, ◌<◌, ◌+◌, ◌/◌, ◌^◌, cond, Bool, true, false, Option, Some, None, refl, sym, subst, ◌∙◌, arith}
use Rattle.std.proofs.lemmas.Nat.{div_below}
use Rattle.std.proofs.lemmas.Bool.{ltb-true, lt-ltb}
use Rattle.std.proofs.lemmas.Bool.Decides.{Decides-int_eq}
use Rattle.std.specs.Ordering.{int_eq}
use Rattle.std.specs.Int.RustNames.{int_div}
use lib.IntN.{neg_ℤ}
use Rattle.shared_types.specs.declared.compare.CmpOp.{CmpOp}
use Rattle.sql_value.specs.Arithmetic as a
use Rattle.sql_value.specs.Arithmetic.{fits_i64}
use Rattle.sql_value.specs.Cells.{error_of, worst}
use Rattle.sql_value.specs.Comparison as c
use Rattle.sql_value.specs.Like as l
use Rattle.sql_value.specs.Truths as t
use Rattle.sql_value.specs.declared.cell.Cell.{Cell}
use Rattle.sql_value.specs.declared.cell.Cell.TheVariants.{Int, Text, Null, Err}
use Rattle.sql_value.specs.declared.cell.Kind.TheVariants as kind
use Rattle.sql_value.specs.declared.truth.Truth.{Truth}
use Rattle.qgm_props.specs.Facts.{is_sound}
use Rattle.row_bag.specs.AsSets.{is_decided}
use Rattle.qgm_props.proofs.Rows.{greatest-decided, least-decided}

pub no-error : (x : Cell) → is_sound x ≡ true → error_of x ≡ None
no-error (Int n) h = refl
no-error (Text s) h = refl
no-error Null h = refl
no-error (Err k) h = absurd (let z : ⊥ = cc in z)

pub no-worst : (x y : Cell) → is_sound x ≡ true → is_sound y ≡ true → worst x y ≡ None
no-worst (Int n) (Int m) h k = refl
no-worst (Int n) (Text m) h k = refl
no-worst (Int n) Null h k = refl
no-worst (Text n) (Int m) h k = refl
no-worst (Text n) (Text m) h k = refl
no-worst (Text n) Null h k = refl
no-worst Null (Int m) h k = refl
no-worst Null (Text m) h k = refl
no-worst Null Null h k = refl
no-worst x (Err k) h e = absurd (let z : ⊥ = cc in z)
no-worst (Err k) y h e = absurd (let z : ⊥ = cc in z)

-- ---- truths

-- a truth without an error
abbrev pub Decided : Truth → Type 0
Decided p = (is_decided p.t ≡ true) × (is_decided p.f ≡ true)

pub decided-bool : (b : Bool) → Decided (t.truth_of b)
decided-bool true = (refl, refl)
decided-bool false = (refl, refl)

pub decided-and : (p q : Truth) → Decided p → Decided q → Decided (t.and p q)
decided-and p q h k = (least-decided p.t q.t h.0 k.0, greatest-decided p.f q.f h.1 k.1)

pub decided-or : (p q : Truth) → Decided p → Decided q → Decided (t.or p q)
decided-or p q h k = (greatest-decided p.t q.t h.0 k.0, least-decided p.f q.f h.1 k.1)

decided-values : (op : CmpOp) (x y : Cell) → Decided (c.compare_values op x y)
decided-values op (Int m) (Int n) = decided-bool _
decided-values op (Int m) (Text n) = (refl, refl)
decided-values op (Int m) Null = (refl, refl)
decided-values op (Int m) (Err n) = (refl, refl)
decided-values op (Text m) (Int n) = (refl, refl)
decided-values op (Text m) (Text n) = decided-bool _
decided-values op (Text m) Null = (refl, refl)
decided-values op (Text m) (Err n) = (refl, refl)
decided-values op Null y = (refl, refl)
decided-values op (Err k) y = (refl, refl)

decided-texts : (x y : Cell) → Decided (l.like_values x y)
decided-texts (Text m) (Text n) = decided-bool _
decided-texts (Text m) (Int n) = (refl, refl)
decided-texts (Text m) Null = (refl, refl)
decided-texts (Text m) (Err n) = (refl, refl)
decided-texts (Int m) y = (refl, refl)
decided-texts Null y = (refl, refl)
decided-texts (Err k) y = (refl, refl)

unless : (o : Option _) (p : Truth) → o ≡ None → Decided p → Decided (t.error_or o p)
unless None p e h = h
unless (Some k) p e h = absurd (let z : ⊥ = cc in z)

pub decided-compare : (op : CmpOp) (x y : Cell) → is_sound x ≡ true → is_sound y ≡ true → Decided (c.compare op x y)
decided-compare op x y h k = unless (worst x y) (c.compare_values op x y) (no-worst x y h k) (decided-values op x y)

pub decided-same : (x y : Cell) → is_sound x ≡ true → is_sound y ≡ true → Decided (c.same x y)
decided-same x y h k = unless (worst x y) _ (no-worst x y h k) (decided-bool _)

pub decided-like : (x y : Cell) → is_sound x ≡ true → is_sound y ≡ true → Decided (l.like x y)
decided-like x y h k = unless (worst x y) (l.like_values x y) (no-worst x y h k) (decided-texts x y)

pub decided-null : (x : Cell) → is_sound x ≡ true → Decided (c.is_null x)
decided-null (Int n) h = (refl, refl)
decided-null (Text n) h = (refl, refl)
decided-null Null h = (refl, refl)
decided-null (Err k) h = absurd (let z : ⊥ = cc in z)

-- ---- cells

sound-unless : (o : Option _) (x : Cell) → o ≡ None → is_sound x ≡ true → is_sound (a.error_or o x) ≡ true
sound-unless None x e h = h
sound-unless (Some k) x e h = absurd (let z : ⊥ = cc in z)

-- a number that fits is in range
in-range : (n : ℤ) → fits_i64 n ≡ true → is_sound (a.in_range n) ≡ true
in-range n h = go (fits_i64 n) h
  where
    go : (b : Bool) → b ≡ true → is_sound (a.fitted (cond b (Some n) None)) ≡ true
    go true e = h
    go false e = absurd (let z : ⊥ = cc in z)

pub sound-concat : (x y : Cell) → is_sound x ≡ true → is_sound y ≡ true → is_sound (a.concat x y) ≡ true
sound-concat x y h k = sound-unless (worst x y) _ (no-worst x y h k) (texts x y)
  where
    texts : (x y : Cell) → is_sound (a.joined x y) ≡ true
    texts (Text s) (Text t) = refl
    texts (Text s) (Int n) = refl
    texts (Text s) Null = refl
    texts (Text s) (Err k) = refl
    texts (Int n) y = refl
    texts Null y = refl
    texts (Err k) y = refl

-- minus so many, where there are at most 2^63
minus-fits : (r : ℕ) → r < 2 ^ 63 + 1 → fits_i64 (neg_ℤ (pos r)) ≡ true
minus-fits zero h = lt-ltb 0 (2 ^ 63) (omega (arith))
minus-fits (suc r) h = lt-ltb r (2 ^ 63) (omega (arith, h))

-- a number divided by a divisor other than 0 and -1
quotient-fits : (z n : ℤ) → fits_i64 z ≡ true → int_eq n (pos 0) ≡ false → int_eq n (negsuc 0) ≡ false → fits_i64 (int_div z n) ≡ true
quotient-fits z (pos zero) h e k = absurd (let d = (Decides-int_eq (pos 0) (pos 0)).1 refl in let w : true ≡ false = sym d ∙ e in let v : ⊥ = cc in v)
quotient-fits (pos a) (pos (suc n)) h e k =
    let l = ltb-true a (2 ^ 63) h in lt-ltb (a / suc n) (2 ^ 63) (div_below a (suc n) (2 ^ 63) (omega (arith)) (omega (arith, l)))
quotient-fits (negsuc a) (pos (suc n)) h e k =
    let l = ltb-true a (2 ^ 63) h in minus-fits (suc a / suc n) (div_below (suc a) (suc n) (2 ^ 63 + 1) (omega (arith)) (omega (arith, l)))
quotient-fits z (negsuc zero) h e k = absurd (let d = (Decides-int_eq (negsuc 0) (negsuc 0)).1 refl in let w : true ≡ false = sym d ∙ k in let v : ⊥ = cc in v)
quotient-fits (pos a) (negsuc (suc n)) h e k =
    let l = ltb-true a (2 ^ 63) h in minus-fits (a / suc (suc n)) (div_below a (suc (suc n)) (2 ^ 63 + 1) (omega (arith)) (omega (arith, l)))
quotient-fits (negsuc a) (negsuc (suc n)) h e k =
    let l = ltb-true a (2 ^ 63) h in lt-ltb (suc a / suc (suc n)) (2 ^ 63) (div_below (suc a) (suc (suc n)) (2 ^ 63) (omega (arith)) (omega (arith, l)))

pub sound-div : (x : Cell) (n : ℤ) → is_sound x ≡ true → int_eq n (pos 0) ≡ false → int_eq n (negsuc 0) ≡ false → is_sound (a.div x (Int n)) ≡ true
sound-div (Int z) n h e k = subst (λ b. is_sound (cond b (Err kind.Division) (a.in_range (int_div z n))) ≡ true) (sym e) (in-range (int_div z n) (quotient-fits z n h e k))
sound-div (Text s) n h e k = refl
sound-div Null n h e k = refl
sound-div (Err j) n h e k = absurd (let z : ⊥ = cc in z)
