-- The mean of numbers of 64 bits, which is one.
use Rattle.std.proofs.Common.{◌≡◌, ◌<◌, ◌+◌, ◌-◌, ◌/◌, ◌^◌, ℕ, zero, suc, ℤ, pos, negsuc, ◌≤ℤ◌, ◌+ℤ◌, FitsSigned, w64, arith, refl}
use Rattle.std.proofs.lemmas.Int.{ints}
use Rattle.std.proofs.lemmas.Nat.{div_below}
use Rattle.std.specs.Int.RustNames.{int_div}
use lib.IntN.{neg_ℤ}
use lib.Signed.{mag}
use Rattle.row_bag.specs.Arguments.{IsTotalOf}
use Rattle.row_bag.specs.Aggregates as groups
use Rattle.sql_value.specs.declared.cell.Cell.TheVariants.{Int}

negated : (r m : ℕ) → r < m + 1 → 0 < m → mag (neg_ℤ (pos r)) < m
negated zero m below some = some
negated (suc r) m below some = omega (arith, below)

pub mean_fits : (count : ℕ) (total : ℤ) → 0 < count → IsTotalOf count total → FitsSigned w64 (int_div total (pos count))
mean_fits count (pos t) some within = record { sfits = div_below t count (2 ^ 63) some (omega (arith, ints, within.0, some)) }
mean_fits count (negsuc t) some within =
    record { sfits = negated (suc t / count) (2 ^ 63) (div_below (suc t) count (2 ^ 63 + 1) some (omega (arith, ints, within.1, some))) (omega arith) }

pub mean_of : (count : ℕ) (total : ℤ) → 0 < count → Int (int_div total (pos count)) ≡ groups.mean count total
mean_of zero total some = absurd (omega (arith, some))
mean_of (suc count) total some = refl

-- one number of 64 bits
pub one_within : (z : ℤ) → FitsSigned w64 z → (z ≤ℤ pos (2 ^ 63 - 1)) × (pos 0 ≤ℤ (z +ℤ pos (2 ^ 63)))
one_within (pos n) fits = (omega (arith, ints, fits.sfits), omega (arith, ints, fits.sfits))
one_within (negsuc n) fits = (omega (arith, ints, fits.sfits), omega (arith, ints, fits.sfits))
