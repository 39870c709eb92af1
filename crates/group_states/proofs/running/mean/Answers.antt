use Rattle.std.proofs.Common.{◌≡◌, ◌<◌, ℕ, ℤ, pos, ◌^◌, arith, ap₂, sym, subst, ◌∙◌, FitsSigned, to_z, of_z, w64}
use Rattle.std.proofs.lemmas.Int.{quot_fits, ints, to_z-of_z, to_z_pos}
use Rattle.std.proofs.lemmas.Result.{OkIff-at_err}
use Rattle.std.specs.Int.RustNames.{int_div}
use Rattle.row_bag.proofs.Means.{mean_fits}
use Rattle.group_states.proofs.running.mean.Goals as goal
use mir.Syntax.{w128}

-- what is computed in 128 bits is the quotient
quotient : (count : ℕ) (total : ℤ) → 0 < count → count < 2 ^ 64 → FitsSigned w128 total → to_z w128 (of_z w128 (int_div (to_z w128 (of_z w128 total)) (to_z w128 count))) ≡ int_div total (pos count)
quotient count total some small fits =
    ap₂ (λ x y. to_z w128 (of_z w128 (int_div x y))) (to_z-of_z w128 total fits) (to_z_pos w128 count (omega (arith, small)))
    ∙ to_z-of_z w128 (int_div total (pos count)) (quot_fits w128 total (pos count) fits (omega (arith, ints, some)))

pub returns-in-Err : goal.returns-in-Err
returns-in-Err c = λ within.
    let count = c.args.count in
    let total = c.args.total in
    let some : 0 < count = omega (arith, c.if-count-eq0.false) in
    let value : ℤ = to_z w128 (of_z w128 (int_div (to_z w128 (of_z w128 total)) (to_z w128 count))) in
    absurd (OkIff-at_err c.try_from.result (FitsSigned w64 value) value c.in-Err.field-0 c.try_from.ensures c.in-Err.is
    (subst (λ z. FitsSigned w64 z) (sym (quotient count total some c.ranges.count.fits c.ranges.total)) (mean_fits count total some within)))
