use Rattle.std.proofs.Common.{◌≡◌, ◌<◌, ℕ, ℤ, pos, ◌^◌, arith, ap, ap₂, sym, subst, ◌∙◌, FitsSigned, to_z, of_z, w64}
use Rattle.std.proofs.lemmas.Int.{ints, quot_fits, to_z-of_z, to_z_pos}
use Rattle.std.specs.Int.RustNames.{int_div}
use Rattle.sql_value.specs.declared.cell.Cell.TheVariants.{Int}
use Rattle.row_bag.proofs.Means.{mean_fits, mean_of}
use Rattle.row_bag.proofs.aggregates.mean.Goals as goal
use mir.Syntax.{w128}

-- what is computed in 128 bits is the quotient
quotient : (count : ℕ) (total : ℤ) → 0 < count → count < 2 ^ 64 → FitsSigned w128 total → to_z w128 (of_z w128 (int_div (to_z w128 (of_z w128 total)) (to_z w128 count))) ≡ int_div total (pos count)
quotient count total some small fits =
    ap₂ (λ x y. to_z w128 (of_z w128 (int_div x y))) (to_z-of_z w128 total fits) (to_z_pos w128 count (omega (arith, small)))
    ∙ to_z-of_z w128 (int_div total (pos count)) (quot_fits w128 total (pos count) fits (omega (arith, ints, some)))

pub overflow_cast-result-2 : goal.overflow_cast-result-2
overflow_cast-result-2 c =
    let some : 0 < c.args.count = omega (arith, c.if-count-eq0.false) in
    subst (λ z. FitsSigned w64 z) (sym (quotient c.args.count c.args.total some c.ranges.count.fits c.ranges.total)) (mean_fits c.args.count c.args.total some c.requires.within)

pub returns : goal.returns
returns c =
    let some : 0 < c.args.count = omega (arith, c.if-count-eq0.false) in
    ap (λ z. Int (to_z w64 (of_z w64 z))) (quotient c.args.count c.args.total some c.ranges.count.fits c.ranges.total)
    ∙ ap Int (to_z-of_z w64 (int_div c.args.total (pos c.args.count)) (mean_fits c.args.count c.args.total some c.requires.within))
    ∙ mean_of c.args.count c.args.total some
