use Rattle.std.proofs.Common.{◌≡◌, ◌∙◌, ◌+◌, ◌∷◌, drop, arith, ap, ℤ, ◌+ℤ◌, ◌≤ℤ◌, pos, rules, FitsSigned, of_z, to_z, w64}
use Rattle.std.proofs.lemmas.Grind.{common_steps}
use Rattle.std.proofs.lemmas.Int.{ints, to_z-of_z}
use Rattle.row_bag.specs.Bags.{if_there}
use Rattle.row_bag.specs.Aggregates as groups
use Rattle.row_bag.specs.Joins as joins
use Rattle.row_bag.proofs.Means.{one_within}
use Rattle.row_bag.proofs.aggregates.add_up.Goals as goal
use Rattle.row_bag.proofs.aggregates.add_up.Goals.{in-Some, in_default}
use mir.Syntax.{w128}

pub loop-row-preserved : goal.loop-row-preserved
loop-row-preserved c =
    let rest = drop (c.loop-row.row-index + 1) c.args.rows.now in
    let step : drop c.loop-row.row-index c.args.rows.now ≡ c.row-item.result ∷ rest = grind (arith, common_steps) in
    let counted : joins.how_many (drop c.loop-row.row-index c.args.rows.now) ≡ if_there 0 (λ c level. 1) c.row-item.result.cells c.row-item.result.level + joins.how_many rest = ap joins.how_many step in
    let added : groups.exact_total (drop c.loop-row.row-index c.args.rows.now) ≡ if_there (pos 0) (λ c level. groups.number_in c) c.row-item.result.cells c.row-item.result.level +ℤ groups.exact_total rest = ap groups.exact_total step in
    elim c.match-number_of.branch [
      | in-Some w ↦
          let number = w.in-Some.number in
          let fits : FitsSigned w64 number = search rules in
          let wide : FitsSigned w128 w.from-total.result = search rules in
          let small : (number ≤ℤ pos 9223372036854775807) × (pos 0 ≤ℤ (number +ℤ pos 9223372036854775808)) = one_within number fits in
          let fitting : FitsSigned w128 (to_z w128 c.loop-row.total-bits +ℤ to_z w128 (of_z w128 w.from-total.result)) = search rules in
          let sum : to_z w128 c.match-number_of.total-bits ≡ to_z w128 c.loop-row.total-bits +ℤ number =
          w.total-is
          ∙ to_z-of_z w128 (to_z w128 c.loop-row.total-bits +ℤ to_z w128 (of_z w128 w.from-total.result)) fitting
          ∙ ap (λ (z : ℤ). to_z w128 c.loop-row.total-bits +ℤ z) (to_z-of_z w128 w.from-total.result wide ∙ w.from-total.ensures ∙ to_z-of_z w64 number fits) in
          record {
            counted = omega (arith, w.count-is, w.in-Some.ensures.count, counted, c.loop-row.invariant.counted);
            below = omega (arith, w.count-is, c.loop-row.invariant.below);
            added = omega (arith, ints, sum, w.in-Some.ensures.number, added, c.loop-row.invariant.added);
            within = (omega (arith, ints, sum, w.count-is, small.0, c.loop-row.invariant.within.0), omega (arith, ints, sum, w.count-is, small.1, c.loop-row.invariant.within.1));
          }
      | in_default w ↦
          record {
            counted = omega (arith, w.count-is, w.in_default.ensures.count, counted, c.loop-row.invariant.counted);
            below = omega (arith, w.count-is, c.loop-row.invariant.below);
            added = omega (arith, ints, w.total-is, w.in_default.ensures.number, added, c.loop-row.invariant.added);
            within = (omega (arith, ints, w.total-is, w.count-is, c.loop-row.invariant.within.0), omega (arith, ints, w.total-is, w.count-is, c.loop-row.invariant.within.1));
          }
    ]

pub returns-clause-total : goal.returns-clause-total
returns-clause-total c = grind (arith, common_steps)

pub overflow_add-total : goal.overflow_add-total
overflow_add-total c = grind (arith, common_steps)
