use Rattle.std.proofs.Common.{◌++◌, ℕ, List, Option, arith, subst, take}
use Rattle.sql_meaning.specs.Occurrences.{Indexes}
use Rattle.sql_names.specs.Places.{names_in}
use Rattle.sql_names.specs.Ranges.{shape}
use Rattle.sql_names.proofs.Scoped.{indexed_next}
use Rattle.std.proofs.lemmas.Grind.{common_steps}
use Rattle.sql_names.proofs.scope.add_columns.Goals as goal

pub loop-range-preserved : goal.loop-range-preserved
loop-range-preserved c = λ before index.
    indexed_next before c.args.ranges.now c.loop-range.range-index c.range-item.result c.append.new.self (omega (arith, c.loop-range-test.true)) c.range-item.is
    (subst (λ (columns : List (Option (List ℕ))). Indexes ((before ++ names_in (shape (take c.loop-range.range-index c.args.ranges.now))) ++ columns) c.append.new.self) c.as_slice.ensures
    (c.in_ok-append.ensures (before ++ names_in (shape (take c.loop-range.range-index c.args.ranges.now))) (c.loop-range.invariant before index)))

pub returns : goal.returns
returns c = grind (arith, common_steps)
