use Rattle.std.proofs.Common.{◌≡◌, arith, refl}
use Rattle.std.proofs.lemmas.Grind.{common_steps}
use Rattle.std.proofs.lemmas.List.{map_push}
use Rattle.row_bag.specs.Hashes.{tuples_of}
use Rattle.row_bag.specs.Matched.{often}
use Rattle.row_bag.specs.RowRefs.{lent}
use Rattle.row_bag.specs.declared.row.Row.{Row}
use Rattle.row_bag.proofs.Keeping.{Tuple, different-push}
use Rattle.row_bag.proofs.sets.keep.Goals as goal

pub returns-in_ok-keep_new-in-None-clause-once : goal.returns-in_ok-keep_new-in-None-clause-once
returns-in_ok-keep_new-in-None-clause-once c = λ once t.
    let none : often c.args.row.cells.now (tuples_of c.args.kept.now) ≡ 0 = c.in-None.ensures.none refl in
    rw (c.in_ok-keep_new-in-None.ensures.kept, map_push (λ (r : Row Tuple). r.cells) c.args.kept.now (lent c.args.row)) (different-push (tuples_of c.args.kept.now) c.args.row.cells.now none once t)

pub returns-in_ok-keep_new-in-None-clause-levels : goal.returns-in_ok-keep_new-in-None-clause-levels
returns-in_ok-keep_new-in-None-clause-levels c = grind (arith, common_steps)

pub returns-in-Some-clause-once : goal.returns-in-Some-clause-once
returns-in-Some-clause-once c = grind (arith, common_steps)
