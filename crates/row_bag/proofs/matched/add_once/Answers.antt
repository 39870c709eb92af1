use Rattle.std.proofs.Common.{◌≡◌, ap, map, min, refl}
use Rattle.row_bag.specs.Matched.{often}
use Rattle.row_bag.proofs.Keeping.{different-push, often-push}
use Rattle.row_bag.proofs.Matching.{added-found}
use Rattle.row_bag.proofs.matched.add_once.Goals as goal

pub returns-in_ok-push_tuple-in-None-clause-once : goal.returns-in_ok-push_tuple-in-None-clause-once
returns-in_ok-push_tuple-in-None-clause-once c = λ once t.
    let none : often c.args.cells.now (map (λ x. x.now) c.args.tuples.now.items) ≡ 0 = c.in-None.ensures.none refl in
    rw c.in_ok-push_tuple-in-None.ensures.tuples (different-push (map (λ x. x.now) c.args.tuples.now.items) c.args.cells.now none once t)

pub returns-in_ok-push_tuple-in-None-clause-counts : goal.returns-in_ok-push_tuple-in-None-clause-counts
returns-in_ok-push_tuple-in-None-clause-counts c = λ t.
    rw c.in_ok-push_tuple-in-None.ensures.tuples (ap (min 1) (often-push t (map (λ x. x.now) c.args.tuples.now.items) c.args.cells.now))

pub returns-in-Some-clause-counts : goal.returns-in-Some-clause-counts
returns-in-Some-clause-counts c = λ t.
    added-found c.args.cells.now (map (λ x. x.now) c.args.tuples.now.items) _ c.in-Some.ensures.found t
