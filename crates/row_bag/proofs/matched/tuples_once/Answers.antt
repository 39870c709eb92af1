use Rattle.std.proofs.Common.{ap, arith, drop}
use Rattle.std.proofs.lemmas.List.{drop_all}
use Rattle.std.proofs.lemmas.Option.{slice_get_within}
use Rattle.row_bag.specs.Sets.{multiplicity, same_cells}
use Rattle.row_bag.proofs.Matching.{counts-once, once-each}
use Rattle.row_bag.specs.RowRefs.{lent}
use Rattle.row_bag.proofs.Places.{read-at}
use Rattle.row_bag.proofs.matched.tuples_once.Goals as goal

pub loop-i-preserved : goal.loop-i-preserved
loop-i-preserved c = record {
  index = c.in_ok-enter.ensures.index;
  once = c.in_ok-enter.ensures.once;
  counts = λ t. counts-once t c.args.rows.now c.loop-i.i (lent c.at.result) _ _ (read-at c.args.rows.now c.loop-i.i (lent c.at.result) c.at.ensures) (slice_get_within c.args.rows.now c.loop-i.i (lent c.at.result) c.at.ensures) (c.in_ok-enter.ensures.counts t) (c.loop-i.invariant.counts t);
}

pub returns : goal.returns
returns c = λ t.
    once-each _ t (multiplicity same_cells t (drop c.loop-i.i c.args.rows.now)) (multiplicity same_cells t c.args.rows.now) c.loop-i.invariant.once (c.loop-i.invariant.counts t)
    (ap (multiplicity same_cells t) (drop_all c.loop-i.i c.args.rows.now (omega (arith, c.loop-i-test.false))))
