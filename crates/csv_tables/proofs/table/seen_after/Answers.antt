use Rattle.std.proofs.Common.{arith}
use Rattle.std.proofs.lemmas.Option.{slice_get_within}
use Rattle.row_bag.specs.RowRefs.{lent}
use Rattle.row_bag.proofs.Places.{read-at}
use Rattle.csv_tables.proofs.Checks.{check-all, check-more, check-stop, found-here, seen-next}
use Rattle.csv_tables.proofs.table.seen_after.Goals as goal

pub returns-then-branch-clause-refused : goal.returns-then-branch-clause-refused
returns-then-branch-clause-refused c =
    rw c.refusal.ensures (check-stop c.args.keys.now c.args.rows.now c.loop-i.i (lent c.at.result) _ (slice_get_within c.args.rows.now c.loop-i.i (lent c.at.result) c.at.ensures)
    (found-here c.args.keys.now c.args.rows.now c.loop-i.i (lent c.at.result) c.loop-i.seen.items _ _ (read-at c.args.rows.now c.loop-i.i (lent c.at.result) c.at.ensures) c.loop-i.invariant.seen c.in_ok-repeats.ensures.found c.if-branch.true) c.loop-i.invariant.all)

pub loop-i-preserved : goal.loop-i-preserved
loop-i-preserved c = record {
  all = check-more c.args.keys.now c.args.rows.now c.loop-i.i (lent c.at.result) _ (slice_get_within c.args.rows.now c.loop-i.i (lent c.at.result) c.at.ensures)
      (found-here c.args.keys.now c.args.rows.now c.loop-i.i (lent c.at.result) c.loop-i.seen.items _ _ (read-at c.args.rows.now c.loop-i.i (lent c.at.result) c.at.ensures) c.loop-i.invariant.seen c.in_ok-repeats.ensures.found c.if-branch.false) c.loop-i.invariant.all;
  seen = seen-next c.args.keys.now c.args.rows.now c.loop-i.i (lent c.at.result) c.loop-i.seen.items _ (slice_get_within c.args.rows.now c.loop-i.i (lent c.at.result) c.at.ensures) (read-at c.args.rows.now c.loop-i.i (lent c.at.result) c.at.ensures) c.loop-i.invariant.seen (c.in_ok-repeats.ensures.after c.if-branch.false);
}

pub returns-clause-seen : goal.returns-clause-seen
returns-clause-seen c = check-all c.args.keys.now c.args.rows.now c.loop-i.i c.loop-i.seen.items _ (omega (arith, c.len-i-end.ensures, c.loop-i-test.false)) c.loop-i.invariant.seen c.loop-i.invariant.all
