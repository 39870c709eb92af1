use Rattle.std.proofs.Common.{rules, ◌<◌, length, refl}
use Rattle.std.proofs.lemmas.Option.{slice_get_within}
use Rattle.row_bag.proofs.Matching.{counts-fit, counts-more}
use Rattle.row_bag.specs.RowRefs.{lent}
use Rattle.row_bag.proofs.Places.{read-at}
use Rattle.row_bag.proofs.matched.counted.Goals as goal

pub count_row-requires-clause-room : goal.count_row-requires-clause-room
count_row-requires-clause-room c =
    let fits : length c.args.rows.now < 18446744073709551616 = search rules in
    counts-fit c.args.rows.now c.loop-i.i (lent c.at.result) _ (length c.args.rows.now) (read-at c.args.rows.now c.loop-i.i (lent c.at.result) c.at.ensures) (slice_get_within c.args.rows.now c.loop-i.i (lent c.at.result) c.at.ensures) (c.loop-i.invariant.counts c.at.result.cells.now) refl fits

pub loop-i-preserved : goal.loop-i-preserved
loop-i-preserved c = record {
  index = c.in_ok-count_row.ensures.index;
  once = c.in_ok-count_row.ensures.once;
  counts = λ t. counts-more t c.args.rows.now c.loop-i.i (lent c.at.result) _ _ (read-at c.args.rows.now c.loop-i.i (lent c.at.result) c.at.ensures) (slice_get_within c.args.rows.now c.loop-i.i (lent c.at.result) c.at.ensures) (c.in_ok-count_row.ensures.counts t) (c.loop-i.invariant.counts t);
}
