use Rattle.row_bag.proofs.Inserted.{sorted-once}
use Rattle.row_bag.proofs.sort.sorted.Goals as goal

pub returns-clause-sorted : goal.returns-clause-sorted
returns-clause-sorted c =
    rw c.arranged.ensures (sorted-once c.args.keys.now c.args.bag _ c.in_ok-order.ensures.same_rows (rw c.as_slice.ensures at c.in_ok-order.ensures.ascending))

pub returns-clause-ascending : goal.returns-clause-ascending
returns-clause-ascending c = rw c.arranged.ensures (rw c.as_slice.ensures at c.in_ok-order.ensures.ascending)

pub returns-clause-same_rows : goal.returns-clause-same_rows
returns-clause-same_rows c = rw c.arranged.ensures c.in_ok-order.ensures.same_rows
