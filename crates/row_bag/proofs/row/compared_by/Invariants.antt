use Rattle.std.proofs.Common.{◌≡◌, drop}
use Rattle.row_bag.specs.Order.{compare_by}
use Rattle.row_bag.specs.RowRefs.{lent}
use Rattle.row_bag.proofs.row.compared_by.Given as goal

abbrev pub invariant-loop-key : goal.invariant-loop-key
invariant-loop-key l = compare_by (drop l.key-index l.keys) (lent l.a) (lent l.b) ≡ compare_by l.keys (lent l.a) (lent l.b)
