use Rattle.std.proofs.Common.{◌≡◌, ◌++◌, drop, length, take}
use Rattle.row_bag.proofs.tuples.append_some.Given as goal

abbrev pub invariant-loop-cell : goal.invariant-loop-cell
invariant-loop-cell l = record {
  cells : l.out.items ++ drop l.cell-index l.cells ≡ l.fn.out.items ++ l.cells;
  front : take (length l.fn.out.items) l.out.items ≡ l.fn.out.items;
}
