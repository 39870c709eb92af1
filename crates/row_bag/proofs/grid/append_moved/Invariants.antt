use Rattle.std.proofs.Common.{◌≡◌, ◌≤◌, ◌+◌, ◌++◌, drop, length, reverse, take, vec_capacity}
use Rattle.row_bag.proofs.grid.append_moved.Given as goal

abbrev pub invariant-loop-cell : goal.invariant-loop-cell
invariant-loop-cell l = record {
  cells : take l.start l.cells.items ≡ l.fn.cells.items;
  moved : l.tuple ++ reverse (drop l.start l.cells.items) ≡ l.fn.tuple;
  room : length l.cells.items + length l.tuple ≤ vec_capacity l.cells;
  start : l.start ≡ length l.fn.cells.items;
}

abbrev pub decreases-loop-cell : goal.decreases-loop-cell
decreases-loop-cell l = length l.tuple
