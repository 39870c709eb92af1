use Rattle.std.proofs.Common.{◌≡◌, ◌++◌, drop}
use Rattle.row_bag.specs.Hashes.{AreDifferent, hashes_of, tuples_of}
use Rattle.row_bag.specs.Sets.{SameLevels, same_cells}
use Rattle.row_bag.proofs.sets.keep_each.Given as goal

abbrev pub invariant-loop-i : goal.invariant-loop-i
invariant-loop-i l = record {
  index : l.index ≡ hashes_of (tuples_of l.kept);
  levels : SameLevels same_cells (l.kept ++ drop l.i l.rows) (l.fn.kept ++ l.rows);
  once : AreDifferent (tuples_of l.fn.kept) → AreDifferent (tuples_of l.kept);
}
