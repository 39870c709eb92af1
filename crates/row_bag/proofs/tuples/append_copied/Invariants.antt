use Rattle.std.proofs.Common.{◌≡◌, ◌++◌, drop}
use Rattle.row_bag.proofs.tuples.append_copied.Given as goal

abbrev pub invariant-loop-i : goal.invariant-loop-i
invariant-loop-i l = l.out ++ drop l.i l.rows ≡ l.fn.out ++ l.rows
