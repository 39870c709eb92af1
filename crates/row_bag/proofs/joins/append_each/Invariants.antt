use Rattle.std.proofs.Common.{drop, ◌≡◌, ◌++◌}
use Rattle.row_bag.specs.Bags.{keep}
use Rattle.row_bag.proofs.joins.append_each.Given as goal

abbrev pub invariant-loop-i : goal.invariant-loop-i
invariant-loop-i l = l.out ++ keep l.level (drop l.i l.rows) ≡ l.fn.out ++ keep l.level l.rows
