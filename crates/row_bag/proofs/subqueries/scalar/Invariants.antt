use Rattle.std.proofs.Common.{◌≡◌, drop}
use Rattle.row_bag.specs.Subqueries.{scalar}
use Rattle.row_bag.proofs.subqueries.scalar.Given as goal

abbrev pub invariant-loop-i : goal.invariant-loop-i
invariant-loop-i l = scalar (drop l.i l.rows) ≡ scalar l.rows
