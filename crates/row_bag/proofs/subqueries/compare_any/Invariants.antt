use Rattle.std.proofs.Common.{◌≡◌, drop}
use Rattle.row_bag.specs.Subqueries as u
use Rattle.sql_value.specs.Truths.{or}
use Rattle.row_bag.proofs.subqueries.compare_any.Given as goal

abbrev pub invariant-loop-i : goal.invariant-loop-i
invariant-loop-i l = or l.truth (u.compare_any l.op l.x (drop l.i l.rows)) ≡ u.compare_any l.op l.x l.rows
