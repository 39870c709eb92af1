use Rattle.std.proofs.Common.{◌≡◌, drop}
use Rattle.row_bag.specs.Subqueries as u
use Rattle.sql_value.specs.Truths.{or}
use Rattle.row_bag.proofs.subqueries.exists.Given as goal

abbrev pub invariant-loop-i : goal.invariant-loop-i
invariant-loop-i l = or l.truth (u.exists (drop l.i l.rows)) ≡ u.exists l.rows
