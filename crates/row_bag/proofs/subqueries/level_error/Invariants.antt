use Rattle.std.proofs.Common.{◌≡◌, drop}
use Rattle.row_bag.specs.Subqueries as u
use Rattle.sql_value.specs.Cells.{worst_of}
use Rattle.row_bag.proofs.subqueries.level_error.Given as goal

abbrev pub invariant-loop-i : goal.invariant-loop-i
invariant-loop-i l = worst_of l.found (u.level_error (drop l.i l.rows)) ≡ u.level_error (drop l.start l.rows)
