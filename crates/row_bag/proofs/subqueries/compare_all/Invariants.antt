use Rattle.std.proofs.Common.{◌≡◌, drop}
use Rattle.row_bag.specs.Subqueries as u
use Rattle.sql_value.specs.Truths.{and}
use Rattle.row_bag.proofs.subqueries.compare_all.Given as goal

abbrev pub invariant-loop-i : goal.invariant-loop-i
invariant-loop-i l = and l.truth (u.compare_all l.op l.x (drop l.i l.rows)) ≡ u.compare_all l.op l.x l.rows
