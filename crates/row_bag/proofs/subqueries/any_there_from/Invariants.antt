use Rattle.std.proofs.Common.{◌≡◌, drop}
use Rattle.std.specs.List.{list_any}
use Rattle.row_bag.specs.Verdict.{is_there}
use Rattle.row_bag.proofs.subqueries.any_there_from.Given as goal

abbrev pub invariant-loop-i : goal.invariant-loop-i
invariant-loop-i l = list_any is_there (drop l.i l.rows) ≡ list_any is_there (drop l.start l.rows)
