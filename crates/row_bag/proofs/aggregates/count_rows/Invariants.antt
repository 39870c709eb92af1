use Rattle.std.proofs.Common.{◌≡◌, ◌≤◌, ◌+◌, drop}
use Rattle.row_bag.specs.Joins.{how_many}
use Rattle.row_bag.proofs.aggregates.count_rows.Given as goal

abbrev pub invariant-loop-i : goal.invariant-loop-i
invariant-loop-i l = (l.count + how_many (drop l.i l.rows) ≡ how_many l.rows) × (l.count ≤ l.i)
