use Rattle.std.proofs.Common.{◌≡◌, ◌≤◌, ◌+◌, drop}
use Rattle.row_bag.specs.Joins.{how_many}
use Rattle.row_bag.proofs.aggregates.how_many.Given as goal

abbrev pub invariant-loop-row : goal.invariant-loop-row
invariant-loop-row g l = (l.count + how_many (drop l.row-index l.rows) ≡ how_many l.rows) × (l.count ≤ l.row-index)
