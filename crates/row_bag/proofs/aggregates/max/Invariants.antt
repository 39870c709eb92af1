use Rattle.std.proofs.Common.{◌≡◌, ◌≤◌, drop, length}
use Rattle.row_bag.specs.Bags.{total}
use Rattle.row_bag.specs.Aggregates.{greater_cell}
use Rattle.sql_value.specs.declared.cell.Cell.TheVariants.{Null}
use Rattle.row_bag.proofs.aggregates.max.Given as goal

abbrev pub invariant-loop-i : goal.invariant-loop-i
invariant-loop-i l = (l.i ≤ length l.rows) × (l.greatest ≡ total greater_cell Null (λ c level. c) (drop l.i l.rows))

abbrev pub decreases-loop-i : goal.decreases-loop-i
decreases-loop-i l = l.i
