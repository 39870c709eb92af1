use Rattle.std.proofs.Common.{◌≡◌, ◌≤◌, replicate}
use Rattle.sql_value.specs.declared.cell.Cell.TheVariants.{Null}
use Rattle.row_bag.proofs.joins.nulls.Given as goal

abbrev pub invariant-loop-i : goal.invariant-loop-i
invariant-loop-i l = (l.cells.items ≡ replicate l._i Null) × (l._i ≤ l.width)
