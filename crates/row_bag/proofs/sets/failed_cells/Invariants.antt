use Rattle.std.proofs.Common.{◌≡◌, ◌≤◌}
use Rattle.row_bag.specs.Sets.{failed_cells}
use Rattle.row_bag.proofs.sets.failed_cells.Given as goal

abbrev pub invariant-loop : goal.invariant-loop
invariant-loop l = (l.cells ≡ failed_cells l.counter l.kind) × (l.counter ≤ l.columns)
