use Rattle.std.proofs.Common.{◌≡◌}
use Rattle.csv_tables.specs.Tables.{cells_of}
use Rattle.csv_tables.proofs.table.cells.Given as goal

abbrev pub invariant-loop-content : goal.invariant-loop-content
invariant-loop-content l = l.cells.items ≡ cells_of l.yielded
