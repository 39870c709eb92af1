use Rattle.std.proofs.Common.{◌≡◌, drop}
use Rattle.sql_value.specs.Cells.{error_of, worst_of}
use Rattle.row_bag.specs.Errors.{error_among}
use Rattle.row_bag.proofs.aggregates.error_among_cells.Given as goal

abbrev pub invariant-loop-row : goal.invariant-loop-row
invariant-loop-row l = worst_of l.found (error_among error_of (drop l.row-index l.rows)) ≡ error_among error_of l.rows
