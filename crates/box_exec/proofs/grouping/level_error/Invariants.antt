use Rattle.std.proofs.Common.{◌≡◌, [], drop}
use Rattle.row_bag.specs.Errors.{error_among, error_in}
use Rattle.sql_value.specs.Cells.{worst_of}
use Rattle.box_exec.proofs.grouping.level_error.Given as goal

abbrev pub invariant-loop-i : goal.invariant-loop-i
invariant-loop-i l = worst_of l.found (error_among (λ cells. error_in []) (drop l.i l.rows)) ≡ error_among (λ cells. error_in []) l.rows
