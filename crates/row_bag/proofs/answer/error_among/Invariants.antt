use Rattle.std.proofs.Common.{◌≡◌, None, drop}
use Rattle.sql_value.specs.Cells.{worst_of}
use Rattle.row_bag.specs.Bags.{fold_map}
use Rattle.row_bag.specs.Verdict.{error_of_row}
use Rattle.row_bag.proofs.answer.error_among.Given as goal

abbrev pub invariant-loop-i : goal.invariant-loop-i
invariant-loop-i l = worst_of l.found (fold_map worst_of None error_of_row (drop l.i l.rows)) ≡ fold_map worst_of None error_of_row l.rows
