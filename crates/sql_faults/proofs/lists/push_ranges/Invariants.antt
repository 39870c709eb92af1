use Rattle.std.proofs.Common.{◌≡◌, ◌++◌, drop}
use Rattle.sql_faults.specs.Columns.{all_columns}
use Rattle.sql_faults.proofs.lists.push_ranges.Given as goal

abbrev pub invariant-loop-range : goal.invariant-loop-range
invariant-loop-range l = l.out ++ all_columns (drop l.range-index l.ranges) ≡ l.initial.out ++ all_columns l.ranges
