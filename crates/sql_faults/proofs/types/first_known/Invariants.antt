use Rattle.std.proofs.Common.{◌≡◌, drop}
use Rattle.sql_faults.specs.Columns.{first_known}
use Rattle.sql_faults.proofs.types.first_known.Given as goal

abbrev pub invariant-loop-sort : goal.invariant-loop-sort
invariant-loop-sort l = first_known (drop l.sort-index l.sorts) ≡ first_known l.sorts
