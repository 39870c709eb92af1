use Rattle.std.proofs.Common.{◌≡◌, ◌++◌, drop}
use Rattle.sql_faults.proofs.column.push_copies.Given as goal

abbrev pub invariant-loop-column : goal.invariant-loop-column
invariant-loop-column l = l.out ++ drop l.column-index l.columns ≡ l.initial.out ++ l.columns
