use Rattle.std.proofs.Common.{◌≡◌, ◌++◌, drop}
use Rattle.sql_faults.specs.Columns.{listed}
use Rattle.sql_faults.proofs.column.listed.Given as goal

abbrev pub invariant-loop-column : goal.invariant-loop-column
invariant-loop-column l = l.out ++ listed l.rest (drop l.column-index l.columns) ≡ listed l.names l.columns
