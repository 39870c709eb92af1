use Rattle.std.proofs.Common.{◌≡◌, drop}
use Rattle.csv_tables.specs.Tables.{has_refused_null}
use Rattle.csv_tables.proofs.table.has_refused_null.Given as goal

abbrev pub invariant-loop-i : goal.invariant-loop-i
invariant-loop-i l = has_refused_null l.columns l.contents ≡ has_refused_null (drop l.i l.columns) (drop l.i l.contents)
