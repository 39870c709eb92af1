use Rattle.std.proofs.Common.{◌≡◌, ◌++◌, drop}
use Rattle.csv.specs.Records.{fields_of}
use Rattle.csv_tables.specs.Tables.{contents_of}
use Rattle.csv_tables.proofs.table.contents.Given as goal

abbrev pub invariant-loop-i : goal.invariant-loop-i
invariant-loop-i l = contents_of l.columns (fields_of l.fields) ≡ l.contents.items ++ contents_of (drop l.i l.columns) (drop l.i (fields_of l.fields))
