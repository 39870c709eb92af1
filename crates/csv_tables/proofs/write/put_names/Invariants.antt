use Rattle.std.proofs.Common.{◌≡◌, ◌+◌, ◌++◌, drop, []}
use Rattle.csv.specs.Records.{fields_of, partial_of}
use Rattle.csv_tables.specs.Printed.{header_from}
use Rattle.csv_tables.proofs.write.put_names.Given as goal

abbrev pub invariant-loop-i : goal.invariant-loop-i
invariant-loop-i l = (fields_of l.fields ++ header_from (l.i + 1) (drop l.i l.names) ≡ header_from 1 l.names) × (partial_of l.fields ≡ [])
