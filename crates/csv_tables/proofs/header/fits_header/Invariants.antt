use Rattle.std.proofs.Common.{◌≡◌, drop}
use Rattle.std.specs.Cmp.Lexicographic.{pointwise}
use Rattle.csv.specs.Records.{fields_of}
use Rattle.csv_tables.specs.Tables.{fits_column}
use Rattle.csv_tables.proofs.header.fits_header.Given as goal

abbrev pub invariant-loop-i : goal.invariant-loop-i
invariant-loop-i l = pointwise fits_column l.columns (fields_of l.fields) ≡ pointwise fits_column (drop l.i l.columns) (drop l.i (fields_of l.fields))
