use Rattle.std.proofs.Common.{◌≡◌, drop}
use Rattle.sql_faults.specs.Found.{found, joined}
use Rattle.sql_faults.specs.Scopes.{columns_named}
use Rattle.sql_faults.proofs.found.among.Given as goal

abbrev pub invariant-loop-column : goal.invariant-loop-column
invariant-loop-column l = joined l.found (found (columns_named l.name (drop l.column-index l.columns))) ≡ found (columns_named l.name l.columns)
