use Rattle.std.proofs.Common.{◌≡◌, ◌||◌, ◌++◌, drop, map, filter, List, ℕ}
use Rattle.std.specs.List.{list_any}
use Rattle.sql_ast.specs.Shown as shown
use Rattle.sql_catalog.specs.Catalog as catalog
use Rattle.sql_catalog.proofs.faults.one_has_bad_key.Given as goal

abbrev pub invariant-loop-table : goal.invariant-loop-table
invariant-loop-table l = list_any catalog.has_bad_key (drop l.table-index l.tables) ≡ list_any catalog.has_bad_key l.tables
