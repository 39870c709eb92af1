use Rattle.std.proofs.Common.{◌≡◌, ◌||◌, ◌++◌, drop, map, filter, List, ℕ}
use Rattle.std.specs.List.{list_any}
use Rattle.sql_ast.specs.Shown as shown
use Rattle.sql_ast.specs.Declarations as schema
use Rattle.sql_catalog.proofs.faults.table_names.Given as goal

abbrev pub invariant-loop-table : goal.invariant-loop-table
invariant-loop-table l = l.names ++ schema.table_names (drop l.table-index l.tables) ≡ schema.table_names l.tables
