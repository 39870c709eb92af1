use Rattle.std.proofs.Common.{◌≡◌, ◌||◌, ◌++◌, drop, map, filter, List, ℕ}
use Rattle.std.specs.List.{list_any}
use Rattle.sql_ast.specs.Shown as shown
use Rattle.sql_ast.specs.Declarations as schema
use Rattle.sql_catalog.proofs.faults.known_names.Given as goal

abbrev pub invariant-loop-view : goal.invariant-loop-view
invariant-loop-view l = l.names ++ schema.view_names (map shown.view (drop l.view-index l.views)) ≡ schema.known_names (schema.declares l.tables (map shown.view l.views))
