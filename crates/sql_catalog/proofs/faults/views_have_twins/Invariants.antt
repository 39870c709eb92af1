use Rattle.std.proofs.Common.{◌≡◌, ◌||◌, ◌++◌, drop, map, filter, List, ℕ}
use Rattle.std.specs.List.{list_any}
use Rattle.sql_ast.specs.Shown as shown
use Rattle.sql_catalog.specs.Catalog as catalog
use Rattle.sql_catalog.proofs.faults.views_have_twins.Given as goal

abbrev pub invariant-loop-view : goal.invariant-loop-view
invariant-loop-view l = catalog.has_twin_list (map shown.view (drop l.view-index l.views)) ≡ catalog.has_twin_list (map shown.view l.views)
