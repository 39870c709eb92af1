use Rattle.std.proofs.Common.{◌≡◌, ◌||◌, ◌++◌, drop, map, filter, List, ℕ}
use Rattle.std.specs.List.{list_any}
use Rattle.sql_ast.specs.Shown as shown
use Rattle.sql_catalog.specs.Catalog as catalog
use Rattle.sql_catalog.proofs.faults.one_is_bad.Given as goal

abbrev pub invariant-loop-key : goal.invariant-loop-key
invariant-loop-key l = list_any (catalog.is_bad_key l.columns) (drop l.key-index l.keys) ≡ list_any (catalog.is_bad_key l.columns) l.keys
