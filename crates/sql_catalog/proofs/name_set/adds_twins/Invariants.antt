use Rattle.std.proofs.Common.{◌≡◌, ◌||◌, ◌++◌, drop, map, List, ℕ}
use Rattle.std.specs.List.{list_any}
use Rattle.sql_ast.specs.Names.{contains, has_twins}
use Rattle.sql_catalog.proofs.name_set.adds_twins.Given as goal

abbrev pub invariant-loop-name : goal.invariant-loop-name
invariant-loop-name l = (list_any (contains l.seen) (drop l.name-index l.names) || has_twins (drop l.name-index l.names)) ≡ has_twins l.names
