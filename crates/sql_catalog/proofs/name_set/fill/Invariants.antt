use Rattle.std.proofs.Common.{◌≡◌, ◌||◌, ◌++◌, drop, map, List, ℕ}
use Rattle.std.specs.List.{list_any}
use Rattle.sql_ast.specs.Names.{contains, has_twins}
use Rattle.sql_catalog.proofs.name_set.fill.Given as goal

abbrev pub invariant-loop-name : goal.invariant-loop-name
invariant-loop-name l = (m : List ℕ) → (contains l.set m || contains (drop l.name-index l.names) m) ≡ contains l.names m
