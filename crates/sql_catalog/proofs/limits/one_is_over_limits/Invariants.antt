use Rattle.std.proofs.Common.{◌≡◌, ◌||◌, ◌++◌, drop, map, filter, List, ℕ}
use Rattle.std.specs.List.{list_any}
use Rattle.sql_catalog.specs.Catalog.{is_over_limits}
use Rattle.sql_catalog.proofs.limits.one_is_over_limits.Given as goal

abbrev pub invariant-loop-table : goal.invariant-loop-table
invariant-loop-table l = list_any is_over_limits (drop l.table-index l.tables) ≡ list_any is_over_limits l.tables
