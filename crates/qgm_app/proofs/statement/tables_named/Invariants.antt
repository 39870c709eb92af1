use Rattle.std.proofs.Common.{◌≡◌, map, take}
use Rattle.qgm_app.specs.Stated.{named_table}
use Rattle.qgm_app.proofs.statement.tables_named.Given as goal

abbrev pub invariant-loop-table : goal.invariant-loop-table
invariant-loop-table l = l.names ≡ map named_table (take l.table-index l.tables)
