use Rattle.std.proofs.Common.{◌≡◌, ◌++◌, drop, map}
use Rattle.sql_names.specs.Known.{table_range}
use Rattle.sql_names.specs.Shapes.{shape}
use Rattle.sql_names.proofs.views.table_ranges.Given as goal

abbrev pub invariant-loop-table : goal.invariant-loop-table
invariant-loop-table l = shape l.out.items ++ map table_range (drop l.table-index l.tables) ≡ map table_range l.tables
