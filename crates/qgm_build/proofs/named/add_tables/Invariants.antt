use Rattle.std.proofs.Common.{◌≡◌, ◌++◌, drop, map}
use Rattle.qgm_build.specs.Schema.{named_table}
use Rattle.qgm_build.proofs.named.add_tables.Given as goal

abbrev pub invariant-loop-table : goal.invariant-loop-table
invariant-loop-table l =
    l.out.items ++ map named_table (drop l.table-index l.tables) ≡ l.fn.out.items ++ map named_table l.tables
