use Rattle.std.proofs.Common.{◌≡◌, drop}
use Rattle.row_bag.specs.Tables.{bag_named}
use Rattle.row_bag.proofs.tables.Tables.find.Given as goal

abbrev pub invariant-loop-table : goal.invariant-loop-table
invariant-loop-table l = bag_named l.self l.name ≡ bag_named (drop l.table-index l.self) l.name
