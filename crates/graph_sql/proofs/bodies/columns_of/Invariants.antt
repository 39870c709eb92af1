use Rattle.std.proofs.Common.{◌≡◌, drop}
use Rattle.graph_sql.specs.Bodies.{columns_named}
use Rattle.graph_sql.proofs.bodies.columns_of.Given as goal

-- what is left decides
abbrev pub invariant-loop-table : goal.invariant-loop-table
invariant-loop-table l = columns_named l.tables l.name ≡ columns_named (drop l.table-index l.tables) l.name
