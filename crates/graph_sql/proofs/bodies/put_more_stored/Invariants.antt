use Rattle.std.proofs.Common.{◌≡◌, ◌++◌, drop}
use Rattle.graph_sql.specs.Lists.{more_stored}
use Rattle.graph_sql.proofs.bodies.put_more_stored.Given as goal

-- what is left adds the rest
abbrev pub invariant-loop-i : goal.invariant-loop-i
invariant-loop-i l = l.out ++ more_stored (drop l.i l.names) (drop l.i l.types) ≡ l.initial.out ++ more_stored l.names l.types
