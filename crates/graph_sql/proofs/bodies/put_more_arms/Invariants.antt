use Rattle.std.proofs.Common.{◌≡◌, ◌++◌, take}
use Rattle.graph_sql.specs.Lists.{more_arms}
use Rattle.graph_sql.proofs.bodies.put_more_arms.Given as goal

abbrev pub invariant-loop-q : goal.invariant-loop-q
invariant-loop-q l = l.out ≡ l.initial.out ++ more_arms l.scope l.operator l.width (take l.q-index l.ids)
