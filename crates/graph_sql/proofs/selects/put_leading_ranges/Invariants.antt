use Rattle.std.proofs.Common.{◌≡◌, ◌++◌, take}
use Rattle.graph_sql.specs.Lists.{leading_ranges}
use Rattle.graph_sql.proofs.selects.put_leading_ranges.Given as goal

abbrev pub invariant-loop-q : goal.invariant-loop-q
invariant-loop-q l = l.out ≡ l.initial.out ++ leading_ranges l.scope (take l.q-index l.list)
