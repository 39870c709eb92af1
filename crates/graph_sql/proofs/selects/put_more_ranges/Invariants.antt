use Rattle.std.proofs.Common.{◌≡◌, ◌++◌, take}
use Rattle.graph_sql.specs.Lists.{more_ranges}
use Rattle.graph_sql.proofs.selects.put_more_ranges.Given as goal

abbrev pub invariant-loop-q : goal.invariant-loop-q
invariant-loop-q l = l.out ≡ l.initial.out ++ more_ranges l.scope l.word (take l.q-index l.list)
