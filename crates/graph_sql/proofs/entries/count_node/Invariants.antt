use Rattle.std.proofs.Common.{◌≡◌, ◌++◌, map, take}
use Rattle.graph_sql.proofs.entries.count_node.Given as goal

abbrev pub invariant-loop-r : goal.invariant-loop-r
invariant-loop-r l = l.counts ≡ l.initial.counts ++ map (λ r. r.over) (take l.r-index l.r-items)
