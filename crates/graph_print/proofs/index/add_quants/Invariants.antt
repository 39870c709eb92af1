use Rattle.std.proofs.Common.{◌≡◌, ◌++◌, map, take}
use Rattle.graph_print.proofs.index.add_quants.Given as goal

abbrev pub invariant-loop-range : goal.invariant-loop-range
invariant-loop-range l = l.places ≡ l.initial.places ++ map (λ r. r.id) (take l.range-index l.range-items)
