use Rattle.std.proofs.Common.{◌≡◌, ◌++◌, map, take}
use Rattle.qgm_core.specs.Boxes.{overs_in}
use Rattle.qgm_core.proofs.counts.uses_of.Given as goal

abbrev pub invariant-loop-node : goal.invariant-loop-node
invariant-loop-node l = l.counts ≡ overs_in (take l.node-index l.nodes)

abbrev pub invariant-loop-range : goal.invariant-loop-range
invariant-loop-range l = l.counts ≡ l.initial.counts ++ map (λ r. r.over) (take l.range-index l.range-items)
