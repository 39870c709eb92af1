use Rattle.std.proofs.Common.{◌≡◌, ◌+◌, map, take}
use Rattle.qgm_core.specs.Boxes.{overs_in}
use Rattle.list_laws.specs.Lists.{times}
use Rattle.qgm_core.proofs.uses.uses_in.Given as goal

abbrev pub invariant-loop-node : goal.invariant-loop-node
invariant-loop-node l = l.total ≡ times l.b (overs_in (take l.node-index l.nodes))

abbrev pub invariant-loop-range : goal.invariant-loop-range
invariant-loop-range l = l.total ≡ l.initial.total + times l.b (map (λ r. r.over) (take l.range-index l.range-items))
