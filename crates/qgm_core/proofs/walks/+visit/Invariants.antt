use Rattle.std.proofs.Common.{◌≡◌, ◌+◌, ◌-◌, drop, length, map}
use Rattle.list_laws.specs.Lists.{each}
use Rattle.qgm_core.specs.Walk as spec
use Rattle.qgm_core.proofs.walks.+visit.Given as goal

-- what is left is visited from what was seen
abbrev pub invariant-loop-range : goal.invariant-loop-range
invariant-loop-range l = each (spec.visit (drop (l.i + 1) l.nodes)) (map (λ r. r.over) (drop l.range-index l.range-items)) l.seen ≡ spec.visit (drop l.from l.nodes) l.b l.fn.seen

abbrev pub decreases-visit : goal.decreases-visit
decreases-visit l = length l.nodes.now - l.from
