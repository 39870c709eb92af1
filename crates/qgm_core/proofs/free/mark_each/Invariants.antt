use Rattle.std.proofs.Common.{◌≡◌, ◌++◌, map, take}
use Rattle.qgm_core.proofs.free.mark_each.Given as goal

abbrev pub invariant-loop-range : goal.invariant-loop-range
invariant-loop-range l = l.marks.items ≡ l.initial.marks.items ++ map (λ r. r.over) (take l.range-index l.ranges)
