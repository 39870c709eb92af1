use Rattle.std.proofs.Common.{◌≡◌, ◌++◌, map, take}
use Rattle.qgm_core.proofs.marks.mark_overs.Given as goal

abbrev pub invariant-loop-range : goal.invariant-loop-range
invariant-loop-range l = l.marks ≡ l.initial.marks ++ map (λ r. r.over) (take l.range-index l.ranges)
