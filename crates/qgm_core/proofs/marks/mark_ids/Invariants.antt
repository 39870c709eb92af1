use Rattle.std.proofs.Common.{◌≡◌, ◌++◌, map, take}
use Rattle.qgm_core.proofs.marks.mark_ids.Given as goal

abbrev pub invariant-loop-range : goal.invariant-loop-range
invariant-loop-range l = l.marks ≡ l.initial.marks ++ map (λ r. r.id) (take l.range-index l.ranges)
