use Rattle.std.proofs.Common.{◌≡◌, ◌++◌, take}
use Rattle.qgm_core.proofs.owned.Owned.append.Given as goal

abbrev pub invariant-loop-range : goal.invariant-loop-range
invariant-loop-range l = l.self ≡ l.initial.self ++ take l.range-index l.ranges
