use Rattle.std.proofs.Common.{ℕ, ◌<◌, get_or}
use Rattle.qgm_core.proofs.free.place_for.Given as goal

abbrev pub invariant-loop-i : goal.invariant-loop-i
invariant-loop-i l = (k : ℕ) → k < l.i → get_or l.out k 0 < l.q
