use Rattle.std.proofs.Common.{◌≡◌, None, replicate}
use Rattle.qgm_core.proofs.slots.no_lists.Given as goal

abbrev pub invariant-loop-slot : goal.invariant-loop-slot
invariant-loop-slot l = l.all.items ≡ replicate l._slot None
