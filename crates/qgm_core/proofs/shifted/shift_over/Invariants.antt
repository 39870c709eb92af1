use Rattle.qgm_core.proofs.Shifts.{Over}
use Rattle.qgm_core.proofs.shifted.shift_over.Given as goal

abbrev pub invariant-loop-i : goal.invariant-loop-i
invariant-loop-i l = Over l.b l.k l.i l.initial.nodes.items l.nodes.items
