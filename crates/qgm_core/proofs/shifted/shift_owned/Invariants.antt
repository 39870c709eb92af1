use Rattle.qgm_core.proofs.Shifts.{Owned}
use Rattle.qgm_core.proofs.shifted.shift_owned.Given as goal

abbrev pub invariant-loop-j : goal.invariant-loop-j
invariant-loop-j l = Owned l.b l.k l.i l.j l.initial.nodes.items l.nodes.items
