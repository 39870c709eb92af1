use Rattle.std.proofs.Common.{◌+◌, drop}
use Rattle.qgm_terms.specs.Shown.{terms}
use Rattle.box_exec.specs.HandedOn.{InOrder}
use Rattle.box_exec.proofs.handed_on.in_order.Given as goal

abbrev pub invariant-loop-i : goal.invariant-loop-i
invariant-loop-i l = InOrder l.q (l.i + 1) (terms (drop l.i l.list)) → InOrder l.q 1 (terms l.list)
