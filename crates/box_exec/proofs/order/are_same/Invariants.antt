use Rattle.std.proofs.Common.{◌≡◌, take}
use Rattle.box_exec.proofs.order.are_same.Given as goal

abbrev pub invariant-loop-i : goal.invariant-loop-i
invariant-loop-i l = take l.i l.ranges ≡ take l.i l.others
