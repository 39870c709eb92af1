use Rattle.std.proofs.Common.{◌≡◌, ◌+◌}
use Rattle.box_exec.proofs.execution.tick_all.Given as goal

abbrev pub invariant-loop-i : goal.invariant-loop-i
invariant-loop-i g l = l.taken ≡ l.initial.taken + l.i
