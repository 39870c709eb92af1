use Rattle.std.proofs.Common.{◌≡◌, drop}
use Rattle.box_exec.specs.HandedOn.{is_wide}
use Rattle.box_exec.proofs.handed_on.is_wide.Given as goal

abbrev pub invariant-loop-i : goal.invariant-loop-i
invariant-loop-i l = is_wide l.width (drop l.i l.rows) ≡ is_wide l.width l.rows
