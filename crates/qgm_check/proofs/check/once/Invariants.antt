use Rattle.std.proofs.Common.{◌≡◌, drop}
use Rattle.qgm_wellformed.specs.WellFormed as spec
use Rattle.qgm_check.proofs.check.once.Given as goal

-- what is left decides
abbrev pub invariant-loop-i : goal.invariant-loop-i
invariant-loop-i l = spec.once l.x (drop l.i l.ys) ≡ spec.once l.x l.ys
