use Rattle.std.proofs.Common.{◌≡◌, ◌++◌, false, drop}
use Rattle.qgm_wellformed.specs.View as spec
use Rattle.qgm_check.proofs.view.add_scoped.Given as goal

-- what is left adds the rest
abbrev pub invariant-loop-range : goal.invariant-loop-range
invariant-loop-range l =
    l.marks ++ spec.scoped l.q l.own l.met (drop l.range-index l.ranges) ≡ l.initial.marks ++ spec.scoped l.q l.own false l.ranges
