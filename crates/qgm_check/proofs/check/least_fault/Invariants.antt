use Rattle.std.proofs.Common.{◌≡◌, ◌≤◌, length, drop}
use Rattle.qgm_wellformed.specs.WellFormed as spec
use Rattle.qgm_check.proofs.check.least_fault.Given as goal

abbrev pub invariant-loop-i : goal.invariant-loop-i
invariant-loop-i l = record {
  within : l.i ≤ length l.nodes;
  found : l.best ≡ spec.least (spec.faults l.clause l.root l.nodes (drop l.i l.nodes));
}

abbrev pub decreases-loop-i : goal.decreases-loop-i
decreases-loop-i l = l.i
