use Rattle.std.proofs.Common.{◌≡◌, ◌≤◌, length}
use Rattle.qgm_wellformed.proofs.types.types_upward.Given as goal

abbrev pub invariant-loop-i : goal.invariant-loop-i
invariant-loop-i l = record {
  within : l.i ≤ length l.nodes;
  wide : length l.rows.items ≡ length l.nodes;
}

abbrev pub decreases-loop-i : goal.decreases-loop-i
decreases-loop-i l = l.i
