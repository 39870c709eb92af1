use Rattle.std.proofs.Common.{ℕ, ◌≡◌, ◌≤◌, drop, length, nat_eq}
use Rattle.std.specs.HashMap.{get}
use Rattle.graph_sql.specs.Settings.{over_of}
use Rattle.graph_sql.proofs.overs.overs_of.Given as goal

abbrev pub invariant-loop-i : goal.invariant-loop-i
invariant-loop-i l = record {
  within : l.i ≤ length l.nodes;
  found : (q : ℕ) → get nat_eq l.overs q ≡ over_of (drop l.i l.nodes) q;
}

abbrev pub decreases-loop-i : goal.decreases-loop-i
decreases-loop-i l = l.i
