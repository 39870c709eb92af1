use Rattle.std.proofs.Common.{ℕ, ◌≡◌, ◌≤◌, drop, length, nat_eq}
use Rattle.std.specs.HashMap.{get}
use Rattle.graph_sql.specs.Settings.{over_or}
use Rattle.list_laws.specs.Lists.{first}
use Rattle.qgm_core.specs.Boxes.{is_quant}
use Rattle.graph_sql.proofs.overs.add_overs.Given as goal

abbrev pub invariant-loop-i : goal.invariant-loop-i
invariant-loop-i l = record {
  within : l.i ≤ length l.ranges;
  found : (q : ℕ) → get nat_eq l.overs q ≡ over_or (first (is_quant q) (drop l.i l.ranges)) (get nat_eq l.initial.overs q);
}

abbrev pub decreases-loop-i : goal.decreases-loop-i
decreases-loop-i l = l.i
