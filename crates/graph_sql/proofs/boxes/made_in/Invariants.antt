use Rattle.std.proofs.Common.{ℕ, ◌≡◌, ◌≤◌, drop, length}
use Rattle.graph_sql.specs.Settings.{made_at, setting_in}
use Rattle.graph_sql.specs.StatementText.{made_in}
use Rattle.graph_sql.proofs.boxes.made_in.Given as goal

abbrev pub invariant-loop-i : goal.invariant-loop-i
invariant-loop-i l = record {
  within : l.i ≤ length l.nodes;
  made : (b : ℕ) → made_at l.made b ≡ made_in (setting_in l.sheet) (drop l.i l.nodes) b;
}

abbrev pub decreases-loop-i : goal.decreases-loop-i
decreases-loop-i l = l.i
