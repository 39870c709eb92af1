use Rattle.std.proofs.Common.{◌≡◌, ◌≤◌, ◌<◌, ℕ, length, true, false}
use Rattle.qgm_props.specs.Table.{Improves, StableAt, unknown_in}
use Rattle.qgm_props.proofs.infer.improve_each.Given as goal

-- those from i on don't improve, or one did
abbrev pub invariant-loop-i : goal.invariant-loop-i
invariant-loop-i l = record {
  within : l.i ≤ length l.nodes;
  improves : Improves l.nodes l.table;
  stable : l.better ≡ false → (l.table ≡ l.initial.table) × ((j : ℕ) → l.i ≤ j → StableAt l.nodes l.table j);
  less : l.better ≡ true → unknown_in l.table < unknown_in l.initial.table;
}

abbrev pub decreases-loop-i : goal.decreases-loop-i
decreases-loop-i l = l.i
