use Rattle.std.proofs.Common.{◌≡◌, ◌≤◌, [], length, drop}
use Rattle.qgm_core.specs.Boxes.{ids_in}
use Rattle.qgm_core.specs.Made.{on_top}
use Rattle.graph_cases.proofs.made.ids_of.Given as goal

abbrev pub invariant-loop-i : goal.invariant-loop-i
invariant-loop-i l = record {
  within : l.i ≤ length l.made;
  done : l.ids.items ≡ ids_in (on_top l.i (drop l.i l.made) []);
}

abbrev pub decreases-loop-i : goal.decreases-loop-i
decreases-loop-i l = l.i
