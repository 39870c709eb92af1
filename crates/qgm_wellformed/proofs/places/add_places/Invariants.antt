use Rattle.std.proofs.Common.{◌≡◌, ◌≤◌, ℕ, nat_eq, length, drop}
use Rattle.std.specs.HashMap.{get}
use Rattle.qgm_wellformed.specs.Places as spec
use Rattle.qgm_wellformed.proofs.places.add_places.Given as goal

abbrev pub invariant-loop-i : goal.invariant-loop-i
invariant-loop-i l = record {
  within : l.i ≤ length l.ranges;
  added : (q : ℕ) → get nat_eq l.places q ≡ spec.place_or l.nodes q (drop l.i l.ranges) (get nat_eq l.initial.places q);
}

abbrev pub decreases-loop-i : goal.decreases-loop-i
decreases-loop-i l = l.i
