use Rattle.std.proofs.Common.{◌≡◌, ◌≤◌, ℕ, nat_eq, length, drop}
use Rattle.std.specs.HashMap.{get}
use Rattle.qgm_wellformed.specs.Places as spec
use Rattle.qgm_wellformed.proofs.places.places_of.Given as goal

abbrev pub invariant-loop-i : goal.invariant-loop-i
invariant-loop-i l = record {
  within : l.i ≤ length l.nodes;
  found : (q : ℕ) → get nat_eq l.places q ≡ spec.place_in l.nodes q (drop l.i l.nodes);
}

abbrev pub decreases-loop-i : goal.decreases-loop-i
decreases-loop-i l = l.i
