use Rattle.std.proofs.Common.{◌≡◌, ◌+◌, drop}
use Rattle.qgm_wellformed.specs.Places as spec
use Rattle.qgm_wellformed.proofs.places.rank_in.Given as goal

-- it stands among what is left
abbrev pub invariant-loop-i : goal.invariant-loop-i
invariant-loop-i l = l.i + spec.rank_in l.b (drop l.i l.nodes) ≡ spec.rank_in l.b l.nodes
