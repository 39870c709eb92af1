use Rattle.std.proofs.Common.{◌≡◌, drop}
use Rattle.qgm_wellformed.specs.Types as spec
use Rattle.qgm_wellformed.proofs.types.all_read_behind.Given as goal

-- what is left decides
abbrev pub invariant-loop-i : goal.invariant-loop-i
invariant-loop-i l = spec.all_read_behind l.places l.i (drop l.i l.nodes) ≡ spec.all_read_behind l.places 0 l.nodes
