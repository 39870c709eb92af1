use Rattle.std.proofs.Common.{◌≡◌, length, drop}
use Rattle.qgm_wellformed.specs.Types as spec
use Rattle.qgm_wellformed.proofs.types.same_tables.Given as goal

-- what is left decides
abbrev pub invariant-loop-i : goal.invariant-loop-i
invariant-loop-i l = (length l.a ≡ length l.b) × (spec.same_tables (drop l.i l.a) (drop l.i l.b) ≡ spec.same_tables l.a l.b)
