use Rattle.std.proofs.Common.{◌≡◌, take}
use Rattle.qgm_wellformed.specs.Types as spec
use Rattle.qgm_wellformed.proofs.types.known.Given as goal

abbrev pub invariant-loop-column : goal.invariant-loop-column
invariant-loop-column l = l.all ≡ spec.known (take l.column-index l.types)
