use Rattle.std.proofs.Common.{◌≡◌}
use Rattle.qgm_wellformed.specs.Types as spec
use Rattle.qgm_wellformed.proofs.types.types_in_rounds.Given as goal

abbrev pub invariant-loop-round : goal.invariant-loop-round
invariant-loop-round l = l.table.items ≡ spec.types_after l._round l.nodes
