use Rattle.std.proofs.Common.{◌≡◌, map, take}
use Rattle.qgm_wellformed.specs.Types as spec
use Rattle.qgm_wellformed.proofs.types.typed_all.Given as goal

abbrev pub invariant-loop-node : goal.invariant-loop-node
invariant-loop-node l = l.all.items ≡ map (spec.typed_by (spec.type_at l.table l.places)) (take l.node-index l.nodes)
