use Rattle.std.proofs.Common.{◌≡◌, take}
use Rattle.std.specs.List.{flat_map}
use Rattle.qgm_core.specs.Free as spec
use Rattle.qgm_core.proofs.free.owned_by.Given as goal

abbrev pub invariant-loop-node : goal.invariant-loop-node
invariant-loop-node l = l.owned ≡ flat_map (spec.owned_where l.marks) (take l.node-index l.nodes)
