use Rattle.std.proofs.Common.{◌≡◌, take}
use Rattle.qgm_core.specs.Boxes as spec
use Rattle.qgm_check.proofs.check.ids_in.Given as goal

abbrev pub invariant-loop-node : goal.invariant-loop-node
invariant-loop-node l = l.ids.items ≡ spec.ids_in (take l.node-index l.nodes)
