use Rattle.std.proofs.Common.{◌≡◌, take}
use Rattle.qgm_core.specs.Boxes as spec
use Rattle.qgm_check.proofs.check.overs_in.Given as goal

abbrev pub invariant-loop-node : goal.invariant-loop-node
invariant-loop-node l = l.overs.items ≡ spec.overs_in (take l.node-index l.nodes)
