use Rattle.std.proofs.Common.{◌≡◌, take}
use Rattle.qgm_core.specs.Boxes.{numbers}
use Rattle.qgm_core.proofs.box_places.Places.of.Given as goal

abbrev pub invariant-loop-node : goal.invariant-loop-node
invariant-loop-node l = l.places ≡ numbers (take l.node-index l.nodes)
