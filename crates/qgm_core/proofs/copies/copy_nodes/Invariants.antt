use Rattle.std.proofs.Common.{◌≡◌, take}
use Rattle.qgm_core.proofs.copies.copy_nodes.Given as goal

abbrev pub invariant-loop-node : goal.invariant-loop-node
invariant-loop-node l = l.all.items ≡ take l.node-index l.nodes
