use Rattle.std.proofs.Common.{◌≡◌, [], drop}
use Rattle.qgm_wellformed.specs.View as spec
use Rattle.qgm_check.proofs.view.viewers.Given as goal

-- what is left marks the rest
abbrev pub invariant-loop-node : goal.invariant-loop-node
invariant-loop-node l = spec.viewers l.q l.marks (drop l.node-index l.nodes) ≡ spec.viewers l.q [] l.nodes
