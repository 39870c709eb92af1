use Rattle.std.proofs.Common.{◌≡◌, [], ◌∷◌, drop}
use Rattle.qgm_core.specs.Free as spec
use Rattle.qgm_core.proofs.free.reached.Given as goal

-- what is left marks the rest
abbrev pub invariant-loop-node : goal.invariant-loop-node
invariant-loop-node l = spec.reached l.marks (drop l.node-index l.nodes) ≡ spec.reached (l.b ∷ []) l.nodes
