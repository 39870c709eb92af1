use Rattle.std.proofs.Common.{◌≡◌, drop}
use Rattle.std.specs.List.{list_all}
use Rattle.qgm_wellformed.specs.Closed as spec
use Rattle.qgm_wellformed.proofs.closed.all_names_owned.Given as goal

-- what is left decides
abbrev pub invariant-loop-node : goal.invariant-loop-node
invariant-loop-node l = list_all (spec.names_owned l.marks l.owned) (drop l.node-index l.nodes) ≡ list_all (spec.names_owned l.marks l.owned) l.nodes
