use Rattle.std.proofs.Common.{◌≡◌, drop}
use Rattle.std.specs.List.{list_all}
use Rattle.qgm_props.specs.Calm as spec
use Rattle.qgm_props.specs.Table.{facts_of}
use Rattle.qgm_props.proofs.calm.is_calm.Given as goal

-- what is left decides
abbrev pub invariant-loop-node : goal.invariant-loop-node
invariant-loop-node l =
    spec.calm l.graph.boxes (facts_of l.props) l.graph.root ≡ list_all (spec.calm_box l.graph.boxes (facts_of l.props) l.graph.root) (drop l.node-index l.node-items)
