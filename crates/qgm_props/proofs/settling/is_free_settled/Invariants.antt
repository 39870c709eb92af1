use Rattle.std.proofs.Common.{◌≡◌, drop}
use Rattle.qgm_core.specs.Boxes.{width}
use Rattle.qgm_props.specs.Inferred.{free_by}
use Rattle.qgm_props.specs.SettledFacts.{settled_flags}
use Rattle.qgm_props.specs.Table.{facts_of, flags}
use Rattle.qgm_props.proofs.settling.is_free_settled.Given as goal

-- what is left decides
abbrev pub invariant-loop-k : goal.invariant-loop-k
invariant-loop-k l =
    settled_flags (drop l.k l.old) (drop l.k (flags (width l.node) (free_by l.nodes (facts_of l.table) l.node.parts.kind l.node)))
    ≡ settled_flags l.old (flags (width l.node) (free_by l.nodes (facts_of l.table) l.node.parts.kind l.node))
