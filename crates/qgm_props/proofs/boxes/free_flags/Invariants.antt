use Rattle.std.proofs.Common.{◌≡◌}
use Rattle.qgm_props.specs.Inferred.{free_by}
use Rattle.qgm_props.specs.Table.{facts_of, flags}
use Rattle.qgm_props.proofs.boxes.free_flags.Given as goal

abbrev pub invariant-loop-k : goal.invariant-loop-k
invariant-loop-k l = l.all ≡ flags l.k (free_by l.nodes (facts_of l.table) l.node.parts.kind l.node)
