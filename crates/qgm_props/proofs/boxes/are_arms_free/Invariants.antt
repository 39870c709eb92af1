use Rattle.std.proofs.Common.{◌≡◌}
use Rattle.qgm_props.specs.Inferred.{arms_error_free}
use Rattle.qgm_props.specs.Table.{facts_of}
use Rattle.qgm_props.proofs.boxes.are_arms_free.Given as goal

-- what is left decides
abbrev pub invariant-loop-k : goal.invariant-loop-k
invariant-loop-k l = arms_error_free l.nodes (facts_of l.table) l.width l.ranges ≡ arms_error_free l.nodes (facts_of l.table) l.k l.ranges

abbrev pub decreases-loop-k : goal.decreases-loop-k
decreases-loop-k l = l.k
