use Rattle.std.proofs.Common.{◌≡◌, ◌++◌}
use Rattle.qgm_props.specs.InferredKeys.{places_to}
use Rattle.rule_subquery.proofs.exists_to_join.condition.places_to.Given as goal

-- what is left adds the rest
abbrev pub invariant-loop-left : goal.invariant-loop-left
invariant-loop-left l = l.out.items ++ places_to l.left ≡ places_to l.w

abbrev pub decreases-loop-left : goal.decreases-loop-left
decreases-loop-left l = l.left
