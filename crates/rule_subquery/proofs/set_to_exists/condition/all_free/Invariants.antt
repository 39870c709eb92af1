use Rattle.std.proofs.Common.{◌≡◌}
use Rattle.rule_subquery.specs.SetToExists.{all_free}
use Rattle.rule_subquery.proofs.set_to_exists.condition.all_free.Given as goal

-- what is left tells all
abbrev pub invariant-loop-left : goal.invariant-loop-left
invariant-loop-left l = all_free l.k.graph.now.boxes l.l l.r l.left ≡ all_free l.k.graph.now.boxes l.l l.r l.w

abbrev pub decreases-loop-left : goal.decreases-loop-left
decreases-loop-left l = l.left
