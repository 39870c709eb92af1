use Rattle.std.proofs.Common.{◌≡◌, ◌+◌, ◌++◌, drop, map}
use Rattle.rule_api.specs.Picks.{picks}
use Rattle.rule_api.specs.Rules.{place_at}
use Rattle.rule_subquery.specs.ScalarToGroup.{may_scalar_to_group}
use Rattle.rule_subquery.proofs.scalar_to_group.ScalarToGroupRule.places.Given as goal

-- what is left adds the rest
abbrev pub invariant-loop-k : goal.invariant-loop-k
invariant-loop-k l = l.out.items ++ map (place_at l.b) (picks (may_scalar_to_group l.graph.boxes l.node) (l.k + 1) (drop l.k l.list)) ≡ map (place_at l.b) (picks (may_scalar_to_group l.graph.boxes l.node) 1 l.list)
