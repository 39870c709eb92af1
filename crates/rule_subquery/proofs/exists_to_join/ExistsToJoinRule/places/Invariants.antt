use Rattle.std.proofs.Common.{◌≡◌, ◌+◌, ◌++◌, drop, map}
use Rattle.rule_api.specs.Picks.{picks}
use Rattle.rule_api.specs.Rules.{place_at}
use Rattle.rule_subquery.specs.ExistsToJoin.{may_exists_to_join}
use Rattle.rule_subquery.proofs.exists_to_join.ExistsToJoinRule.places.Given as goal

-- what is left adds the rest
abbrev pub invariant-loop-k : goal.invariant-loop-k
invariant-loop-k l = l.out.items ++ map (place_at l.b) (picks (may_exists_to_join l.graph.boxes l.node) (l.k + 1) (drop l.k l.list)) ≡ map (place_at l.b) (picks (may_exists_to_join l.graph.boxes l.node) 1 l.list)
