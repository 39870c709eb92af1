use Rattle.std.proofs.Common.{◌≡◌, ◌+◌, ◌++◌, drop, map}
use Rattle.rule_api.specs.Picks.{picks}
use Rattle.rule_api.specs.Rules.{place_at}
use Rattle.rule_prune.specs.DropQuantifier.{may_drop_quantifier}
use Rattle.rule_prune.proofs.drop_quantifier.DropQuantifierRule.places.Given as goal

-- what is left adds the rest
abbrev pub invariant-loop-k : goal.invariant-loop-k
invariant-loop-k l = l.out.items ++ map (place_at l.b) (picks (may_drop_quantifier l.graph l.node) (l.k + 1) (drop l.k l.list)) ≡ map (place_at l.b) (picks (may_drop_quantifier l.graph l.node) 1 l.list)
