use Rattle.std.proofs.Common.{◌≡◌, ◌+◌, ◌++◌, drop, map}
use Rattle.std.specs.Prelude.{IfSome}
use Rattle.rule_api.specs.Picks.{picks}
use Rattle.rule_api.specs.Rules.{place_at}
use Rattle.rule_merge.specs.MergeSelect.{may_at}
use Rattle.rule_merge.specs.MergeSelectCopies.{names_in}
use Rattle.rule_merge.proofs.merge_select.MergeSelectRule.places.Given as goal

-- what is left adds the rest, and names that are listed are those of the graph
abbrev pub invariant-loop-k : goal.invariant-loop-k
invariant-loop-k l = record {
  list : l.out.items ++ map (place_at l.b) (picks (may_at l.graph l.node) (l.k + 1) (drop l.k l.list)) ≡ map (place_at l.b) (picks (may_at l.graph l.node) 1 l.list);
  names : IfSome l.names (λ t. t ≡ names_in l.lookups.graph.now.boxes);
}
