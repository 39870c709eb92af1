use Rattle.std.proofs.Common.{◌≡◌, ◌+◌, ◌++◌, drop, map}
use Rattle.std.specs.Prelude.{IfSome}
use Rattle.qgm_core.specs.Boxes.{overs_in}
use Rattle.qgm_terms.specs.Shown.{conds}
use Rattle.rule_api.specs.Picks.{picks}
use Rattle.rule_api.specs.Rules.{place_at}
use Rattle.rule_push.specs.PushPlaces.{may_leave}
use Rattle.rule_push.specs.PushIntoSelect.{select_passes}
use Rattle.rule_push.proofs.push_into_select.PushIntoSelectRule.places.Given as goal

-- what is left adds the rest, and uses that are counted are those of the graph
abbrev pub invariant-loop-k : goal.invariant-loop-k
invariant-loop-k l = record {
  places : l.out.items ++ map (place_at l.b) (picks (may_leave select_passes l.graph l.node) (l.k + 1) (conds (drop l.k l.list))) ≡ map (place_at l.b) (picks (may_leave select_passes l.graph l.node) 1 (conds l.list));
  uses : IfSome l.uses (λ c. c ≡ overs_in l.graph.boxes);
}
