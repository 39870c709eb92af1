use Rattle.std.proofs.Common.{◌≡◌, ◌+◌, ◌++◌, drop, map}
use Rattle.qgm_props.specs.Laws.{KeptOf}
use Rattle.rule_api.specs.Picks.{picks}
use Rattle.rule_api.specs.Rules.{place_at}
use Rattle.rule_feed.specs.FeedCode.{may_feed}
use Rattle.rule_feed.proofs.feed.places_in.Given as goal

-- what is left adds the rest
abbrev pub invariant-loop-k : goal.invariant-loop-k
invariant-loop-k l = record {
  places : l.out.items ++ map (place_at l.b) (picks (may_feed l.graph.boxes l.fs.items) (l.k + 1) (drop l.k l.list)) ≡ map (place_at l.b) (picks (may_feed l.graph.boxes l.fs.items) 1 l.list);
  known : KeptOf l.known l.graph.boxes;
}
