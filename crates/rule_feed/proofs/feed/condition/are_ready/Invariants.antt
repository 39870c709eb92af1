use Rattle.std.proofs.Common.{◌≡◌, drop}
use Rattle.qgm_props.specs.Table.{facts_of}
use Rattle.rule_feed.specs.FeedCode.{all_ready}
use Rattle.rule_feed.proofs.feed.condition.are_ready.Given as goal

-- what is left decides
abbrev pub invariant-loop-q : goal.invariant-loop-q
invariant-loop-q l = all_ready l.graph.boxes (facts_of l.facts) l.c l.free (drop l.q-index l.list) ≡ all_ready l.graph.boxes (facts_of l.facts) l.c l.free l.list
