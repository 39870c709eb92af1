use Rattle.std.proofs.Common.{◌≡◌, ◌++◌, drop, filter}
use Rattle.qgm_props.specs.Table.{facts_of}
use Rattle.qgm_terms.specs.Shown.{conds}
use Rattle.rule_feed.specs.FeedCode.{stays_by}
use Rattle.rule_feed.proofs.feed.split.staying.Given as goal

-- what is left completes them
abbrev pub invariant-loop-c : goal.invariant-loop-c
invariant-loop-c l = record {
  so_far : l.all.items ++ filter (stays_by l.graph.boxes (facts_of l.facts) l.list) (conds (drop l.c-index l.c-items)) ≡ filter (stays_by l.graph.boxes (facts_of l.facts) l.list) l.conds.items;
  none_spare : l.all.spare ≡ 0;
}
