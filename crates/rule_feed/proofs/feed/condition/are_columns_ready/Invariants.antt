use Rattle.std.proofs.Common.{◌≡◌, ◌-◌}
use Rattle.qgm_props.specs.Table.{facts_of}
use Rattle.qgm_props.specs.Under.{all_places}
use Rattle.rule_feed.specs.FeedCode.{column_ready}
use Rattle.rule_feed.proofs.feed.condition.are_columns_ready.Given as goal

-- what is left decides
abbrev pub invariant-loop-j : goal.invariant-loop-j
invariant-loop-j l = all_places (l.w - l.j) (column_ready l.marks l.nodes (facts_of l.facts) l.q) ≡ all_places l.w (column_ready l.marks l.nodes (facts_of l.facts) l.q)
