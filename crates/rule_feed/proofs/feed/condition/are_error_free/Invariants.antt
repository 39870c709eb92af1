use Rattle.std.proofs.Common.{◌≡◌, ◌-◌}
use Rattle.qgm_props.specs.Table.{facts_of}
use Rattle.qgm_props.specs.Under.{all_places}
use Rattle.rule_feed.proofs.feed.condition.are_error_free.Given as goal

-- what is left decides
abbrev pub invariant-loop-j : goal.invariant-loop-j
invariant-loop-j l = all_places (l.w - l.j) ((facts_of l.facts).error_free l.q.over) ≡ all_places l.w ((facts_of l.facts).error_free l.q.over)
