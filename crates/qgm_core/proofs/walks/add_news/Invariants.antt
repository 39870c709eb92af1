use Rattle.std.proofs.Common.{◌≡◌, ◌++◌, drop, map}
use Rattle.qgm_core.specs.Walk as spec
use Rattle.qgm_core.proofs.walks.add_news.Given as goal

-- what is left goes behind what was seen
abbrev pub invariant-loop-range : goal.invariant-loop-range
invariant-loop-range l = l.seen ++ spec.news l.seen (map (λ r. r.over) (drop l.range-index l.ranges)) ≡ l.initial.seen ++ spec.news l.initial.seen (map (λ r. r.over) l.ranges)
