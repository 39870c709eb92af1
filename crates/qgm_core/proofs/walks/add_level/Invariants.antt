use Rattle.std.proofs.Common.{◌≡◌, ◌<◌, ◌≤◌, ◌++◌, ℕ, drop, get_or, length}
use Rattle.qgm_core.specs.Walk as spec
use Rattle.qgm_core.proofs.walks.add_level.Given as goal

-- what is left goes behind what was seen, which stays where it is
abbrev pub invariant-loop-i : goal.invariant-loop-i
invariant-loop-i l = record {
  long : length l.initial.seen ≤ length l.seen;
  stays : (k d : ℕ) → k < length l.initial.seen → get_or l.seen k d ≡ get_or l.initial.seen k d;
  left : l.seen ++ spec.news l.seen (spec.under l.nodes (drop l.i l.initial.seen)) ≡ l.initial.seen ++ spec.news l.initial.seen (spec.under l.nodes (drop l.start l.initial.seen));
}
