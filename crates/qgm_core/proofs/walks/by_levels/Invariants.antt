use Rattle.std.proofs.Common.{◌≡◌, ◌≤◌, ◌-◌, ◌∷◌, [], drop, length}
use Rattle.qgm_core.specs.Walk as spec
use Rattle.qgm_core.proofs.walks.by_levels.Given as goal

-- what is left are the levels from this one
abbrev pub invariant-loop-level : goal.invariant-loop-level
invariant-loop-level l = record {
  within : l.start ≤ length l.seen;
  left : spec.levels (length l.nodes - l._level) l.nodes (drop l.start l.seen) l.seen ≡ spec.levels (length l.nodes) l.nodes (l.root ∷ []) (l.root ∷ []);
}
