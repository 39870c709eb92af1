use Rattle.std.proofs.Common.{◌≡◌, ◌++◌, All, drop, filter, map, not}
use Rattle.qgm_terms.specs.Shown.{conds}
use Rattle.box_exec.specs.Asked.{placed_early, shown_early}
use Rattle.box_exec.specs.Early.{IsEarly, names_any}
use Rattle.box_exec.proofs.early.early_conds.Given as goal

abbrev pub invariant-loop-c : goal.invariant-loop-c
invariant-loop-c l = record {
  early : All (λ e. IsEarly l.node l.ranges e) l.made.items;
  exact : map shown_early l.made.items ++ map (placed_early l.ranges) (filter (λ c. not (names_any c l.node.quants)) (conds (drop l.c-index l.c-items))) ≡ map (placed_early l.ranges) (filter (λ c. not (names_any c l.node.quants)) (conds l.c-items));
}
