use Rattle.std.proofs.Common.{◌≡◌, ◌++◌, drop, map}
use Rattle.qgm_translation.specs.Shown as w
use Rattle.qgm_build_terms.specs.Folds.{leaf_of}
use Rattle.qgm_build_terms.specs.Written.{frame_of}
use Rattle.qgm_build_terms.proofs.groups.ungrouped_cells.Given as goal

abbrev pub invariant-loop-x : goal.invariant-loop-x
invariant-loop-x l = frame_of l.out.items ++ w.ungrouped_cells (map leaf_of (drop l.x-index l.folds)) ≡ w.ungrouped_cells (map leaf_of l.folds)
