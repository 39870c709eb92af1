use Rattle.std.proofs.Common.{◌≡◌, ◌++◌, drop, map}
use Rattle.qgm_translation.specs.Shown as w
use Rattle.qgm_build_terms.specs.Folds.{leaf_of}
use Rattle.qgm_build_terms.specs.Written.{frame_of}
use Rattle.qgm_build_terms.proofs.groups.group_cells.Given as goal

abbrev pub invariant-loop-x : goal.invariant-loop-x
invariant-loop-x l = frame_of l.out.items ++ w.fold_refs l.u l.k (map leaf_of (drop l.x-index l.folds)) ≡ w.fold_refs l.u l.j (map leaf_of l.folds)
