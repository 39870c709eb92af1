use Rattle.std.proofs.Common.{◌≡◌, ◌++◌, drop, map}
use Rattle.qgm_terms.specs.Shown.{terms}
use Rattle.qgm_translation.specs.Shown as w
use Rattle.qgm_build_terms.specs.Folds.{leaf_of}
use Rattle.qgm_build_terms.proofs.groups.fold_terms.Given as goal

abbrev pub invariant-loop-x : goal.invariant-loop-x
invariant-loop-x l = terms l.out.items ++ w.fold_terms l.q l.k (map leaf_of (drop l.x-index l.folds)) ≡ terms l.fn.out.items ++ w.fold_terms l.q l.j (map leaf_of l.folds)
