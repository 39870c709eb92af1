use Rattle.std.proofs.Common.{◌≡◌, ◌++◌, map, drop}
use Rattle.qgm_terms.specs.Shown.{terms}
use Rattle.qgm_translation.specs.Shown as w
use Rattle.qgm_build_terms.specs.Folds.{leaf_of}
use Rattle.qgm_build_terms.specs.Setting.{frame_in, sources_in}
use Rattle.qgm_build.proofs.finish.argument_terms.Given as goal

abbrev pub invariant-loop-x : goal.invariant-loop-x
invariant-loop-x l = terms l.out.items ++ w.argument_terms (sources_in l.g) (frame_in l.g) (map leaf_of (drop l.x-index l.folds)) ≡ terms l.fn.out.items ++ w.argument_terms (sources_in l.g) (frame_in l.g) (map leaf_of l.folds)
