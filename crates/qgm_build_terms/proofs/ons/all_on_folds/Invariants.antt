use Rattle.std.proofs.Common.{◌≡◌, ◌++◌, drop, map}
use Rattle.sql_meaning.specs.ResolvedShown as shown
use Rattle.qgm_translation.specs.Folds.{all_on_folds}
use Rattle.qgm_build_terms.specs.Folds.{leaf_of}
use Rattle.qgm_build_terms.proofs.ons.all_on_folds.Given as goal

abbrev pub invariant-loop-x : goal.invariant-loop-x
invariant-loop-x l = map leaf_of l.out.items ++ all_on_folds (shown.from_list (drop l.x-index l.list)) ≡ map leaf_of l.fn.out.items ++ all_on_folds (shown.from_list l.list)
