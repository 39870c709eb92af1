-- What an aggregate that the program found is as a leaf.
use Rattle.sql_meaning.specs.ResolvedShown as shown
use Rattle.qgm_translation.specs.Leaves.{Leaf, count, fold}
use Rattle.qgm_build_terms.specs.declared.folds.Fold.{Fold}
use Rattle.qgm_build_terms.specs.declared.folds.Fold.TheVariants.{CountAll, Of}

abbrev pub leaf_of : Fold → Leaf
leaf_of CountAll = count
leaf_of (Of f distinct x) = fold f distinct (shown.value x.now)
