-- The aggregates among leaves, in the order of the text.
use Rattle.std.specs.Prelude.{List, [], ◌∷◌, ◌++◌}
use Rattle.sql_meaning.specs.ResolvedTrees.{From, Froms}
use Rattle.sql_meaning.specs.ResolvedTrees as q
use Rattle.qgm_translation.specs.Leaves.{Leaf, count, fold, sub, test_leaves}

abbrev pub folds_in : List Leaf → List Leaf
folds_in [] = []
folds_in (sub fr kind query ∷ ls) = folds_in ls
folds_in (fold f distinct x ∷ ls) = fold f distinct x ∷ folds_in ls
folds_in (count ∷ ls) = count ∷ folds_in ls

-- those of the ON conditions that are flattened
abbrev pub on_folds : From → List Leaf
on_folds (q.named name) = []
on_folds (q.derived query) = []
on_folds (q.crossed x y) = on_folds x ++ on_folds y
on_folds (q.joined x y p) = on_folds x ++ (on_folds y ++ folds_in (test_leaves [] p))
on_folds (q.left_joined x y n p) = []

abbrev pub all_on_folds : Froms → List Leaf
all_on_folds q.no_from = []
all_on_folds (q.one_from x xs) = on_folds x ++ all_on_folds xs
