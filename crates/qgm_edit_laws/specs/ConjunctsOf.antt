-- The conjuncts of a condition.
use Rattle.std.specs.Prelude.{◌++◌, List, [], ◌∷◌}
use Rattle.qgm_terms.specs.Terms.{Cond, always, compare, is_null, and, or, not, some, every}

-- the conjuncts of a condition: split at each AND that isn't under OR and NOT; any other condition is its one conjunct, also `always`
abbrev pub conjuncts : Cond → List Cond
conjuncts always = always ∷ []
conjuncts (and p q) = conjuncts p ++ conjuncts q
conjuncts (compare sign x y) = compare sign x y ∷ []
conjuncts (is_null x) = is_null x ∷ []
conjuncts (or p q) = or p q ∷ []
conjuncts (not p) = not p ∷ []
conjuncts (some q p) = some q p ∷ []
conjuncts (every q p) = every q p ∷ []
