-- Conditions split at each AND.
use Rattle.std.specs.Prelude.{List, [], ◌∷◌, ◌++◌}
use Rattle.qgm_terms.specs.Terms.{Cond, always, compare, is_null, and, or, not, some, every}

-- split at each AND that isn't under OR and NOT; where nothing is asked, no condition stands
abbrev pub split : Cond → List Cond
split always = []
split (and p q) = split p ++ split q
split (compare sign x y) = compare sign x y ∷ []
split (is_null x) = is_null x ∷ []
split (or p q) = or p q ∷ []
split (not p) = not p ∷ []
split (some q p) = some q p ∷ []
split (every q p) = every q p ∷ []

-- each of some conditions, one after the other
abbrev pub splits : List Cond → List Cond
splits [] = []
splits (p ∷ ps) = split p ++ splits ps
