-- Where the boxes stand that quantifiers range over.
use Rattle.std.specs.Prelude.{ℕ, suc, ◌≡◌, ◌==◌, nat_eq, if◌then◌else◌, List, [], ◌∷◌, Option, Some, None}
use Rattle.std.specs.HashMap.{HashMap, get}
use Rattle.qgm_core.specs.declared.node.Node.{Node}
use Rattle.qgm_core.specs.declared.owned.OwnedQuant.{OwnedQuant}

-- the rank of box b, or how many boxes there are
abbrev pub rank_in : ℕ → List Node → ℕ
rank_in b [] = 0
rank_in b (n ∷ ns) = if n.id == b then 0 else suc (rank_in b ns)

-- where the first of these that is q ranges over a box; else what was known
abbrev pub place_or : List Node → ℕ → List OwnedQuant → Option ℕ → Option ℕ
place_or boxes q [] old = old
place_or boxes q (r ∷ rs) old = if r.id == q then Some (rank_in r.over boxes) else place_or boxes q rs old

-- the rank of the box that q ranges over
abbrev pub place_in : List Node → ℕ → List Node → Option ℕ
place_in boxes q [] = None
place_in boxes q (n ∷ ns) = place_or boxes q n.quants (place_in boxes q ns)

module _ {S : Type 0} where
  -- each quantifier has the rank of the box that it ranges over
  abbrev pub ArePlaces : List Node → HashMap ℕ ℕ S → Type 0
  ArePlaces boxes places = (q : ℕ) → get nat_eq places q ≡ place_in boxes q boxes
