-- The AND of comparisons by `same`, column by column.
use Rattle.std.specs.Prelude.{ℕ, zero, suc, List, [], ◌∷◌}
use Rattle.qgm_terms.specs.Terms.{Cond, always, anded, col, compare, same}

-- the columns of l are the same as those of r, from k on, so many
abbrev pub sames : ℕ → ℕ → ℕ → ℕ → List Cond
sames l r k zero = []
sames l r k (suc w) = compare same (col l k) (col r k) ∷ sames l r (suc k) w

-- all of so many columns are; the AND nests to the left
abbrev pub all_same : ℕ → ℕ → ℕ → Cond
all_same l r zero = always
all_same l r (suc w) = anded (compare same (col l 1) (col r 1)) (sames l r 2 w)
