-- What substitution adds to sizes and levels.
use Rattle.std.specs.Prelude.{ℕ, ◌+◌, ◌≤◌, List}
use Rattle.qgm_term_size.specs.Levels.{cell_levels, cond_levels, deepest, put_levels}
use Rattle.qgm_term_size.specs.Size.{cell_size, cond_size, put_size}
use Rattle.qgm_terms.specs.Named.{columns_in, columns_in_cond}
use Rattle.qgm_terms.specs.Substitution.{substituted, substituted_cond}
use Rattle.qgm_terms.specs.Terms.{Cond, Term}

-- nodes: no more than the cells have above the columns for which they stand
abbrev pub CellSize : Type 0
CellSize = (q : ℕ) (cells : List Term) (x : Term) → cell_size (substituted q cells x) ≤ cell_size x + put_size q cells (columns_in x)

abbrev pub CondSize : Type 0
CondSize = (q : ℕ) (cells : List Term) (c : Cond) → cond_size (substituted_cond q cells c) ≤ cond_size c + put_size q cells (columns_in_cond c)

-- levels: no more than those of the deepest cell that is put
abbrev pub CellLevels : Type 0
CellLevels = (q : ℕ) (cells : List Term) (x : Term) → cell_levels (substituted q cells x) ≤ cell_levels x + put_levels q cells (columns_in x)

abbrev pub CondLevels : Type 0
CondLevels = (q : ℕ) (cells : List Term) (c : Cond) → cond_levels (substituted_cond q cells c) ≤ cond_levels c + put_levels q cells (columns_in_cond c)

-- no more than those of the deepest of all cells
abbrev pub CellDeepest : Type 0
CellDeepest = (q : ℕ) (cells : List Term) (x : Term) → cell_levels (substituted q cells x) ≤ cell_levels x + deepest cells

abbrev pub CondDeepest : Type 0
CondDeepest = (q : ℕ) (cells : List Term) (c : Cond) → cond_levels (substituted_cond q cells c) ≤ cond_levels c + deepest cells
