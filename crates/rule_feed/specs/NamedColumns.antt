-- Which columns are named, one flag each, and what is made of these flags.
use Rattle.std.specs.Prelude.{ℕ, zero, suc, if◌then◌else◌, Bool, List, [], ◌∷◌}
use Rattle.qgm_terms.specs.Terms.{Cond, Term, col, compare, null_int, same}

-- of w columns from place k on
abbrev pub flags : (ℕ → Bool) → ℕ → ℕ → List Bool
flags named k zero = []
flags named k (suc w) = named k ∷ flags named (suc k) w

-- how many are named
abbrev pub count : List Bool → ℕ
count [] = 0
count (f ∷ fs) = if f then suc (count fs) else count fs

-- these, as columns of q, where the first flag is of place k
abbrev pub picked_by : List Bool → ℕ → ℕ → List Term
picked_by [] q k = []
picked_by (f ∷ fs) q k = if f then col q k ∷ picked_by fs q (suc k) else picked_by fs q (suc k)

-- a cell for each column: the named ones are columns of q, from place j on
abbrev pub cells_by : List Bool → ℕ → ℕ → List Term
cells_by [] q j = []
cells_by (f ∷ fs) q j = if f then col q j ∷ cells_by fs q (suc j) else null_int ∷ cells_by fs q j

-- the named ones of p, from place k on, are the same as columns of i, from place j on
abbrev pub joins_by : List Bool → ℕ → ℕ → ℕ → ℕ → List Cond
joins_by [] p i k j = []
joins_by (f ∷ fs) p i k j = if f then compare same (col p k) (col i j) ∷ joins_by fs p i (suc k) (suc j) else joins_by fs p i (suc k) j
