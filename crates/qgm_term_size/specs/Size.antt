-- How many nodes expressions and conditions have.
use Rattle.std.specs.Prelude.{ℕ, ◌+◌, ◌-◌, ◌==◌, if◌then◌else◌, List, [], ◌∷◌}
use Rattle.qgm_terms.specs.Substitution.{cell_at}
use Rattle.qgm_terms.specs.Terms.{Term, int, text, null_int, null_text, col, scalar, both, minus_of, choose, count_all, fold, Link, Choice}
use Rattle.qgm_terms.specs.Terms.{Arms, no_arm, arm, Cond, always, compare, is_null, and, or, not, some, every}
use Rattle.qgm_terms.specs.declared.named.Column.{Column}

-- a leaf is one; a chain is its left nest; an arm of a CASE counts its condition and its result
abbrev mutual
  pub cell_size : Term → ℕ
  cell_size (int n) = 1
  cell_size (text t) = 1
  cell_size null_int = 1
  cell_size null_text = 1
  cell_size (col q k) = 1
  cell_size (scalar q) = 1
  cell_size (both op a b) = 1 + cell_size a + cell_size b
  cell_size (minus_of a) = 1 + cell_size a
  cell_size (choose s a) = 1 + arms_size s + cell_size a
  cell_size count_all = 1
  cell_size (fold f t a) = 1 + cell_size a

  pub arms_size : Arms → ℕ
  arms_size no_arm = 0
  arms_size (arm c a s) = cond_size c + cell_size a + arms_size s

  pub cond_size : Cond → ℕ
  cond_size always = 1
  cond_size (compare sign a b) = 1 + cell_size a + cell_size b
  cond_size (is_null a) = 1 + cell_size a
  cond_size (and a b) = 1 + cond_size a + cond_size b
  cond_size (or a b) = 1 + cond_size a + cond_size b
  cond_size (not a) = 1 + cond_size a
  cond_size (some q a) = 1 + cond_size a
  cond_size (every q a) = 1 + cond_size a

-- how many nodes more the cells have than these columns of q for which they stand
abbrev pub put_size : ℕ → List Term → List Column → ℕ
put_size q cells [] = 0
put_size q cells (c ∷ cs) = (if c.quant == q then cell_size (cell_at c.place cells) - 1 else 0) + put_size q cells cs

-- ---- of lists in trees, as the code has them

abbrev pub links_size : List Link → ℕ
links_size [] = 0
links_size (l ∷ ls) = 1 + cell_size l.right + links_size ls

abbrev pub choices_size : List Choice → ℕ
choices_size [] = 0
choices_size (c ∷ cs) = cond_size c.when + cell_size c.then + choices_size cs

abbrev pub conds_size : List Cond → ℕ
conds_size [] = 0
conds_size (p ∷ ps) = 1 + cond_size p + conds_size ps
