-- How many levels expressions and conditions have, one within another: those of the trees in which the operands of a chain, and those of AND and OR, stand in one list.
use Rattle.std.specs.Prelude.{ℕ, ◌+◌, ◌==◌, ◌||◌, max, if◌then◌else◌, Bool, true, false, List, [], ◌∷◌}
use Rattle.qgm_terms.specs.Substitution.{cell_at}
use Rattle.qgm_terms.specs.Terms.{Term, int, text, null_int, null_text, col, scalar, both, minus_of, choose, count_all, fold, Link, Choice}
use Rattle.qgm_terms.specs.Terms.{Arms, no_arm, arm, Cond, always, compare, is_null, and, or, not, some, every}
use Rattle.qgm_terms.specs.declared.named.Column.{Column}

abbrev pub is_chain : Term → Bool
is_chain (int n) = false
is_chain (text t) = false
is_chain null_int = false
is_chain null_text = false
is_chain (col q k) = false
is_chain (scalar q) = false
is_chain (both op a b) = true
is_chain (minus_of a) = false
is_chain (choose s a) = false
is_chain count_all = false
is_chain (fold f t a) = false

abbrev pub is_and : Cond → Bool
is_and always = false
is_and (compare sign a b) = false
is_and (is_null a) = false
is_and (and a b) = true
is_and (or a b) = false
is_and (not a) = false
is_and (some q a) = false
is_and (every q a) = false

abbrev pub is_or : Cond → Bool
is_or always = false
is_or (compare sign a b) = false
is_or (is_null a) = false
is_or (and a b) = false
is_or (or a b) = true
is_or (not a) = false
is_or (some q a) = false
is_or (every q a) = false

-- those of the first of some operands, of so many levels: one more, but those of the same list are no level more
abbrev pub under : Bool → ℕ → ℕ
under same n = if same then n else 1 + n

abbrev mutual
  pub cell_levels : Term → ℕ
  cell_levels (int n) = 1
  cell_levels (text t) = 1
  cell_levels null_int = 1
  cell_levels null_text = 1
  cell_levels (col q k) = 1
  cell_levels (scalar q) = 1
  cell_levels (both op a b) = max (under (is_chain a) (cell_levels a)) (1 + cell_levels b)
  cell_levels (minus_of a) = 1 + cell_levels a
  cell_levels (choose s a) = 1 + max (arms_levels s) (cell_levels a)
  cell_levels count_all = 1
  cell_levels (fold f t a) = 1 + cell_levels a

  pub arms_levels : Arms → ℕ
  arms_levels no_arm = 0
  arms_levels (arm c a s) = max (max (cond_levels c) (cell_levels a)) (arms_levels s)

  pub cond_levels : Cond → ℕ
  cond_levels always = 1
  cond_levels (compare sign a b) = 1 + max (cell_levels a) (cell_levels b)
  cond_levels (is_null a) = 1 + cell_levels a
  cond_levels (and a b) = max (under (is_and a) (cond_levels a)) (1 + cond_levels b)
  cond_levels (or a b) = max (under (is_or a) (cond_levels a)) (1 + cond_levels b)
  cond_levels (not a) = 1 + cond_levels a
  cond_levels (some q a) = 1 + cond_levels a
  cond_levels (every q a) = 1 + cond_levels a

-- those of the deepest of some cells
abbrev pub deepest : List Term → ℕ
deepest [] = 0
deepest (x ∷ xs) = max (cell_levels x) (deepest xs)

-- those of the deepest cell that stands for one of these columns of q
abbrev pub put_levels : ℕ → List Term → List Column → ℕ
put_levels q cells [] = 0
put_levels q cells (c ∷ cs) = max (if c.quant == q then cell_levels (cell_at c.place cells) else 0) (put_levels q cells cs)

-- ---- of lists in trees, as the code has them

abbrev pub links_levels : List Link → ℕ
links_levels [] = 0
links_levels (l ∷ ls) = max (1 + cell_levels l.right) (links_levels ls)

abbrev pub choices_levels : List Choice → ℕ
choices_levels [] = 0
choices_levels (c ∷ cs) = max (max (cond_levels c.when) (cell_levels c.then)) (choices_levels cs)

abbrev pub conds_levels : List Cond → ℕ
conds_levels [] = 0
conds_levels (p ∷ ps) = max (1 + cond_levels p) (conds_levels ps)

abbrev pub is_empty : {X : Type 0} → List X → Bool
is_empty [] = true
is_empty (x ∷ xs) = false

-- a first operand and the others
abbrev pub chain_levels : Term → List Link → ℕ
chain_levels x ls = max (under (is_empty ls || is_chain x) (cell_levels x)) (links_levels ls)

abbrev pub all_levels : Cond → List Cond → ℕ
all_levels p ps = max (under (is_empty ps || is_and p) (cond_levels p)) (conds_levels ps)

abbrev pub any_levels : Cond → List Cond → ℕ
any_levels p ps = max (under (is_empty ps || is_or p) (cond_levels p)) (conds_levels ps)
