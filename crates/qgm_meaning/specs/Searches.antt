-- What is looked for in cells and conditions.
use Rattle.std.specs.Prelude.{ℕ, ◌==◌, ◌&&◌, Bool, true, false, if◌then◌else◌}
use Rattle.qgm_terms.specs.Wanted.{Wanted, any_in, any_in_arms, any_in_cond}
use Rattle.qgm_terms.specs.Terms.{Term, int, text, null_int, null_text, col, both, minus_of, choose, count_all, fold, scalar, Arms, no_arm, arm, Cond, always, compare, is_null, and, or, not, some, every}
use Rattle.qgm_terms.specs.Wanted.{wanted}
use Rattle.qgm_terms.specs.declared.sought.Sought.TheVariants.{NodeOf, Row, Cell}

-- the rows of q are looked up where arms are evaluated
abbrev pub reads_arms : ℕ → Arms → Bool
reads_arms q = any_in_arms (wanted (Row q))

-- of which column k
abbrev pub reads_at_arms : ℕ → ℕ → Arms → Bool
reads_at_arms q k = any_in_arms (wanted (Cell q k))

-- a column, a scalar, or a some or every that passes, where nodes that pass are entered
abbrev pub looking : (ℕ → ℕ → Bool) → (ℕ → Bool) → (ℕ → Bool) → (ℕ → Bool) → Wanted
looking column cell node enter = record {
  column = column;
  cell = cell;
  node = node;
  enter = enter;
  aggregate = false;
}

-- a some or every of a quantifier that passes
abbrev pub binding : (ℕ → Bool) → Wanted
binding pass = looking (λ r j. false) (λ r. false) pass (λ r. true)

-- a some or every of q stands within, which binds it
abbrev pub binds : ℕ → Term → Bool
binds q = any_in (binding (λ r. r == q))

abbrev pub binds_arms : ℕ → Arms → Bool
binds_arms q = any_in_arms (binding (λ r. r == q))

abbrev pub binds_cond : ℕ → Cond → Bool
binds_cond q = any_in_cond (binding (λ r. r == q))

-- a scalar, some or every of q stands within
abbrev pub names : ℕ → Term → Bool
names q = any_in (wanted (NodeOf q))

abbrev pub names_arms : ℕ → Arms → Bool
names_arms q = any_in_arms (wanted (NodeOf q))

abbrev pub names_cond : ℕ → Cond → Bool
names_cond q = any_in_cond (wanted (NodeOf q))

-- no quantifier node and no aggregate stands within
abbrev mutual
  pub bare : Term → Bool
  bare (int n) = true
  bare (text s) = true
  bare null_int = true
  bare null_text = true
  bare (col r k) = true
  bare (both o x y) = bare x && bare y
  bare (minus_of x) = bare x
  bare (choose s x) = bare_arms s && bare x
  bare count_all = false
  bare (fold f t x) = false
  bare (scalar r) = false

  pub bare_arms : Arms → Bool
  bare_arms no_arm = true
  bare_arms (arm c x s) = bare_cond c && (bare x && bare_arms s)

  pub bare_cond : Cond → Bool
  bare_cond always = true
  bare_cond (compare sign x y) = bare x && bare y
  bare_cond (is_null x) = bare x
  bare_cond (and c d) = bare_cond c && bare_cond d
  bare_cond (or c d) = bare_cond c && bare_cond d
  bare_cond (not c) = bare_cond c
  bare_cond (some r c) = false
  bare_cond (every r c) = false

-- the first column of q in the place of the cell that it gives
abbrev mutual
  pub as_column : ℕ → Term → Term
  as_column q (int n) = int n
  as_column q (text s) = text s
  as_column q null_int = null_int
  as_column q null_text = null_text
  as_column q (col r k) = col r k
  as_column q (both o x y) = both o (as_column q x) (as_column q y)
  as_column q (minus_of x) = minus_of (as_column q x)
  as_column q (choose s x) = choose (as_column_arms q s) (as_column q x)
  as_column q count_all = count_all
  as_column q (fold f t x) = fold f t (as_column q x)
  as_column q (scalar r) = if r == q then col q 1 else scalar r

  pub as_column_arms : ℕ → Arms → Arms
  as_column_arms q no_arm = no_arm
  as_column_arms q (arm c x s) = arm (as_column_cond q c) (as_column q x) (as_column_arms q s)

  pub as_column_cond : ℕ → Cond → Cond
  as_column_cond q always = always
  as_column_cond q (compare sign x y) = compare sign (as_column q x) (as_column q y)
  as_column_cond q (is_null x) = is_null (as_column q x)
  as_column_cond q (and c d) = and (as_column_cond q c) (as_column_cond q d)
  as_column_cond q (or c d) = or (as_column_cond q c) (as_column_cond q d)
  as_column_cond q (not c) = not (as_column_cond q c)
  as_column_cond q (some r c) = some r (as_column_cond q c)
  as_column_cond q (every r c) = every r (as_column_cond q c)
