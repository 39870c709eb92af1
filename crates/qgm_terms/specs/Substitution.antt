-- Expressions and conditions with cells in place of a quantifier's columns. Within a some or every of the quantifier itself its rows are meant.
use Rattle.std.specs.Prelude.{ℕ, ◌==◌, if◌then◌else◌, get_or, List, ◌∷◌, map}
use Rattle.qgm_terms.specs.Terms.{Term, int, text, null_int, null_text, col, scalar, both, minus_of, choose, count_all, fold, Link, Choice}
use Rattle.qgm_terms.specs.Terms.{Arms, no_arm, arm, Cond, always, compare, is_null, and, or, not, some, every}

-- the cell of a column, from 1; null where there is none
abbrev pub cell_at : ℕ → List Term → Term
cell_at k cells = get_or (null_int ∷ cells) k null_int

-- what stands for column k of r
abbrev pub column_substituted : ℕ → List Term → ℕ → ℕ → Term
column_substituted q cells r k = if r == q then cell_at k cells else col r k

abbrev mutual
  pub substituted : ℕ → List Term → Term → Term
  substituted q cells (int n) = int n
  substituted q cells (text s) = text s
  substituted q cells null_int = null_int
  substituted q cells null_text = null_text
  substituted q cells (col r k) = column_substituted q cells r k
  substituted q cells (scalar r) = scalar r
  substituted q cells (both op a b) = both op (substituted q cells a) (substituted q cells b)
  substituted q cells (minus_of a) = minus_of (substituted q cells a)
  substituted q cells (choose s a) = choose (substituted_arms q cells s) (substituted q cells a)
  substituted q cells count_all = count_all
  substituted q cells (fold f t a) = fold f t (substituted q cells a)

  pub substituted_arms : ℕ → List Term → Arms → Arms
  substituted_arms q cells no_arm = no_arm
  substituted_arms q cells (arm c a s) = arm (substituted_cond q cells c) (substituted q cells a) (substituted_arms q cells s)

  pub substituted_cond : ℕ → List Term → Cond → Cond
  substituted_cond q cells always = always
  substituted_cond q cells (compare sign a b) = compare sign (substituted q cells a) (substituted q cells b)
  substituted_cond q cells (is_null a) = is_null (substituted q cells a)
  substituted_cond q cells (and a b) = and (substituted_cond q cells a) (substituted_cond q cells b)
  substituted_cond q cells (or a b) = or (substituted_cond q cells a) (substituted_cond q cells b)
  substituted_cond q cells (not a) = not (substituted_cond q cells a)
  substituted_cond q cells (some r a) = some r (if r == q then a else substituted_cond q cells a)
  substituted_cond q cells (every r a) = every r (if r == q then a else substituted_cond q cells a)

-- the condition of a some or every of r
abbrev pub substituted_within : ℕ → List Term → ℕ → Cond → Cond
substituted_within q cells r a = if r == q then a else substituted_cond q cells a

abbrev pub substituted_link : ℕ → List Term → Link → Link
substituted_link q cells l = record { op = l.op; right = substituted q cells l.right }

abbrev pub substituted_links : ℕ → List Term → List Link → List Link
substituted_links q cells ls = map (substituted_link q cells) ls

abbrev pub substituted_choice : ℕ → List Term → Choice → Choice
substituted_choice q cells c = record { when = substituted_cond q cells c.when; then = substituted q cells c.then }

abbrev pub substituted_choices : ℕ → List Term → List Choice → List Choice
substituted_choices q cells cs = map (substituted_choice q cells) cs
