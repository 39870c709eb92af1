-- The readings of conditions, by induction.
use Rattle.std.proofs.Common.{◌≡◌, ◌≢◌, ◌&&◌, ◌||◌, not, Bool, true, false, List, [], ◌∷◌, ℕ, None, cond, refl, ap, ap₂, sym, ◌∙◌}
use Rattle.std.specs.List.{list_all, list_any}
use Rattle.list_laws.specs.Lists.{In}
use Rattle.qgm_terms.specs.Terms.{Term, int, text, null_int, null_text, col, scalar, both, minus_of, choose, count_all, fold, Arms, no_arm, arm}
use Rattle.qgm_terms.specs.Terms.{Sign}
use Rattle.qgm_terms.specs.Terms.{Cond, always, compare, is_null, and, or, not as not_of, some, every}
use Rattle.row_bag.specs.AsSets.{is_clean, is_decided}
use Rattle.row_bag.specs.Subqueries as subquery
use Rattle.qgm_meaning.specs.Satisfies.{is_yes}
use Rattle.qgm_meaning.specs.Values.{Bag, Environment, all_true, bound, chosen_at, compared, first_true, operate, truth, value}
use Rattle.sql_value.specs.Arithmetic.{neg}
use Rattle.sql_value.specs.Cells.{error_of}
use Rattle.sql_value.specs.Comparison as c
use Rattle.sql_value.specs.Truths as t
use Rattle.sql_value.specs.declared.cell.Cell.{Cell}
use Rattle.sql_value.specs.declared.cell.Cell.TheVariants.{Null}
use Rattle.sql_value.specs.declared.level.Level.{Level}
use Rattle.sql_value.specs.declared.level.Level.TheVariants.{No, Cardinality, Division, Overflow, Yes}
use Rattle.sql_value.specs.declared.truth.Truth.{Truth}
use Rattle.graph_sql.specs.Statement.{Expression, Test}
use Rattle.graph_sql.specs.Logic.{Logic, yes, no, unknown, Rows, cell_in, first_when, is_true, join, logic_in}
use Rattle.graph_sql.specs.Readings.{Names, always_sql, arms_sql, cell_sql, compare_sql, cond_sql, every_sql, holds_value, null_sql, of_and, of_every, of_or, of_some, some_sql, turned}
use Rattle.graph_sql.specs.ReadingLaw.{AllCalm, CalmArms, CalmCell, CalmCond, Filters, asked, comparable, own_names, rows_there}
use Rattle.graph_sql.specs.declared.reading.Connective.TheVariants.{And, Or}
use Rattle.graph_sql.specs.declared.reading.Reading.{Reading}
use Rattle.graph_sql.specs.declared.reading.Reading.TheVariants.{True, False, NotTrue, NotFalse}
use Rattle.graph_sql.proofs.Levels.{decided-greatest, decided-least, yes-greatest, yes-least}
use Rattle.graph_sql.proofs.Comparisons.{comparisons, decided, nulls, nulls-decided, of-bool}
use Rattle.graph_sql.proofs.RowTests.{Settled, every-false, every-settled, every-true, not-and, not-not, not-or, scalars, some-false, some-settled, some-true}

-- ---- AND and OR

both-true : (p q : Logic) → is_true (join And p q) ≡ (is_true p && is_true q)
both-true yes q = refl
both-true no q = refl
both-true unknown yes = refl
both-true unknown no = refl
both-true unknown unknown = refl

one-true : (p q : Logic) → is_true (join Or p q) ≡ (is_true p || is_true q)
one-true yes q = refl
one-true no q = refl
one-true unknown yes = refl
one-true unknown no = refl
one-true unknown unknown = refl

-- the readings of an AND, by those of its operands
and-read : (r : Reading) (p q : Logic) (a b : Truth) → is_true p ≡ asked r a → is_true q ≡ asked r b → is_true (join (of_and r) p q) ≡ asked r (t.and a b)
and-read True p q a b h g = both-true p q ∙ ap₂ (λ (x y : Bool). x && y) h g ∙ sym (yes-least a.t b.t)
and-read False p q a b h g = one-true p q ∙ ap₂ (λ (x y : Bool). x || y) h g ∙ sym (yes-greatest a.f b.f)
and-read NotTrue p q a b h g = one-true p q ∙ ap₂ (λ (x y : Bool). x || y) h g ∙ sym (not-and (is_yes a.t) (is_yes b.t)) ∙ sym (ap not (yes-least a.t b.t))
and-read NotFalse p q a b h g = both-true p q ∙ ap₂ (λ (x y : Bool). x && y) h g ∙ sym (not-or (is_yes a.f) (is_yes b.f)) ∙ sym (ap not (yes-greatest a.f b.f))

or-read : (r : Reading) (p q : Logic) (a b : Truth) → is_true p ≡ asked r a → is_true q ≡ asked r b → is_true (join (of_or r) p q) ≡ asked r (t.or a b)
or-read True p q a b h g = one-true p q ∙ ap₂ (λ (x y : Bool). x || y) h g ∙ sym (yes-greatest a.t b.t)
or-read False p q a b h g = both-true p q ∙ ap₂ (λ (x y : Bool). x && y) h g ∙ sym (yes-least a.f b.f)
or-read NotTrue p q a b h g = both-true p q ∙ ap₂ (λ (x y : Bool). x && y) h g ∙ sym (not-or (is_yes a.t) (is_yes b.t)) ∙ sym (ap not (yes-greatest a.t b.t))
or-read NotFalse p q a b h g = one-true p q ∙ ap₂ (λ (x y : Bool). x || y) h g ∙ sym (not-and (is_yes a.f) (is_yes b.f)) ∙ sym (ap not (yes-least a.f b.f))

turned-read : (r : Reading) (a : Truth) → asked (turned r) a ≡ asked r (t.negated a)
turned-read True a = refl
turned-read False a = refl
turned-read NotTrue a = refl
turned-read NotFalse a = refl

always-read : (r : Reading) (env : Environment) → is_true (logic_in (always_sql r) env) ≡ asked r (t.truth_of true)
always-read True env = refl
always-read False env = refl
always-read NotTrue env = refl
always-read NotFalse env = refl

-- ---- CASE

picked : (b : Bool) (l : Level) (x y v w : Cell) → b ≡ is_yes l → is_decided l ≡ true → (is_yes l ≡ true → x ≡ v) → (is_yes l ≡ false → y ≡ w) → cond b x y ≡ chosen_at l v w
picked true Yes x y v w e d h g = h refl
picked false No x y v w e d h g = g refl
picked true No x y v w e d h g = absurd (let z : ⊥ = cc in z)
picked false Yes x y v w e d h g = absurd (let z : ⊥ = cc in z)
picked b Cardinality x y v w e d h g = absurd (let z : ⊥ = cc in z)
picked b Division x y v w e d h g = absurd (let z : ⊥ = cc in z)
picked b Overflow x y v w e d h g = absurd (let z : ⊥ = cc in z)

-- ---- cells that are what the graph gives

comparing : (env : Environment) (r : Reading) (sign : Sign) (v w : Bool) (x y : Expression Rows) (a b : Cell) → cell_in x env ≡ a → cell_in y env ≡ b → error_of a ≡ None → error_of b ≡ None
    → comparable sign a b ≡ true → (v ≡ true → a ≢ Null) → (w ≡ true → b ≢ Null) → is_true (logic_in (compare_sql r sign v w x y) env) ≡ asked r (compared sign a b)
comparing env r sign v w x y a b e f h g s n m =
    comparisons env x y (ap error_of e ∙ h) (ap error_of f ∙ g) r sign v w (ap₂ (comparable sign) e f ∙ s) (λ u z. n u (sym e ∙ z)) (λ u z. m u (sym f ∙ z))
    ∙ ap₂ (λ (c d : Cell). asked r (compared sign c d)) e f

nulling : (r : Reading) (x : Expression Rows) (env : Environment) (a : Cell) → cell_in x env ≡ a → error_of a ≡ None → is_true (logic_in (null_sql r x) env) ≡ asked r (c.is_null a)
nulling r x env a e h = nulls r x env (ap error_of e ∙ h) ∙ ap (λ (d : Cell). asked r (c.is_null d)) e

-- ---- the law

module _ (rows : ℕ → Bag) (not_null : ℕ → ℕ → Bool) where
  abbrev n : Names Rows
  n = own_names rows not_null

  -- no truth of a calm condition is an error
  settled : (p : Cond) (env : Environment) → CalmCond rows not_null p env → Settled (truth rows p env)
  settled always env c = (refl, refl)
  settled (compare sign x y) env c = decided sign (value rows x env) (value rows y env) c.2.0 c.3.0
  settled (is_null x) env c = nulls-decided (value rows x env) c.1.0
  settled (and p q) env c =
      let h = settled p env c.0 in
      let g = settled q env c.1 in
      (decided-least (truth rows p env).t (truth rows q env).t h.0 g.0, decided-greatest (truth rows p env).f (truth rows q env).f h.1 g.1)
  settled (or p q) env c =
      let h = settled p env c.0 in
      let g = settled q env c.1 in
      (decided-greatest (truth rows p env).t (truth rows q env).t h.0 g.0, decided-least (truth rows p env).f (truth rows q env).f h.1 g.1)
  settled (not_of p) env c = let h = settled p env c in (h.1, h.0)
  settled (some q p) env c = some-settled (λ cells. truth rows p (bound q cells env)) (rows q) c.0 (λ d i. settled p (bound q d env) (c.1 d i))
  settled (every q p) env c = every-settled (λ cells. truth rows p (bound q cells env)) (rows q) c.0 (λ d i. settled p (bound q d env) (c.1 d i))

  -- the tests of a row's readings, and the reading of them all
  some-read : (r : Reading) (q : ℕ) (test : Test Rows) (truths : Environment → Truth) (env : Environment) → is_clean (rows q) ≡ true
      → ((d : List Cell) → In d (rows_there (rows q)) → is_true (logic_in test (bound q d env)) ≡ asked (of_some r) (truths (bound q d env)))
      → is_true (logic_in (some_sql r q (rows_there (rows q)) test) env) ≡ asked r (subquery.some (λ cells. truths (bound q cells env)) (rows q))
  some-read True q test truths env h p =
      of-bool (list_any (λ cells. is_true (logic_in test (bound q cells env))) (rows_there (rows q)))
      ∙ some-true (λ cells. truths (bound q cells env)) (λ cells. is_true (logic_in test (bound q cells env))) (rows q) h p
  some-read False q test truths env h p =
      of-bool (not (list_any (λ cells. is_true (logic_in test (bound q cells env))) (rows_there (rows q))))
      ∙ ap not (some-false (λ cells. truths (bound q cells env)) (λ cells. is_true (logic_in test (bound q cells env))) (rows q) h p)
      ∙ not-not (is_yes (subquery.some (λ cells. truths (bound q cells env)) (rows q)).f)
  some-read NotTrue q test truths env h p =
      of-bool (not (list_any (λ cells. is_true (logic_in test (bound q cells env))) (rows_there (rows q))))
      ∙ ap not (some-true (λ cells. truths (bound q cells env)) (λ cells. is_true (logic_in test (bound q cells env))) (rows q) h p)
  some-read NotFalse q test truths env h p =
      of-bool (list_any (λ cells. is_true (logic_in test (bound q cells env))) (rows_there (rows q)))
      ∙ some-false (λ cells. truths (bound q cells env)) (λ cells. is_true (logic_in test (bound q cells env))) (rows q) h p

  every-read : (r : Reading) (q : ℕ) (test : Test Rows) (truths : Environment → Truth) (env : Environment) → is_clean (rows q) ≡ true
      → ((d : List Cell) → In d (rows_there (rows q)) → is_true (logic_in test (bound q d env)) ≡ asked (of_every r) (truths (bound q d env)))
      → is_true (logic_in (every_sql r q (rows_there (rows q)) test) env) ≡ asked r (subquery.every (λ cells. truths (bound q cells env)) (rows q))
  every-read True q test truths env h p =
      of-bool (not (list_any (λ cells. is_true (logic_in test (bound q cells env))) (rows_there (rows q))))
      ∙ ap not (every-true (λ cells. truths (bound q cells env)) (λ cells. is_true (logic_in test (bound q cells env))) (rows q) h p)
      ∙ not-not (is_yes (subquery.every (λ cells. truths (bound q cells env)) (rows q)).t)
  every-read False q test truths env h p =
      of-bool (list_any (λ cells. is_true (logic_in test (bound q cells env))) (rows_there (rows q)))
      ∙ every-false (λ cells. truths (bound q cells env)) (λ cells. is_true (logic_in test (bound q cells env))) (rows q) h p
  every-read NotTrue q test truths env h p =
      of-bool (list_any (λ cells. is_true (logic_in test (bound q cells env))) (rows_there (rows q)))
      ∙ every-true (λ cells. truths (bound q cells env)) (λ cells. is_true (logic_in test (bound q cells env))) (rows q) h p
  every-read NotFalse q test truths env h p =
      of-bool (not (list_any (λ cells. is_true (logic_in test (bound q cells env))) (rows_there (rows q))))
      ∙ ap not (every-false (λ cells. truths (bound q cells env)) (λ cells. is_true (logic_in test (bound q cells env))) (rows q) h p)

  mutual
    pub cells : (x : Term) (env : Environment) → CalmCell rows not_null x env → cell_in (cell_sql n x) env ≡ value rows x env
    cells (int m) env c = refl
    cells (text s) env c = refl
    cells null_int env c = refl
    cells null_text env c = refl
    cells (col q k) env c = refl
    cells (scalar q) env c = scalars (rows q) c
    cells (both o x y) env c = ap₂ (operate o) (cells x env c.0) (cells y env c.1)
    cells (minus_of x) env c = ap neg (cells x env c)
    cells (choose s x) env c = arms s x (cell_in (cell_sql n x) env) (value rows x env) env (cells x env) c
    cells count_all env c = refl
    cells (fold f t x) env c = refl

    arms : (s : Arms) (y : Term) (l v : Cell) (env : Environment) → (CalmCell rows not_null y env → l ≡ v) → CalmArms rows not_null s (CalmCell rows not_null y env) env → first_when (arms_sql n s) l env ≡ first_true rows s v env
    arms no_arm y l v env h c = h c
    arms (arm p x s) y l v env h c =
        picked (is_true (logic_in (cond_sql n True p) env)) (truth rows p env).t (cell_in (cell_sql n x) env) (first_when (arms_sql n s) l env) (value rows x env) (first_true rows s v env)
        (conds True p env c.0) (settled p env c.0).0 (λ e. cells x env (c.1 e)) (λ e. arms s y l v env h (c.2 e))

    pub conds : (r : Reading) (p : Cond) (env : Environment) → CalmCond rows not_null p env → is_true (logic_in (cond_sql n r p) env) ≡ asked r (truth rows p env)
    conds r always env c = always-read r env
    conds r (compare sign x y) env c =
        comparing env r sign (holds_value not_null x) (holds_value not_null y) (cell_sql n x) (cell_sql n y) (value rows x env) (value rows y env) (cells x env c.0) (cells y env c.1) c.2.0 c.3.0 c.4 c.2.1 c.3.1
    conds r (is_null x) env c = nulling r (cell_sql n x) env (value rows x env) (cells x env c.0) c.1.0
    conds r (and p q) env c = and-read r (logic_in (cond_sql n r p) env) (logic_in (cond_sql n r q) env) (truth rows p env) (truth rows q env) (conds r p env c.0) (conds r q env c.1)
    conds r (or p q) env c = or-read r (logic_in (cond_sql n r p) env) (logic_in (cond_sql n r q) env) (truth rows p env) (truth rows q env) (conds r p env c.0) (conds r q env c.1)
    conds r (not_of p) env c = conds (turned r) p env c ∙ turned-read r (truth rows p env)
    conds r (some q p) env c = some-read r q (cond_sql n (of_some r) p) (truth rows p) env c.0 (λ d i. conds (of_some r) p (bound q d env) (c.1 d i))
    conds r (every q p) env c = every-read r q (cond_sql n (of_every r) p) (truth rows p) env c.0 (λ d i. conds (of_every r) p (bound q d env) (c.1 d i))

  all-settled-by : (ps : List Cond) (env : Environment) → AllCalm rows not_null ps env → Settled (all_true rows ps env)
  all-settled-by [] env c = (refl, refl)
  all-settled-by (p ∷ ps) env c =
      let h = settled p env c.0 in
      let g = all-settled-by ps env c.1 in
      (decided-least (truth rows p env).t (all_true rows ps env).t h.0 g.0, decided-greatest (truth rows p env).f (all_true rows ps env).f h.1 g.1)

  filtered : (ps : List Cond) (env : Environment) → AllCalm rows not_null ps env → list_all (λ p. is_true (logic_in (cond_sql n True p) env)) ps ≡ is_yes (all_true rows ps env).t
  filtered [] env c = refl
  filtered (p ∷ ps) env c = ap₂ (λ (x y : Bool). x && y) (conds True p env c.0) (filtered ps env c.1) ∙ sym (yes-least (truth rows p env).t (all_true rows ps env).t)

pub all-settled : (rows : ℕ → Bag) (not_null : ℕ → ℕ → Bool) (ps : List Cond) (env : Environment) → AllCalm rows not_null ps env → Settled (all_true rows ps env)
all-settled rows not_null ps env c = all-settled-by rows not_null ps env c

pub filters : Filters
filters rows not_null ps env c = filtered rows not_null ps env c
