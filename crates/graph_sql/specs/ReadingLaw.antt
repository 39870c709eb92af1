-- What the readings of a condition come to.
use Rattle.std.specs.Prelude.{ℕ, ◌≡◌, ◌≢◌, ◌&&◌, not, Bool, true, false, List, [], ◌∷◌, map, None, ⊤}
use Rattle.std.specs.List.{list_all}
use Rattle.qgm_terms.specs.Terms.{Term, int, text, null_int, null_text, col, scalar, both, minus_of, choose, count_all, fold, Arms, no_arm, arm}
use Rattle.qgm_terms.specs.Terms.{Cond, always, compare, is_null, and, or, not as not_of, some, every}
use Rattle.qgm_terms.specs.Terms.{Sign, equal, unequal, below, at_most, above, at_least, same, like}
use Rattle.row_bag.specs.AsSets.{is_clean}
use Rattle.row_bag.specs.Verdict.{those_there}
use Rattle.qgm_meaning.specs.Satisfies.{is_yes}
use Rattle.qgm_meaning.specs.Values.{Bag, Environment, all_true, bound, truth, value}
use Rattle.list_laws.specs.Lists.{In}
use Rattle.sql_value.specs.Cells.{error_of}
use Rattle.sql_value.specs.declared.cell.Cell.{Cell}
use Rattle.sql_value.specs.declared.cell.Cell.TheVariants.{Int, Text, Null, Err}
use Rattle.sql_value.specs.declared.truth.Truth.{Truth}
use Rattle.graph_sql.specs.Statement.{column}
use Rattle.graph_sql.specs.Readings.{Names, cell_sql, cond_sql, holds_value}
use Rattle.graph_sql.specs.Logic.{Rows, cell_in, is_true, logic_in}
use Rattle.graph_sql.specs.declared.reading.Reading.{Reading}
use Rattle.graph_sql.specs.declared.reading.Reading.TheVariants.{True, False, NotTrue, NotFalse}

-- the tuples of the rows that are there
abbrev pub rows_there : Bag → Rows
rows_there rows = map (λ r. r.cells) (those_there rows)

-- whether what is asked of a condition is so
abbrev pub asked : Reading → Truth → Bool
asked True p = is_yes p.t
asked False p = is_yes p.f
asked NotTrue p = not (is_yes p.t)
asked NotFalse p = not (is_yes p.f)

-- cells of one type; null is of each
abbrev pub of_one_type : Cell → Cell → Bool
of_one_type (Int m) (Int n) = true
of_one_type (Int m) (Text s) = false
of_one_type (Int m) Null = true
of_one_type (Int m) (Err k) = true
of_one_type (Text s) (Int n) = false
of_one_type (Text s) (Text t) = true
of_one_type (Text s) Null = true
of_one_type (Text s) (Err k) = true
of_one_type Null b = true
of_one_type (Err k) b = true

abbrev pub is_no_number : Cell → Bool
is_no_number (Int n) = false
is_no_number (Text s) = true
is_no_number Null = true
is_no_number (Err k) = true

-- cells that are compared have one type; LIKE is of texts
abbrev pub comparable : Sign → Cell → Cell → Bool
comparable equal a b = of_one_type a b
comparable unequal a b = of_one_type a b
comparable below a b = of_one_type a b
comparable at_most a b = of_one_type a b
comparable above a b = of_one_type a b
comparable at_least a b = of_one_type a b
comparable same a b = of_one_type a b
comparable like a b = is_no_number a && is_no_number b

-- over what quantifiers give, and the columns that are told to hold no null
module _ (rows : ℕ → Bag) (not_null : ℕ → ℕ → Bool) where
  -- each column by its own name
  abbrev pub own_names : Names Rows
  own_names = record { range = λ q. rows_there (rows q); source = λ q. rows_there (rows q); column = λ q k. column q k; not_null = not_null }

  -- a cell that is compared is no error, and not null where that is told
  abbrev pub HasValue : Term → Environment → Type 0
  HasValue x env = (error_of (value rows x env) ≡ None) × (holds_value not_null x ≡ true → value rows x env ≢ Null)

  -- nothing that is reached on the way to a cell, or to the truth of a condition, is an error, and what is compared has one type
  abbrev mutual
    pub CalmCell : Term → Environment → Type 0
    CalmCell (int n) env = ⊤
    CalmCell (text s) env = ⊤
    CalmCell null_int env = ⊤
    CalmCell null_text env = ⊤
    CalmCell (col q k) env = ⊤
    CalmCell (scalar q) env = is_clean (rows q) ≡ true
    CalmCell (both o x y) env = CalmCell x env × CalmCell y env
    CalmCell (minus_of x) env = CalmCell x env
    CalmCell (choose s x) env = CalmArms s (CalmCell x env) env
    CalmCell count_all env = ⊤
    CalmCell (fold f t x) env = ⊤

    -- what stands behind the first condition that is true isn't reached
    pub CalmArms : Arms → Type 0 → Environment → Type 0
    CalmArms no_arm last env = last
    CalmArms (arm p x s) last env = CalmCond p env × (is_yes (truth rows p env).t ≡ true → CalmCell x env) × (is_yes (truth rows p env).t ≡ false → CalmArms s last env)

    pub CalmCond : Cond → Environment → Type 0
    CalmCond always env = ⊤
    CalmCond (compare sign x y) env = CalmCell x env × CalmCell y env × HasValue x env × HasValue y env × (comparable sign (value rows x env) (value rows y env) ≡ true)
    CalmCond (is_null x) env = CalmCell x env × HasValue x env
    CalmCond (and p q) env = CalmCond p env × CalmCond q env
    CalmCond (or p q) env = CalmCond p env × CalmCond q env
    CalmCond (not_of p) env = CalmCond p env
    CalmCond (some q p) env = (is_clean (rows q) ≡ true) × ((cells : List Cell) → In cells (rows_there (rows q)) → CalmCond p (bound q cells env))
    CalmCond (every q p) env = (is_clean (rows q) ≡ true) × ((cells : List Cell) → In cells (rows_there (rows q)) → CalmCond p (bound q cells env))

-- an expression has the cell that the graph gives it
abbrev pub Cells : Type 0
Cells = (rows : ℕ → Bag) (not_null : ℕ → ℕ → Bool) (x : Term) (env : Environment) → CalmCell rows not_null x env → cell_in (cell_sql (own_names rows not_null) x) env ≡ value rows x env

-- a reading is true just where what it asks is so
abbrev pub Conditions : Type 0
Conditions =
    (rows : ℕ → Bag) (not_null : ℕ → ℕ → Bool) (r : Reading) (p : Cond) (env : Environment) → CalmCond rows not_null p env
    → is_true (logic_in (cond_sql (own_names rows not_null) r p) env) ≡ asked r (truth rows p env)

-- each of these conditions is calm
abbrev pub AllCalm : (ℕ → Bag) → (ℕ → ℕ → Bool) → List Cond → Environment → Type 0
AllCalm rows not_null [] env = ⊤
AllCalm rows not_null (p ∷ ps) env = CalmCond rows not_null p env × AllCalm rows not_null ps env

-- a row passes the first readings of all conditions just where they are all true
abbrev pub Filters : Type 0
Filters =
    (rows : ℕ → Bag) (not_null : ℕ → ℕ → Bool) (ps : List Cond) (env : Environment) → AllCalm rows not_null ps env
    → list_all (λ p. is_true (logic_in (cond_sql (own_names rows not_null) True p) env)) ps ≡ is_yes (all_true rows ps env).t
