-- What FROM and WHERE of a SELECT come to: its rows are those of a select of the graph, and EXISTS asks the same of what stands in its place.
use Rattle.std.specs.Prelude.{ℕ, ◌≡◌, ◌&&◌, ◌↔◌, Bool, true, List, [], ◌∷◌, filter, map, ⊤}
use Rattle.std.specs.List.{flat_map, list_all, list_any}
use Rattle.list_laws.specs.Lists.{In}
use Rattle.qgm_core.specs.declared.node.Node.{Node}
use Rattle.qgm_meaning.specs.Meaning.{Family, given_by, over_each}
use Rattle.qgm_meaning.specs.Satisfies.{is_yes}
use Rattle.qgm_meaning.specs.Values.{Environment, all_true, bound}
use Rattle.qgm_terms.specs.Terms.{Cond, Term}
use Rattle.row_bag.specs.AsSets.{is_clean}
use Rattle.sql_value.specs.declared.cell.Cell.{Cell}
use Rattle.graph_sql.specs.Bodies.{each_id}
use Rattle.graph_sql.specs.Logic.{Rows, cell_in, is_true, logic_in}
use Rattle.graph_sql.specs.ReadingLaw.{AllCalm, CalmCell, own_names, rows_there}
use Rattle.graph_sql.specs.Readings.{Names, cell_sql, cond_sql}
use Rattle.graph_sql.specs.Statement.{Expression, Test}
use Rattle.graph_sql.specs.declared.reading.Reading.TheVariants.{True}

-- ---- what FROM, WHERE and the list of a SELECT mean

-- the ways to bind these quantifiers, one after the other, each to a row of what it ranges over, which may look up those bound before it
abbrev pub ways : List ℕ → (ℕ → Environment → Rows) → Environment → List Environment
ways [] rows env = env ∷ []
ways (q ∷ qs) rows env = flat_map (λ cells. ways qs rows (bound q cells env)) (rows q env)

abbrev pub cells_of : List (Expression Rows) → Environment → List Cell
cells_of xs env = map (λ x. cell_in x env) xs

abbrev pub passes : List (Test Rows) → Environment → Bool
passes ps env = list_all (λ p. is_true (logic_in p env)) ps

-- the cells of each way that passes WHERE; what a subquery has may hang on the way
abbrev pub rows_selected : (Environment → List (Expression Rows)) → (Environment → List (Test Rows)) → List Environment → Rows
rows_selected xs ps envs = map (λ env. cells_of (xs env) env) (filter (λ env. passes (ps env) env) envs)

-- ---- a select of the graph

-- the names that it has where its quantifiers are bound so
abbrev pub names_at : Family → (ℕ → ℕ → Bool) → Environment → Names Rows
names_at s not_null env = own_names (λ q. s q env) not_null

abbrev pub selected_rows : Family → (ℕ → ℕ → Bool) → Node → Environment → Rows
selected_rows s not_null n env =
    rows_selected (λ e. map (cell_sql (names_at s not_null e)) n.parts.head) (λ e. map (cond_sql (names_at s not_null e) True) n.parts.conds.items)
    (ways (each_id n.quants) (λ q e. rows_there (s q e)) env)

-- each of these cells is calm
abbrev pub AllCells : Family → (ℕ → ℕ → Bool) → List Term → Environment → Type 0
AllCells s not_null [] env = ⊤
AllCells s not_null (x ∷ xs) env = CalmCell (λ q. s q env) not_null x env × AllCells s not_null xs env

-- the conditions are calm, and so are the cells where all conditions are true
abbrev pub CalmAt : Family → (ℕ → ℕ → Bool) → Node → Environment → Type 0
CalmAt s not_null n env =
    AllCalm (λ q. s q env) not_null n.parts.conds.items env × (is_yes (all_true (λ q. s q env) n.parts.conds.items env).t ≡ true → AllCells s not_null n.parts.head env)

-- it is so for each way to bind these, and no row of what they range over is at an error level
abbrev pub CalmWays : Family → (Environment → Type 0) → List ℕ → Environment → Type 0
CalmWays s at [] env = at env
CalmWays s at (q ∷ qs) env = (is_clean (s q env) ≡ true) × ((cells : List Cell) → In cells (rows_there (s q env)) → CalmWays s at qs (bound q cells env))

-- where all is calm, the rows of a select without DISTINCT are those of its SELECT, in order
abbrev pub Selects : Type 0
Selects =
    (s : Family) (not_null : ℕ → ℕ → Bool) (n : Node) (env : Environment) → CalmWays s (CalmAt s not_null n) (each_id n.quants) env
    → rows_there (over_each n.quants s (given_by s n) env) ≡ selected_rows s not_null n env

-- ---- EXISTS

-- some row of a SELECT meets a test just where some way to bind passes WHERE, and its cells as one more item of FROM meet the test
abbrev pub Sources : Type 0
Sources =
    (xs : Environment → List (Expression Rows)) (ps : Environment → List (Test Rows)) (envs : List Environment) (test : List Cell → Bool)
    → list_any test (rows_selected xs ps envs) ≡ list_any (λ env. passes (ps env) env && test (cells_of (xs env) env)) envs

-- nor does it matter how often a row stands there
abbrev pub Repeated : Type 0
Repeated = (rows others : Rows) (test : List Cell → Bool) → ((row : List Cell) → In row rows ↔ In row others) → list_any test rows ≡ list_any test others
