-- The rows of a SELECT, and EXISTS over them, by induction.
use Rattle.std.proofs.Common.{ℕ, ◌≡◌, ◌&&◌, ◌||◌, ◌++◌, Bool, true, false, List, [], ◌∷◌, cond, filter, map, refl, sym, ap, ap₂, ◌∙◌, inl, inr}
use Rattle.std.specs.List.{flat_map, list_all, list_any}
use Rattle.std.proofs.lemmas.Bool.{and_parts, cases_Bool}
use Rattle.std.proofs.lemmas.List.{map-append}
use Rattle.std.proofs.lemmas.List.Elements.{filter-append}
use Rattle.std.proofs.lemmas.List.Folds.{list_all-map}
use Rattle.list_laws.specs.Lists.{In}
use Rattle.list_laws.proofs.Membership.{any-from, any-in, any-none, any-not}
use Rattle.qgm_core.specs.Kinds.{is_F}
use Rattle.qgm_core.specs.declared.node.Node.{Node}
use Rattle.qgm_core.specs.declared.owned.OwnedQuant.{OwnedQuant}
use Rattle.qgm_meaning.specs.Meaning.{Family, given_by, over_each}
use Rattle.qgm_meaning.specs.Satisfies.{is_yes}
use Rattle.qgm_meaning.specs.Values.{Bag, Environment, all_true, bound, head_cells}
use Rattle.qgm_terms.specs.Terms.{Term}
use Rattle.row_bag.specs.AsSets.{is_clean, is_decided}
use Rattle.row_bag.specs.Bags.{bind, keep, row, unit}
use Rattle.row_bag.specs.Verdict.{is_there, those_there}
use Rattle.sql_value.specs.declared.cell.Cell.{Cell}
use Rattle.sql_value.specs.declared.level.Level.{Level}
use Rattle.sql_value.specs.declared.level.Level.TheVariants.{No, Cardinality, Division, Overflow, Yes}
use Rattle.graph_sql.specs.Bodies.{each_id}
use Rattle.graph_sql.specs.Logic.{Rows, is_true, logic_in}
use Rattle.graph_sql.specs.ReadingLaw.{AllCalm, rows_there}
use Rattle.graph_sql.specs.Readings.{cell_sql, cond_sql}
use Rattle.graph_sql.specs.SelectLaw.{AllCells, CalmAt, CalmWays, Repeated, Selects, Sources, cells_of, names_at, passes, rows_selected, ways}
use Rattle.graph_sql.specs.declared.reading.Reading.TheVariants.{True}
use Rattle.graph_sql.proofs.Levels.{decided-least}
use Rattle.graph_sql.proofs.Read.{all-settled, cells, filters}

-- ---- EXISTS

any-filtered : {X Y : Type 0} (p : X → Bool) (f : X → Y) (test : Y → Bool) (xs : List X) → list_any test (map f (filter p xs)) ≡ list_any (λ x. p x && test (f x)) xs
any-filtered p f test [] = refl
any-filtered p f test (x ∷ xs) = elim (p x) as (λ (b : Bool). list_any test (map f (cond b (x ∷ filter p xs) (filter p xs))) ≡ ((b && test (f x)) || list_any (λ x. p x && test (f x)) xs)) [
  | true ↦ ap (λ (b : Bool). test (f x) || b) (any-filtered p f test xs)
  | false ↦ any-filtered p f test xs
]

pub sources : Sources
sources xs ps envs test = any-filtered (λ env. passes (ps env) env) (λ env. cells_of (xs env) env) test envs

pub repeated : Repeated
repeated rows others test h = elim (cases_Bool (list_any test others)) [
  | inl t ↦ (let r = any-in test others t in any-from test r.0 rows ((h r.0).1 r.1.0) r.1.1 ∙ sym t)
  | inr f ↦ any-not test rows (λ row i. any-none test row others f ((h row).0 i)) ∙ sym f
]

-- ---- the rows that are there

there-append : (xs ys : Bag) → rows_there (xs ++ ys) ≡ rows_there xs ++ rows_there ys
there-append xs ys = ap (map (λ r. r.cells)) (filter-append is_there xs ys) ∙ map-append (λ r. r.cells) (those_there xs) (those_there ys)

one-at-yes : (c : List Cell) (l : Level) (rs : Bag) → rows_there (keep Yes rs) ≡ rows_there rs → rows_there (keep Yes (row c l ∷ rs)) ≡ rows_there (row c l ∷ rs)
one-at-yes c No rs e = e
one-at-yes c Cardinality rs e = ap (λ (z : Rows). c ∷ z) e
one-at-yes c Division rs e = ap (λ (z : Rows). c ∷ z) e
one-at-yes c Overflow rs e = ap (λ (z : Rows). c ∷ z) e
one-at-yes c Yes rs e = ap (λ (z : Rows). c ∷ z) e

kept-at-yes : (rs : Bag) → rows_there (keep Yes rs) ≡ rows_there rs
kept-at-yes [] = refl
kept-at-yes (r ∷ rs) = one-at-yes r.cells r.level rs (kept-at-yes rs)

one-at-no : (c : List Cell) (l : Level) (rs : Bag) → rows_there (keep No rs) ≡ [] → rows_there (keep No (row c l ∷ rs)) ≡ []
one-at-no c No rs e = e
one-at-no c Cardinality rs e = e
one-at-no c Division rs e = e
one-at-no c Overflow rs e = e
one-at-no c Yes rs e = e

kept-at-no : (rs : Bag) → rows_there (keep No rs) ≡ []
kept-at-no [] = refl
kept-at-no (r ∷ rs) = one-at-no r.cells r.level rs (kept-at-no rs)

one-bound : (c : List Cell) (l : Level) (rs : Bag) (f : List Cell → Bag) → is_decided l ≡ true → rows_there (bind rs f) ≡ flat_map (λ d. rows_there (f d)) (rows_there rs)
    → rows_there (bind (row c l ∷ rs) f) ≡ flat_map (λ d. rows_there (f d)) (rows_there (row c l ∷ rs))
one-bound c No rs f h e = there-append (keep No (f c)) (bind rs f) ∙ ap (λ (z : Rows). z ++ rows_there (bind rs f)) (kept-at-no (f c)) ∙ e
one-bound c Cardinality rs f h e = absurd (let z : ⊥ = cc in z)
one-bound c Division rs f h e = absurd (let z : ⊥ = cc in z)
one-bound c Overflow rs f h e = absurd (let z : ⊥ = cc in z)
one-bound c Yes rs f h e = there-append (keep Yes (f c)) (bind rs f) ∙ ap₂ (λ (y z : Rows). y ++ z) (kept-at-yes (f c)) e

bound-rows : (rs : Bag) (f : List Cell → Bag) → is_clean rs ≡ true → rows_there (bind rs f) ≡ flat_map (λ d. rows_there (f d)) (rows_there rs)
bound-rows [] f h = refl
bound-rows (r ∷ rs) f h = let k = and_parts (is_decided r.level) (is_clean rs) h in one-bound r.cells r.level rs f k.0 (bound-rows rs f k.1)

flat-same : {X Y : Type 0} (f g : X → List Y) (xs : List X) → ((x : X) → In x xs → f x ≡ g x) → flat_map f xs ≡ flat_map g xs
flat-same f g [] h = refl
flat-same f g (x ∷ xs) h = ap₂ (λ a b. a ++ b) (h x (inl refl)) (flat-same f g xs (λ y i. h y (inr i)))

-- ---- one way to bind

at-level : (c : List Cell) (l : Level) → is_decided l ≡ true → rows_there (keep l (unit c)) ≡ cond (is_yes l) (c ∷ []) []
at-level c No h = refl
at-level c Cardinality h = absurd (let z : ⊥ = cc in z)
at-level c Division h = absurd (let z : ⊥ = cc in z)
at-level c Overflow h = absurd (let z : ⊥ = cc in z)
at-level c Yes h = refl

one-selected : {X Y : Type 0} (f : X → Y) (b : Bool) (x : X) → map f (cond b (x ∷ []) []) ≡ cond b (f x ∷ []) []
one-selected f true x = refl
one-selected f false x = refl

where-true : {Y : Type 0} (b : Bool) (x y : Y) → (b ≡ true → x ≡ y) → cond b (x ∷ []) [] ≡ cond b (y ∷ []) []
where-true true x y h = ap (λ z. z ∷ []) (h refl)
where-true false x y h = refl

module _ (s : Family) (not_null : ℕ → ℕ → Bool) where
  head-cells : (xs : List Term) (env : Environment) → AllCells s not_null xs env → head_cells (λ q. s q env) xs env ≡ cells_of (map (cell_sql (names_at s not_null env)) xs) env
  head-cells [] env c = refl
  head-cells (x ∷ xs) env c = ap₂ (λ (a : Cell) (b : List Cell). a ∷ b) (sym (cells (λ q. s q env) not_null x env c.0)) (head-cells xs env c.1)

  module _ (n : Node) where
    passed : (env : Environment) → AllCalm (λ q. s q env) not_null n.parts.conds.items env
        → passes (map (cond_sql (names_at s not_null env) True) n.parts.conds.items) env ≡ is_yes (all_true (λ q. s q env) n.parts.conds.items env).t
    passed env c =
        list_all-map (λ p. is_true (logic_in p env)) (cond_sql (names_at s not_null env) True) n.parts.conds.items
        ∙ filters (λ q. s q env) not_null n.parts.conds.items env c

    abbrev selected : List Environment → Rows
    selected envs = rows_selected (λ e. map (cell_sql (names_at s not_null e)) n.parts.head) (λ e. map (cond_sql (names_at s not_null e) True) n.parts.conds.items) envs

    one-way : (env : Environment) → CalmAt s not_null n env → rows_there (given_by s n env) ≡ selected (env ∷ [])
    one-way env c =
        let level = (all_true (λ q. s q env) n.parts.conds.items env).t in
        at-level (head_cells (λ q. s q env) n.parts.head env) level (all-settled (λ q. s q env) not_null n.parts.conds.items env c.0).0
        ∙ where-true (is_yes level) (head_cells (λ q. s q env) n.parts.head env) (cells_of (map (cell_sql (names_at s not_null env)) n.parts.head) env) (λ h. head-cells n.parts.head env (c.1 h))
        ∙ ap (λ (b : Bool). cond b (cells_of (map (cell_sql (names_at s not_null env)) n.parts.head) env ∷ []) []) (sym (passed env c.0))
        ∙ sym (one-selected (λ e. cells_of (map (cell_sql (names_at s not_null e)) n.parts.head) e) (passes (map (cond_sql (names_at s not_null env) True) n.parts.conds.items) env) env)

    selected-append : (xs ys : List Environment) → selected (xs ++ ys) ≡ selected xs ++ selected ys
    selected-append xs ys =
        ap (map (λ e. cells_of (map (cell_sql (names_at s not_null e)) n.parts.head) e)) (filter-append (λ e. passes (map (cond_sql (names_at s not_null e) True) n.parts.conds.items) e) xs ys)
        ∙ map-append (λ e. cells_of (map (cell_sql (names_at s not_null e)) n.parts.head) e)
        (filter (λ e. passes (map (cond_sql (names_at s not_null e) True) n.parts.conds.items) e) xs) (filter (λ e. passes (map (cond_sql (names_at s not_null e) True) n.parts.conds.items) e) ys)

    selected-flat : {X : Type 0} (f : X → List Environment) (xs : List X) → selected (flat_map f xs) ≡ flat_map (λ x. selected (f x)) xs
    selected-flat f [] = refl
    selected-flat f (x ∷ xs) = selected-append (f x) (flat_map f xs) ∙ ap (λ (z : Rows). selected (f x) ++ z) (selected-flat f xs)

    -- ---- all ways

    each-way : (rs : List OwnedQuant) (env : Environment) → CalmWays s (CalmAt s not_null n) (each_id rs) env
        → rows_there (over_each rs s (given_by s n) env) ≡ selected (ways (each_id rs) (λ q e. rows_there (s q e)) env)
    each-way [] env c = one-way env c
    each-way (r ∷ rs) env c = elim (is_F r.kind) as (λ (b : Bool).
        CalmWays s (CalmAt s not_null n) (map (λ r. r.id) (cond b (r ∷ filter (λ r. is_F r.kind) rs) (filter (λ r. is_F r.kind) rs))) env
        → rows_there (cond b (bind (s r.id env) (λ cells. over_each rs s (given_by s n) (bound r.id cells env))) (over_each rs s (given_by s n) env))
        ≡ selected (ways (map (λ r. r.id) (cond b (r ∷ filter (λ r. is_F r.kind) rs) (filter (λ r. is_F r.kind) rs))) (λ q e. rows_there (s q e)) env)) [
          | true ↦ λ c.
              bound-rows (s r.id env) (λ cells. over_each rs s (given_by s n) (bound r.id cells env)) c.0
              ∙ flat-same (λ cells. rows_there (over_each rs s (given_by s n) (bound r.id cells env))) (λ cells. selected (ways (each_id rs) (λ q e. rows_there (s q e)) (bound r.id cells env))) (rows_there (s r.id env))
              (λ cells i. each-way rs (bound r.id cells env) (c.1 cells i))
              ∙ sym (selected-flat (λ cells. ways (each_id rs) (λ q e. rows_there (s q e)) (bound r.id cells env)) (rows_there (s r.id env)))
          | false ↦ λ c. each-way rs env c
        ] c

pub selects : Selects
selects s not_null n env c = each-way s not_null n n.quants env c
