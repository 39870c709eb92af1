-- What is inferred of a group holds.
use Rattle.std.proofs.Common.{ℕ, zero, suc, ◌≡◌, ◌≤◌, ◌<◌, ◌+◌, cond, Bool, true, false, List, [], ◌∷◌, ◌++◌, map, take, drop, None, refl, sym, ap, ap₂, subst, ◌∙◌, arith, inl, inr}
use Rattle.std.proofs.lemmas.Bool.{and_parts}
use Rattle.std.specs.List.{list_all}
use Rattle.row_bag.specs.Bags.{bind, if_there, row, unit}
use Rattle.row_bag.specs.Errors.{error_among, error_at, error_in}
use Rattle.row_bag.specs.Joins.{how_many}
use Rattle.row_bag.specs.Order.{cell_of}
use Rattle.row_bag.specs.Sets.{of_group, once, same_cells}
use Rattle.row_bag.specs.Verdict.{is_there}
use Rattle.sql_value.specs.declared.cell.Cell.{Cell}
use Rattle.sql_value.specs.declared.cell.Cell.TheVariants.{Null}
use Rattle.sql_value.specs.Level.{least}
use Rattle.sql_value.specs.declared.level.Level.{Level}
use Rattle.sql_value.specs.declared.level.Level.TheVariants.{No, Cardinality, Division, Overflow, Yes}
use Rattle.row_bag.proofs.Levels.{least-yes}
use Rattle.list_laws.specs.Lists.{In}
use Rattle.qgm_core.specs.declared.node.Node.{Node}
use Rattle.qgm_meaning.specs.Aggregated.{taken_of}
use Rattle.qgm_meaning.specs.Laws.{occurs}
use Rattle.qgm_meaning.specs.Meaning.{fold_cell, fold_cells, groups, key_cells, nothing}
use Rattle.qgm_meaning.specs.Values.{Bag, Environment, bound, head_cells, value}
use Rattle.qgm_terms.specs.Terms.{Term, int, text, null_int, null_text, col, scalar, both, minus_of, choose, count_all, fold}
use Rattle.qgm_props.specs.Facts.{Each, EachThere, HasAtMostOne, is_sound}
use Rattle.qgm_props.proofs.EachClean.{EachClean}
use Rattle.qgm_props.specs.Inferred.{Facts, at_place, fold_free, is_free}
use Rattle.qgm_props.proofs.Counted.{bind-one, occurs-once}
use Rattle.qgm_props.proofs.Folds.{SoundCells, folded-sound, none-among, none-in, rows-counted}
use Rattle.qgm_props.proofs.Rows.{clean-bind, each-bind, each-occurs, occurs-each}
use Rattle.qgm_props.proofs.Terms.{SoundColumns, SoundRows, value-sound}

-- a row at another level that is the same
there-as : {S T : Type 0} (l m : Level) → l ≡ m → (c : S) (d : T) → is_there (row c l) ≡ true → is_there (row d m) ≡ true
there-as {S} {T} l m e c d t = at m (subst (λ l. is_there (row c l) ≡ true) e t)
  where
    at : (m : Level) → is_there (row c m) ≡ true → is_there (row d m) ≡ true
    at No t = t
    at Cardinality t = refl
    at Division t = refl
    at Overflow t = refl
    at Yes t = refl

abbrev pub many_at : {T : Type 0} → T → Level → ℕ
many_at {T} c l = if_there 0 (λ (c : T) (m : Level). 1) c l

many-as : {S T : Type 0} (l m : Level) → l ≡ m → (c : S) (d : T) → many_at c l ≡ many_at d m
many-as {S} {T} l m e c d = ap (λ l. many_at c l) e ∙ at m
  where
    at : (m : Level) → many_at c m ≡ many_at d m
    at No = refl
    at Cardinality = refl
    at Division = refl
    at Overflow = refl
    at Yes = refl

-- no quantifier gives a row, so that all holds of these
pub nothing-sound : (boxes : List Node) (known : Facts) → SoundRows boxes known nothing
nothing-sound boxes known = record { clean = λ q h. tt; free = λ q k h. tt; single = λ q h. omega (arith) }

-- cells of which each term passes are sound
all-sound : (boxes : List Node) (known : Facts) (one : Bool) (xs : List Term) (env : Environment) → SoundColumns boxes known env → list_all (is_free boxes known one) xs ≡ true → Each (λ x. is_sound x ≡ true) (head_cells nothing xs env)
all-sound boxes known one [] env c h = tt
all-sound boxes known one (x ∷ xs) env c h =
    let a = and_parts (is_free boxes known one x) (list_all (is_free boxes known one) xs) h in
    (value-sound boxes known nothing (nothing-sound boxes known) one x env c a.0, all-sound boxes known one xs env c a.1)

-- the cell at a place of keys and then aggregates
pub group-cell : (test : Term → Bool) (f g : Term → Cell) (P : Cell → Type 0) (j : ℕ) (head : List Term) (k : ℕ) → at_place test head k ≡ true
    → (k ≤ j → (x : Term) → In x head → test x ≡ true → P (f x)) → (j < k → (x : Term) → In x head → test x ≡ true → P (g x)) → P (cell_of k (map f (take j head) ++ map g (drop j head)))
group-cell test f g P j head zero h a b = absurd (let z : ⊥ = cc in z)
group-cell test f g P j [] (suc k) h a b = absurd (let z : ⊥ = cc in z)
group-cell test f g P zero (x ∷ xs) (suc zero) h a b = b (omega (arith)) x (inl refl) h
group-cell test f g P (suc j) (x ∷ xs) (suc zero) h a b = a (omega (arith)) x (inl refl) h
group-cell test f g P zero (x ∷ xs) (suc (suc k)) h a b = group-cell test f g P zero xs (suc k) h (λ l. absurd (let z : ⊥ = omega (arith, l) in z)) (λ l y i. b (omega (arith)) y (inr i))
group-cell test f g P (suc j) (x ∷ xs) (suc (suc k)) h a b = group-cell test f g P j xs (suc k) h (λ l y i. a (omega (arith, l)) y (inr i)) (λ l y i. b (omega (arith, l)) y (inr i))

module _ (boxes : List Node) (known : Facts) (q : ℕ) (head : List Term) (env : Environment) (rows : Bag) where
  -- with the rows of the group's quantifier, what is known of columns holds
  module _ (columns : (cells : List Cell) → occurs cells rows ≡ true → SoundColumns boxes known (bound q cells env)) where
    -- ---- errors

    pub no-key-error : (k : ℕ) → EachClean rows → list_all (is_free boxes known false) (take k head) ≡ true → error_among (λ cells. error_in (key_cells k head q env cells)) rows ≡ None
    no-key-error k c h =
        none-among (λ cells. error_in (key_cells k head q env cells)) rows c
        (each-occurs (λ cells. error_in (key_cells k head q env cells) ≡ None) rows (λ cells o. none-in (key_cells k head q env cells) (all-sound boxes known false (take k head) (bound q cells env) (columns cells o) h)))

    -- ---- an aggregate

    -- of rows that are among those of the quantifier
    pub fold-sound : (one : Bool) (members : Bag) → EachClean members → ((cells : List Cell) → occurs cells members ≡ true → occurs cells rows ≡ true) → (one ≡ true → how_many members ≤ 1)
        → (x : Term) → is_free boxes known one x ≡ true → is_sound (fold_cell q env members x) ≡ true
    fold-sound one members c i m count_all h = rows-counted members
    fold-sound one members c i m (fold f d x) h =
        let a = and_parts (fold_free one f) (is_free boxes known one x) h in
        folded-sound one f (taken_of d) (bind members (λ cells. unit (value nothing x (bound q cells env)))) a.0
        (arguments-clean members c) (arguments-sound members (each-occurs (λ cells. is_sound (value nothing x (bound q cells env)) ≡ true) members (λ cells o. value-sound boxes known nothing (nothing-sound boxes known) one x (bound q cells env) (columns cells (i cells o)) a.1)))
        (λ t. let n = arguments-many members in omega (arith, n, m t))
      where
        arguments-clean : (members : Bag) → EachClean members → Each (λ r. error_at r.level ≡ None) (bind members (λ cells. unit (value nothing x (bound q cells env))))
        arguments-clean [] c = tt
        arguments-clean (r ∷ members) c = (ap error_at (least-yes r.level) ∙ c.0, arguments-clean members c.1)

        arguments-sound : (members : Bag) → EachThere (λ cells. is_sound (value nothing x (bound q cells env)) ≡ true) members → SoundCells (bind members (λ cells. unit (value nothing x (bound q cells env))))
        arguments-sound [] h = tt
        arguments-sound (r ∷ members) h = ((λ t. h.0 (there-as (least r.level Yes) r.level (least-yes r.level) (value nothing x (bound q r.cells env)) r.cells t)), arguments-sound members h.1)

        arguments-many : (members : Bag) → how_many (bind members (λ cells. unit (value nothing x (bound q cells env)))) ≡ how_many members
        arguments-many [] = refl
        arguments-many (r ∷ members) = ap₂ (λ a b. a + b) (many-as (least r.level Yes) r.level (least-yes r.level) (value nothing x (bound q r.cells env)) r.cells) (arguments-many members)
    fold-sound one members c i m (int n) h = refl
    fold-sound one members c i m (text s) h = refl
    fold-sound one members c i m null_int h = refl
    fold-sound one members c i m null_text h = refl
    fold-sound one members c i m (col r k) h = refl
    fold-sound one members c i m (both o x y) h = refl
    fold-sound one members c i m (minus_of x) h = refl
    fold-sound one members c i m (choose s x) h = refl
    fold-sound one members c i m (scalar r) h = refl

    -- ---- the rows of the groups

    -- those of a group are among the rows, and as clean
    of-key : (key : List Cell → List Cell) (k : List Cell) → EachThere (λ cells. occurs cells rows ≡ true) (of_group same_cells key k rows)
    of-key key k = each-bind (λ cells. occurs cells rows ≡ true) rows (λ c. cond (same_cells (key c) k) (unit c) []) (λ c o. one (same_cells (key c) k) c o)
      where
        one : (b : Bool) (c : List Cell) → occurs c rows ≡ true → EachThere (λ cells. occurs cells rows ≡ true) (cond b (unit c) [])
        one true c o = ((λ _. o), tt)
        one false c o = tt

    of-key-clean : (key : List Cell → List Cell) (k : List Cell) → EachClean rows → EachClean (of_group same_cells key k rows)
    of-key-clean key k c = clean-bind rows (λ c. cond (same_cells (key c) k) (unit c) []) c (λ c o. one (same_cells (key c) k) c)
      where
        one : (b : Bool) (c : List Cell) → EachClean (cond b (unit c) [])
        one true c = (refl, tt)
        one false c = tt

    of-key-single : (key : List Cell → List Cell) (k : List Cell) → HasAtMostOne rows → HasAtMostOne (of_group same_cells key k rows)
    of-key-single key k m = bind-one 1 rows (λ c. cond (same_cells (key c) k) (unit c) []) m (λ c o. one (same_cells (key c) k) c)
      where
        one : (b : Bool) (c : List Cell) → how_many (cond b (unit c) []) ≤ 1
        one true c = omega (arith)
        one false c = omega (arith)

    -- what holds of each cell at a place holds of that of each group, over clean rows
    pub group-each : (test : Term → Bool) (P : Cell → Type 0) (k place : ℕ) → at_place test head place ≡ true
        → (place ≤ k → (cells : List Cell) → occurs cells rows ≡ true → (x : Term) → In x head → test x ≡ true → P (value nothing x (bound q cells env)))
        → (k < place → (members : Bag) → EachClean members → ((cells : List Cell) → occurs cells members ≡ true → occurs cells rows ≡ true) → (HasAtMostOne rows → HasAtMostOne members) → (x : Term) → In x head → test x ≡ true → P (fold_cell q env members x))
        → EachClean rows → EachThere (λ cells. P (cell_of place cells)) (groups k head q env rows)
    group-each test P zero place h f g c = ((λ _. group-cell test (λ x. Null) (fold_cell q env rows) P 0 head place h (λ l. absurd (below place h l)) (λ l x i t. g l rows c (λ cells o. o) (λ m. m) x i t)), tt)
      where
        below : (place : ℕ) → at_place test head place ≡ true → place ≤ 0 → ⊥
        below zero h l = cc
        below (suc place) h l = omega (arith, l)
    group-each test P (suc k) place h f g c =
        each-bind (λ cells. P (cell_of place cells)) (once same_cells keys) (λ key. unit (key ++ fold_cells (suc k) head q env (of_group same_cells (key_cells (suc k) head q env) key rows)))
        (λ key o. ((λ _. made key (occurs-each IsKeyOf keys (each-bind IsKeyOf rows (λ c. unit (key_cells (suc k) head q env c)) (λ c o. ((λ _. (c, (o, refl))), tt))) key (occurs-once key keys o))), tt))
      where
        keys : Bag
        keys = bind rows (λ c. unit (key_cells (suc k) head q env c))

        IsKeyOf : List Cell → Type 0
        IsKeyOf key = (c : List Cell) × ((occurs c rows ≡ true) × (key ≡ key_cells (suc k) head q env c))

        made : (key : List Cell) → IsKeyOf key → P (cell_of place (key ++ fold_cells (suc k) head q env (of_group same_cells (key_cells (suc k) head q env) key rows)))
        made key w =
            let members : Bag = of_group same_cells (key_cells (suc k) head q env) key rows in
            subst (λ (front : List Cell). P (cell_of place (front ++ fold_cells (suc k) head q env members))) (sym w.1.1)
            (group-cell test (λ x. value nothing x (bound q w.0 env)) (fold_cell q env members) P (suc k) head place h (λ l x i t. f l w.0 w.1.0 x i t)
            (λ l x i t. g l members (of-key-clean (key_cells (suc k) head q env) key c) (λ cells o. occurs-each (λ cells. occurs cells rows ≡ true) members (of-key (key_cells (suc k) head q env) key) cells o) (of-key-single (key_cells (suc k) head q env) key) x i t))
