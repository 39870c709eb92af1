-- EXISTS as a join where nothing makes the rows distinct.
use Rattle.std.specs.Prelude.{ℕ, ◌≡◌, ◌==◌, ◌≤◌, ◌++◌, Bool, true, false, List, [], ◌∷◌, Some}
use Rattle.std.specs.List.{list_any}
use Rattle.row_bag.specs.AsSets.{is_clean}
use Rattle.row_bag.specs.Bags.{Agree}
use Rattle.row_bag.specs.Joins.{how_many}
use Rattle.row_bag.specs.Sets.{SameLevels, same_cells}
use Rattle.row_bag.specs.declared.tables.Table.{Table}
use Rattle.sql_value.specs.declared.cell.Cell.{Cell}
use Rattle.qgm_core.specs.Boxes.{QueryGraph, Ordered, box_of, has_box, is_quant}
use Rattle.qgm_core.specs.declared.node.Node.{Node}
use Rattle.qgm_core.specs.declared.kinds.BoxKind.TheVariants.{Select}
use Rattle.qgm_core.specs.declared.kinds.Distinct.{Distinct}
use Rattle.qgm_core.specs.declared.owned.OwnedQuant.{OwnedQuant}
use Rattle.qgm_core.specs.declared.parts.BoxParts.{BoxParts}
use Rattle.qgm_meaning.specs.AsSets.{AgreeAs, AllReadSets, ReadsSets}
use Rattle.qgm_meaning.specs.Fits.{fits}
use Rattle.qgm_meaning.specs.Laws.{Stays}
use Rattle.qgm_meaning.specs.Meaning.{Family, bag, rows_by, rows_of}
use Rattle.qgm_meaning.specs.Replace.{replace}
use Rattle.qgm_meaning.specs.Scope.{loose}
use Rattle.qgm_meaning.specs.Rules.{as_E, as_F, selecting}
use Rattle.qgm_meaning.specs.Values.{Environment, bound}
use Rattle.qgm_terms.specs.Terms.{Cond, Term, some}
use Rattle.qgm_terms.specs.Wanted.{reads, reads_cond}

-- nothing beside the conjunct `(some i c)` reads i, and nothing below looks it up
pub record Unread (s : Family) (i : ℕ) (xs ys : List Cond) (head : List Term) : Type 0 where
  pub cells : list_any (reads i) head ≡ false
  pub before : list_any (reads_cond i) xs ≡ false
  pub behind : list_any (reads_cond i) ys ≡ false
  pub below : (q : ℕ) (cells : List Cell) (env : Environment) → s q (bound i cells env) ≡ s q env

-- U1 at any distinctness: each tuple has the same greatest level; so rows without error levels agree as sets
abbrev pub JoinsLevels : Type 0
JoinsLevels =
    (tables : List Table) (s : Family) (b : ℕ) (p : BoxParts) (d : Distinct) (us vs : List OwnedQuant) (i over : ℕ) (xs ys : List Cond) (c : Cond) (head : List Term) (env : Environment) → Unread s i xs ys head
    → SameLevels same_cells
    (rows_by Select tables (selecting b p d (xs ++ some i c ∷ ys) head (us ++ as_E i over ∷ vs)) s env)
    (rows_by Select tables (selecting b p d (xs ++ c ∷ ys) head ((us ++ vs) ++ as_F i over ∷ [])) s env)

-- U1 over a box of at most one row, in the environments that pass: the rows agree
abbrev pub JoinsOfOne : Type 0
JoinsOfOne =
    (tables : List Table) (s : Family) (b : ℕ) (p : BoxParts) (d : Distinct) (us vs : List OwnedQuant) (i over : ℕ) (xs ys : List Cond) (c : Cond) (head : List Term) (passes : Environment → Bool) → Unread s i xs ys head
    → Stays passes s (us ++ vs) → ((env : Environment) → passes env ≡ true → how_many (s i env) ≤ 1) → (env : Environment) → passes env ≡ true
    → Agree same_cells
    (rows_by Select tables (selecting b p d (xs ++ some i c ∷ ys) head (us ++ as_E i over ∷ vs)) s env)
    (rows_by Select tables (selecting b p d (xs ++ c ∷ ys) head ((us ++ vs) ++ as_F i over ∷ [])) s env)

-- the box with the conjunct `(some i c)`, and the one in which i is an F quantifier at the end and c the conjunct
abbrev pub some_box : ℕ → BoxParts → Distinct → List OwnedQuant → ℕ → ℕ → List OwnedQuant → List Cond → Cond → List Cond → List Term → Node
some_box b p d us i over vs xs c ys head = selecting b p d (xs ++ some i c ∷ ys) head (us ++ as_E i over ∷ vs)

abbrev pub each_box : ℕ → BoxParts → Distinct → List OwnedQuant → ℕ → ℕ → List OwnedQuant → List Cond → Cond → List Cond → List Term → Node
each_box b p d us i over vs xs c ys head = selecting b p d (xs ++ c ∷ ys) head ((us ++ vs) ++ as_F i over ∷ [])

-- U1 on a graph, where i ranges over a box of at most one row in each environment that fits: all bags agree
abbrev pub ExistsJoinsOfOne : Type 0
ExistsJoinsOfOne =
    (tables : List Table) (g : QueryGraph) (b : ℕ) (p : BoxParts) (d : Distinct) (us : List OwnedQuant) (i over : ℕ) (vs : List OwnedQuant) (xs : List Cond) (c : Cond) (ys : List Cond) (head : List Term)
    → Ordered g.boxes → box_of b g ≡ Some (some_box b p d us i over vs xs c ys head)
    → list_any (is_quant i) us ≡ false → list_any (is_quant i) vs ≡ false → loose g.boxes b i ≡ false
    → ((env : Environment) → fits (bag tables g) g.boxes env ≡ true → how_many (bag tables g over env) ≤ 1)
    → (x : ℕ) → has_box g.boxes x ≡ true → (env : Environment) → fits (bag tables g) g.boxes env ≡ true
    → Agree same_cells (bag tables (replace b (each_box b p d us i over vs xs c ys head) g) x env) (bag tables g x env)

-- U1 on a graph at a box whose rows are read by some and every alone, and are clean before and after: all other bags agree, and its own as sets
abbrev pub ExistsJoinsAsSet : Type 0
ExistsJoinsAsSet =
    (tables : List Table) (g : QueryGraph) (b : ℕ) (p : BoxParts) (d : Distinct) (us : List OwnedQuant) (i over : ℕ) (vs : List OwnedQuant) (xs : List Cond) (c : Cond) (ys : List Cond) (head : List Term)
    → Ordered g.boxes → box_of b g ≡ Some (some_box b p d us i over vs xs c ys head)
    → list_any (is_quant i) us ≡ false → list_any (is_quant i) vs ≡ false → loose g.boxes b i ≡ false
    → AllReadSets (λ x. x == b) g.boxes → ReadsSets (λ x. x == b) (each_box b p d us i over vs xs c ys head)
    → ((env : Environment) → fits (bag tables g) g.boxes env ≡ true → is_clean (rows_of tables (some_box b p d us i over vs xs c ys head) (bag tables g) env) ≡ true)
    → ((env : Environment) → fits (bag tables g) g.boxes env ≡ true → is_clean (rows_of tables (each_box b p d us i over vs xs c ys head) (bag tables g) env) ≡ true)
    → (x : ℕ) → has_box g.boxes x ≡ true → (env : Environment) → fits (bag tables g) g.boxes env ≡ true
    → AgreeAs (x == b) (bag tables (replace b (each_box b p d us i over vs xs c ys head) g) x env) (bag tables g x env)
