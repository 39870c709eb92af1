-- What two rules stand on: the bags that a box gives before and after.
use Rattle.std.specs.Prelude.{ℕ, ◌≡◌, ◌++◌, true, false, List, [], ◌∷◌, map, Some}
use Rattle.std.specs.List.{list_any}
pub use Rattle.row_bag.specs.Filters.{passing}
use Rattle.row_bag.specs.Bags.{Agree, unit}
use Rattle.row_bag.specs.Sets.{same_cells}
use Rattle.row_bag.specs.declared.tables.Table.{Table}
use Rattle.sql_value.specs.declared.cell.Cell.{Cell}
use Rattle.qgm_core.specs.declared.kinds.QuantKind.{QuantKind}
use Rattle.qgm_core.specs.declared.kinds.Distinct.{Distinct}
use Rattle.qgm_core.specs.declared.parts.BoxParts.{BoxParts}
use Rattle.qgm_core.specs.declared.node.Node.{Node}
use Rattle.qgm_core.specs.declared.owned.OwnedQuant.{OwnedQuant}
use Rattle.qgm_core.specs.declared.kinds.QuantKind.TheVariants.{E, F, S}
use Rattle.qgm_core.specs.declared.kinds.BoxKind.TheVariants.{Select}
use Rattle.qgm_core.specs.declared.kinds.Distinct.TheVariants.{Enforce}
use Rattle.qgm_core.specs.Boxes.{QueryGraph, Ordered, box_of, has_box, is_quant}
use Rattle.qgm_meaning.specs.Replace.{replace}
use Rattle.qgm_meaning.specs.Meaning.{Family, bag, rows_by}
use Rattle.qgm_meaning.specs.Fits.{fits}
use Rattle.qgm_meaning.specs.Scope.{loose}
use Rattle.qgm_terms.specs.Terms.{Term, Cond, some}
use Rattle.qgm_meaning.specs.Searches.{as_column, as_column_cond, binds, binds_cond}
use Rattle.qgm_terms.specs.Wanted.{reads, reads_cond}
use Rattle.qgm_meaning.specs.Values.{Environment, bound}

-- a select with these conditions, head and quantifiers, of what else p has
abbrev pub selecting : ℕ → BoxParts → Distinct → List Cond → List Term → List OwnedQuant → Node
selecting b p d conds head quants = record { id = b; parts = record p { kind = Select; distinct = d; conds = record p.conds { items = conds }; head = head }; quants = quants }

-- the quantifier i over box b, as one of these kinds
abbrev pub as_E : ℕ → ℕ → OwnedQuant
as_E i b = record { id = i; kind = E; over = b }

abbrev pub as_Q : QuantKind → ℕ → ℕ → OwnedQuant
as_Q k i b = record { id = i; kind = k; over = b }

abbrev pub as_F : ℕ → ℕ → OwnedQuant
as_F i b = record { id = i; kind = F; over = b }

-- U1: the whole conjunct `(some i c)` becomes c, and i an F quantifier at the end, under DISTINCT; nothing else reads i, and nothing below looks it up
abbrev pub Joins : Type 0
Joins =
    (tables : List Table) (s : Family) (b : ℕ) (p : BoxParts) (us vs : List OwnedQuant) (i over : ℕ) (xs ys : List Cond) (c : Cond) (head : List Term) (env : Environment)
    → list_any (reads i) head ≡ false → list_any (reads_cond i) xs ≡ false → list_any (reads_cond i) ys ≡ false
    → ((q : ℕ) (cells : List Cell) (env : Environment) → s q (bound i cells env) ≡ s q env)
    → Agree same_cells
    (rows_by Select tables (selecting b p Enforce (xs ++ some i c ∷ ys) head (us ++ as_E i over ∷ vs)) s env)
    (rows_by Select tables (selecting b p Enforce (xs ++ c ∷ ys) head ((us ++ vs) ++ as_F i over ∷ [])) s env)

-- ---- U1 on a graph

abbrev pub exists_box : ℕ → BoxParts → List OwnedQuant → ℕ → ℕ → List OwnedQuant → List Cond → Cond → List Cond → List Term → Node
exists_box b p us i over vs xs c ys head = selecting b p Enforce (xs ++ some i c ∷ ys) head (us ++ as_E i over ∷ vs)

abbrev pub join_box : ℕ → BoxParts → List OwnedQuant → ℕ → ℕ → List OwnedQuant → List Cond → Cond → List Cond → List Term → Node
join_box b p us i over vs xs c ys head = selecting b p Enforce (xs ++ c ∷ ys) head ((us ++ vs) ++ as_F i over ∷ [])

-- a box whose number for i stands once, and that doesn't look i up itself, may join; all bags of the graph agree
abbrev pub ExistsJoins : Type 0
ExistsJoins =
    (tables : List Table) (g : QueryGraph) (b : ℕ) (p : BoxParts) (us : List OwnedQuant) (i over : ℕ) (vs : List OwnedQuant) (xs : List Cond) (c : Cond) (ys : List Cond) (head : List Term)
    → Ordered g.boxes → box_of b g ≡ Some (exists_box b p us i over vs xs c ys head)
    → list_any (is_quant i) us ≡ false → list_any (is_quant i) vs ≡ false → loose g.boxes b i ≡ false
    → (x : ℕ) → has_box g.boxes x ≡ true → (env : Environment) → Agree same_cells (bag tables (replace b (join_box b p us i over vs xs c ys head) g) x env) (bag tables g x env)

-- ---- U3 on a graph

abbrev pub scalar_box : ℕ → BoxParts → Distinct → List OwnedQuant → ℕ → ℕ → List OwnedQuant → List Cond → List Term → Node
scalar_box b p d us i over vs conds head = selecting b p d conds head (us ++ as_Q S i over ∷ vs)

abbrev pub column_box : ℕ → BoxParts → Distinct → List OwnedQuant → ℕ → ℕ → List OwnedQuant → List Cond → List Term → Node
column_box b p d us i over vs conds head =
    selecting b p d (map (as_column_cond i) conds) (map (as_column i) head) ((us ++ vs) ++ as_F i over ∷ [])

-- i ranges over a box that has one clean row in each environment that fits
abbrev pub ScalarJoins : Type 0
ScalarJoins =
    (tables : List Table) (g : QueryGraph) (b : ℕ) (p : BoxParts) (d : Distinct) (us : List OwnedQuant) (i over : ℕ) (vs : List OwnedQuant) (conds : List Cond) (head : List Term) (row : Environment → List Cell)
    → Ordered g.boxes → box_of b g ≡ Some (scalar_box b p d us i over vs conds head)
    → list_any (is_quant i) us ≡ false → list_any (is_quant i) vs ≡ false → loose g.boxes b i ≡ false
    → list_any (binds i) head ≡ false → list_any (binds_cond i) conds ≡ false
    → ((env : Environment) → fits (bag tables g) g.boxes env ≡ true → Agree same_cells (bag tables g over env) (unit (row env)))
    → (x : ℕ) → has_box g.boxes x ≡ true → (env : Environment) → fits (bag tables g) g.boxes env ≡ true
    → Agree same_cells (bag tables (replace b (column_box b p d us i over vs conds head) g) x env) (bag tables g x env)
