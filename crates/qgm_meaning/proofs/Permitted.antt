-- A select may be PERMIT where its rows are read by some and every alone.
use Rattle.std.proofs.Common.{ℕ, ◌==◌, ◌≡◌, cond, Bool, true, false, List, [], ◌∷◌, Option, Some, refl, subst}
use Rattle.row_bag.specs.AsSets.{AgreeAsSets, is_clean}
use Rattle.row_bag.proofs.Setting.{set-agreement, sets-from_alike, sets-sym}
use Rattle.row_bag.specs.Sets.{same_cells}
use Rattle.row_bag.specs.declared.tables.Table.{Table}
use Rattle.row_bag.proofs.Agreement.{alike-refl}
use Rattle.row_bag.proofs.TupleBags.{same_cells-decides}
use Rattle.qgm_core.specs.Boxes.{QueryGraph, Ordered, box_of, has_box, is_box}
use Rattle.qgm_core.specs.Kinds.{is_enforce}
use Rattle.list_laws.specs.Lists.{first}
use Rattle.qgm_core.specs.declared.kinds.Distinct.{Distinct}
use Rattle.qgm_core.specs.declared.kinds.Distinct.TheVariants.{Permit}
use Rattle.qgm_core.specs.declared.node.Node.{Node}
use Rattle.qgm_core.specs.declared.owned.OwnedQuant.{OwnedQuant}
use Rattle.qgm_core.specs.declared.parts.BoxParts.{BoxParts}
use Rattle.qgm_meaning.specs.AsSets.{AgreeAs, AllReadSets, ReadsSets, SelectReadsSets}
use Rattle.qgm_meaning.specs.Fits.{fits}
use Rattle.qgm_meaning.specs.Keys.{DistinctPermitted}
use Rattle.qgm_meaning.specs.Meaning.{bag, given_by, once_if, over_each, quant_rows, rows_of}
use Rattle.qgm_meaning.specs.Rules.{selecting}
use Rattle.qgm_meaning.specs.Values.{Bag, Environment}
use Rattle.qgm_terms.specs.Terms.{Cond, Term}
use Rattle.qgm_meaning.proofs.AsSets.{replaced-as_set}
use Rattle.qgm_meaning.proofs.Fitting.{hereditary}
use Rattle.qgm_meaning.proofs.ScalarJoined.{stays-of}

reads-of : (sets : ℕ → Bool) (ns : List Node) (b : ℕ) (n : Node) → AllReadSets sets ns → first (is_box b) ns ≡ Some n → ReadsSets sets n
reads-of sets [] b n r h = absurd (let z : ⊥ = cc in z)
reads-of sets (m ∷ ns) b n r h =
    elim (m.id == b) as (λ t. ◌≡◌ {A = Option Node} (cond t (Some m) (first (is_box b) ns)) (Some n) → ReadsSets sets n) [
      | true ↦ λ h. (let same : m ≡ n = cc in subst (λ (z : Node). ReadsSets sets z) same r.0)
      | false ↦ λ h. reads-of sets ns b n r.1 h
    ] h

-- rows that are clean, with DISTINCT or without
as-set : (once : Bool) (rows : Bag) → is_clean rows ≡ true → AgreeAsSets same_cells rows (once_if once rows)
as-set true rows h = sets-sym same_cells ((set-agreement same_cells same_cells-decides).of_distinct rows h)
as-set false rows h = sets-from_alike same_cells same_cells-decides rows rows h (alike-refl rows)

module _ (tables : List Table) (g : QueryGraph) (b : ℕ) (p : BoxParts) (d : Distinct) (conds : List Cond) (head : List Term) (quants : List OwnedQuant) where
  abbrev n : Node
  n = selecting b p d conds head quants

  abbrev m : Node
  m = selecting b p Permit conds head quants

  same-reads : SelectReadsSets (λ x. x == b) n → SelectReadsSets (λ x. x == b) m
  same-reads r = record { rows = r.rows; cells = r.cells; conditions = r.conditions }

  permitted : Ordered g.boxes → box_of b g ≡ Some n → AllReadSets (λ x. x == b) g.boxes
      → ((env : Environment) → fits (bag tables g) g.boxes env ≡ true → is_clean (rows_of tables m (bag tables g) env) ≡ true)
      → (x : ℕ) → has_box g.boxes x ≡ true → (env : Environment) → fits (bag tables g) g.boxes env ≡ true
      → AgreeAs (x == b) (bag tables (Rattle.qgm_meaning.specs.Replace.replace b m g) x env) (bag tables g x env)
  permitted o held reads clean x hx env fit =
      replaced-as_set tables g (fits (bag tables g) g.boxes) b n m o held refl (λ ks h. h) reads (same-reads (reads-of (λ x. x == b) g.boxes b n reads held)) (hereditary (bag tables g) g.boxes)
      (stays-of (fits (bag tables g) g.boxes) (bag tables g) g.boxes b n (hereditary (bag tables g) g.boxes) held)
      (λ env fit. as-set (is_enforce d) (over_each quants (quant_rows n (bag tables g)) (given_by (quant_rows n (bag tables g)) n) env) (clean env fit))
      x hx env fit

pub distinct-permitted : DistinctPermitted
distinct-permitted = λ tables g b p d conds head quants o held reads clean x hx env fit. permitted tables g b p d conds head quants o held reads clean x hx env fit
