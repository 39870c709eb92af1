-- DISTINCT over a key goes.
use Rattle.std.proofs.Common.{ℕ, ◌≡◌, true, List, Some}
use Rattle.row_bag.specs.Keys.{HasKey, cells_at}
use Rattle.row_bag.proofs.Keying.{key-once}
use Rattle.row_bag.specs.Bags.{Agree}
use Rattle.row_bag.specs.Sets.{same_cells}
use Rattle.row_bag.specs.declared.tables.Table.{Table}
use Rattle.row_bag.proofs.Agreement.{alike-sym}
use Rattle.row_bag.proofs.Counts.{agree-from_alike}
use Rattle.row_bag.proofs.GreatestLevels.{distinct-once}
use Rattle.row_bag.proofs.TupleBags.{same_cells-decides}
use Rattle.qgm_core.specs.Boxes.{QueryGraph, Ordered, box_of, has_box}
use Rattle.qgm_core.specs.declared.kinds.Distinct.TheVariants.{Enforce, Preserve}
use Rattle.qgm_core.specs.declared.node.Node.{Node}
use Rattle.qgm_core.specs.declared.owned.OwnedQuant.{OwnedQuant}
use Rattle.qgm_core.specs.declared.parts.BoxParts.{BoxParts}
use Rattle.qgm_meaning.specs.Fits.{fits}
use Rattle.qgm_meaning.specs.Meaning.{bag, rows_of}
use Rattle.qgm_meaning.specs.Replace.{replace}
use Rattle.qgm_meaning.specs.Rules.{selecting}
use Rattle.qgm_meaning.specs.Values.{Environment}
use Rattle.qgm_terms.specs.Terms.{Cond, Term}
use Rattle.qgm_meaning.proofs.Fitting.{hereditary}
use Rattle.qgm_meaning.proofs.Replacing.{replaced}
use Rattle.qgm_meaning.proofs.ScalarJoined.{stays-of}

pub distinct-goes : (tables : List Table) (g : QueryGraph) (b : ℕ) (p : BoxParts) (conds : List Cond) (head : List Term) (quants : List OwnedQuant) (columns : List ℕ)
    → Ordered g.boxes → box_of b g ≡ Some (selecting b p Enforce conds head quants)
    → ((env : Environment) → fits (bag tables g) g.boxes env ≡ true → HasKey columns (rows_of tables (selecting b p Preserve conds head quants) (bag tables g) env))
    → (x : ℕ) → has_box g.boxes x ≡ true → (env : Environment) → fits (bag tables g) g.boxes env ≡ true
    → Agree same_cells (bag tables (replace b (selecting b p Preserve conds head quants) g) x env) (bag tables g x env)
distinct-goes tables g b p conds head quants columns o held key x hx env fit =
    replaced tables g (fits (bag tables g) g.boxes) b n m o held refl_id (λ ks h. h) (hereditary (bag tables g) g.boxes) (stays-of (fits (bag tables g) g.boxes) (bag tables g) g.boxes b n (hereditary (bag tables g) g.boxes) held)
    (λ env fit. agree-from_alike same_cells (alike-sym (distinct-once same_cells same_cells-decides (rows_of tables m (bag tables g) env)
    (key-once same_cells same_cells-decides same_cells same_cells-decides (cells_at columns) (rows_of tables m (bag tables g) env) (key env fit)))))
    x hx env fit
  where
    n : Node
    n = selecting b p Enforce conds head quants

    m : Node
    m = selecting b p Preserve conds head quants

    refl_id : m.id ≡ b
    refl_id = Rattle.std.proofs.Common.refl
