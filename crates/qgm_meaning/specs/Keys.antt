-- DISTINCT that goes: over a key, and where E and A quantifiers alone range over a box.
use Rattle.std.specs.Prelude.{ℕ, ◌≡◌, ◌==◌, true, List, Some}
use Rattle.row_bag.specs.AsSets.{is_clean}
use Rattle.row_bag.specs.Keys.{HasKey}
use Rattle.row_bag.specs.Bags.{Agree}
use Rattle.row_bag.specs.Sets.{same_cells}
use Rattle.row_bag.specs.declared.tables.Table.{Table}
use Rattle.qgm_core.specs.Boxes.{QueryGraph, Ordered, box_of, has_box}
use Rattle.qgm_core.specs.declared.kinds.Distinct.{Distinct}
use Rattle.qgm_core.specs.declared.kinds.Distinct.TheVariants.{Enforce, Preserve, Permit}
use Rattle.qgm_core.specs.declared.owned.OwnedQuant.{OwnedQuant}
use Rattle.qgm_core.specs.declared.parts.BoxParts.{BoxParts}
use Rattle.qgm_meaning.specs.AsSets.{AgreeAs, AllReadSets}
use Rattle.qgm_meaning.specs.Fits.{fits}
use Rattle.qgm_meaning.specs.Meaning.{bag, rows_of}
use Rattle.qgm_meaning.specs.Replace.{replace}
use Rattle.qgm_meaning.specs.Rules.{selecting}
use Rattle.qgm_meaning.specs.Values.{Environment}
use Rattle.qgm_terms.specs.Terms.{Cond, Term}

-- L1: an ENFORCE select, whose rows as PRESERVE have a key in each environment that fits, may be PRESERVE: all bags agree
abbrev pub DistinctGoes : Type 0
DistinctGoes =
    (tables : List Table) (g : QueryGraph) (b : ℕ) (p : BoxParts) (conds : List Cond) (head : List Term) (quants : List OwnedQuant) (columns : List ℕ)
    → Ordered g.boxes → box_of b g ≡ Some (selecting b p Enforce conds head quants)
    → ((env : Environment) → fits (bag tables g) g.boxes env ≡ true → HasKey columns (rows_of tables (selecting b p Preserve conds head quants) (bag tables g) env))
    → (x : ℕ) → has_box g.boxes x ≡ true → (env : Environment) → fits (bag tables g) g.boxes env ≡ true
    → Agree same_cells (bag tables (replace b (selecting b p Preserve conds head quants) g) x env) (bag tables g x env)

-- L2: a select whose rows are read by some and every alone, and are clean as those of PERMIT in each environment that fits, may be PERMIT: all other bags agree, and its own as sets
abbrev pub DistinctPermitted : Type 0
DistinctPermitted =
    (tables : List Table) (g : QueryGraph) (b : ℕ) (p : BoxParts) (d : Distinct) (conds : List Cond) (head : List Term) (quants : List OwnedQuant)
    → Ordered g.boxes → box_of b g ≡ Some (selecting b p d conds head quants) → AllReadSets (λ x. x == b) g.boxes
    → ((env : Environment) → fits (bag tables g) g.boxes env ≡ true → is_clean (rows_of tables (selecting b p Permit conds head quants) (bag tables g) env) ≡ true)
    → (x : ℕ) → has_box g.boxes x ≡ true → (env : Environment) → fits (bag tables g) g.boxes env ≡ true
    → AgreeAs (x == b) (bag tables (replace b (selecting b p Permit conds head quants) g) x env) (bag tables g x env)
