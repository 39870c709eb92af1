-- What is inferred of a graph in which the check finds nothing holds where evaluation looks.
use Rattle.std.proofs.Common.{ℕ, ◌≡◌, true, List, None, Some}
use Rattle.row_bag.specs.declared.tables.Table.{Table}
use Rattle.qgm_core.specs.Boxes.{QueryGraph, box_of, is_box, numbers}
use Rattle.list_laws.specs.Lists.{EachOnce, In}
use Rattle.qgm_core.specs.declared.node.Node.{Node}
use Rattle.qgm_wellformed.specs.WellFormed.{fault}
use Rattle.qgm_meaning.specs.Fits.{fits}
use Rattle.qgm_meaning.specs.Meaning.{bag_in}
use Rattle.qgm_meaning.specs.Satisfies.{Satisfies}
use Rattle.qgm_meaning.specs.Values.{Environment}
use Rattle.qgm_props.specs.Laws.{FactsThere}
use Rattle.qgm_props.proofs.FactsFit.{facts-fit}
use Rattle.qgm_edit_laws.proofs.Levels.{some-in}
use Rattle.qgm_edit_laws.proofs.CheckedParts.{sound}
use Rattle.rule_facts.proofs.Premises.{premises}

module _ (g : QueryGraph) (u : EachOnce (numbers g.boxes)) (f : fault g ≡ None) where
  pub there : (tables : List Table) → Satisfies tables g.boxes → (env : Environment) → fits (bag_in tables g.boxes) g.boxes env ≡ true → FactsThere tables g.boxes env
  there tables s env fit = facts-fit tables g.boxes (premises g.boxes g.root (sound g u f) tables s) env fit

  pub here-at : (b : Node) (n : ℕ) → box_of n g ≡ Some b → In b g.boxes
  here-at b n h = (some-in (is_box n) g.boxes b h).0
