-- A PERMIT box whose rows come to count becomes PRESERVE.
use Rattle.std.specs.Prelude.{ℕ, ◌≡◌, ◌==◌, if◌then◌else◌, Bool, false, List, Option, None, Some}
use Rattle.row_bag.specs.declared.tables.Table.{Table}
use Rattle.qgm_core.specs.Boxes.{QueryGraph, box_of, numbers}
use Rattle.qgm_core.specs.Edits.{set_distinct}
use Rattle.qgm_core.specs.Kinds.{is_permit}
use Rattle.list_laws.specs.Lists.{EachOnce, In}
use Rattle.qgm_core.specs.declared.kinds.Distinct.TheVariants.{Preserve}
use Rattle.qgm_core.specs.declared.node.Node.{Node}
use Rattle.qgm_wellformed.specs.WellFormed.{fault}
use Rattle.qgm_meaning.specs.Satisfies.{Satisfies}
use Rattle.qgm_meaning.specs.Fits.{fits}
use Rattle.qgm_meaning.specs.Meaning.{bag_in}
use Rattle.qgm_meaning.specs.Values.{Environment}

abbrev pub permit_found : Option Node → Bool
permit_found None = false
permit_found (Some n) = is_permit n.parts.distinct

-- the box of this number is PRESERVE, if it was PERMIT
abbrev pub permit_to_preserve : ℕ → QueryGraph → QueryGraph
permit_to_preserve b g = if permit_found (box_of b g) then set_distinct b Preserve g else g

-- the check finds nothing after it; all bags stay row by row, the same tables satisfy the bases, and the same environments fit
pub record PermitToPreserveKeeps (b : ℕ) (g : QueryGraph) : Type 0 where
  pub once : EachOnce (numbers (permit_to_preserve b g).boxes)
  pub formed : fault (permit_to_preserve b g) ≡ None
  pub root : (permit_to_preserve b g).root ≡ g.root
  pub names : (permit_to_preserve b g).names ≡ g.names
  pub order : (permit_to_preserve b g).order ≡ g.order
  pub bases : (tables : List Table) → Satisfies tables g.boxes → Satisfies tables (permit_to_preserve b g).boxes
  pub back : (tables : List Table) → Satisfies tables (permit_to_preserve b g).boxes → Satisfies tables g.boxes
  pub others : (y : Node) → In y g.boxes → (y.id == b) ≡ false → In y (permit_to_preserve b g).boxes
  pub not_permit : (y : Node) → In y (permit_to_preserve b g).boxes → y.id ≡ b → is_permit y.parts.distinct ≡ false
  pub bag : (tables : List Table) → bag_in tables (permit_to_preserve b g).boxes ≡ bag_in tables g.boxes
  pub fits : (tables : List Table) (e : Environment) → fits (bag_in tables g.boxes) (permit_to_preserve b g).boxes e ≡ fits (bag_in tables g.boxes) g.boxes e

abbrev pub PermitToPreserveLaw : Type 0
PermitToPreserveLaw = (g : QueryGraph) → EachOnce (numbers g.boxes) → fault g ≡ None → (b : ℕ) → PermitToPreserveKeeps b g
