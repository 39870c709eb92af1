-- The laws, as theorems.
use Rattle.std.specs.Prelude.{ℕ, ◌≡◌, ◌≤◌, true, false, List}
use Rattle.row_bag.specs.declared.tables.Table.{Table}
use Rattle.qgm_core.specs.Boxes.{Ordered, QueryGraph, ids_in, overs_in, owns}
use Rattle.qgm_core.specs.Edits.{compact}
use Rattle.qgm_core.specs.Free.{Reaches}
use Rattle.list_laws.specs.Lists.{In, times}
use Rattle.qgm_core.specs.declared.kinds.BoxKind.TheVariants.{Select}
use Rattle.qgm_core.specs.declared.node.Node.{Node}
use Rattle.qgm_core.specs.declared.owned.OwnedQuant.{OwnedQuant}
use Rattle.qgm_meaning.specs.Meaning.{root_bag}
use Rattle.qgm_meaning.specs.Scope.{loose}
use Rattle.qgm_edit_laws.specs.Checked.{Checked}
use Rattle.qgm_edit_laws.specs.Graph.{Sound, binds_row}
use Rattle.qgm_edit_laws.specs.Keeps.{Keeps}

-- n is a select among these boxes, q is an F quantifier of it, and a quantifier of it ranges over a box that reaches b
pub record BindsAbove (bs : List Node) (b q : ℕ) (n : Node) : Type 0 where
  pub within : In n bs
  pub a_select : n.parts.kind ≡ Select
  pub binds : binds_row q n.quants ≡ true
  pub under : OwnedQuant
  pub owned : In under n.quants
  pub reaches : Reaches bs under.over b

-- what a box looks up is bound by a select above it
abbrev pub BoundAbove : Type 0
BoundAbove = (bs : List Node) (root : ℕ) → Sound bs root → (b q : ℕ) → loose bs b q ≡ true → (n : Node) × BindsAbove bs b q n

-- no step keeps all, and so do two steps that each keep it
pub record KeepsChained : Type 0 where
  pub itself : (g : QueryGraph) → Sound g.boxes g.root → Keeps g g
  pub chained : (f g h : QueryGraph) → Keeps f g → Keeps g h → Keeps f h

-- without the boxes that the root doesn't reach all is kept, and the bag is the same row by row
pub record CompactKeeps : Type 0 where
  pub keeps : (g : QueryGraph) → Sound g.boxes g.root → Keeps g (compact g)
  pub bag : (g : QueryGraph) → Sound g.boxes g.root → (tables : List Table) → root_bag tables (compact g) ≡ root_bag tables g

-- what is tested of columns that are read gives what rules take of them, and comes of it
abbrev pub SettledFromChecked : Type 0
SettledFromChecked =
    (bs : List Node) (root : ℕ) → Ordered bs → ((q : ℕ) → times q (ids_in bs) ≤ 1) → Checked bs root
    → ((n : Node) → In n bs → (q : ℕ) → owns q n ≡ true → loose bs n.id q ≡ false) × ((b q : ℕ) → loose bs b q ≡ true → times b (overs_in bs) ≡ 1)

abbrev pub CheckedFromSound : Type 0
CheckedFromSound = (bs : List Node) (root : ℕ) → Sound bs root → Checked bs root
