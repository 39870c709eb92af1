-- What rewriting keeps.
use Rattle.std.specs.Prelude.{◌≡◌, List}
use Rattle.row_bag.specs.Bags.{Agree}
use Rattle.row_bag.specs.Sets.{same_cells}
use Rattle.row_bag.specs.declared.tables.Table.{Table}
use Rattle.qgm_core.specs.Boxes.{QueryGraph}
use Rattle.qgm_meaning.specs.Meaning.{root_bag}
use Rattle.qgm_meaning.specs.Widths.{Filled}
use Rattle.qgm_edit_laws.specs.Graph.{Sound}

-- h is sound; over tables whose rows fit the bases of g the roots' bags agree, and they fit those of h; output names and order keys stay
pub record Keeps (g h : QueryGraph) : Type 0 where
  pub well : Sound h.boxes h.root
  pub bag : (tables : List Table) → Filled tables g.boxes → Agree same_cells (root_bag tables h) (root_bag tables g)
  pub bases : (tables : List Table) → Filled tables g.boxes → Filled tables h.boxes
  pub names : h.names ≡ g.names
  pub order : h.order ≡ g.order
