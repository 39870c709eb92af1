-- A place at a plain select, and DISTINCT that goes there.
use Rattle.std.specs.Prelude.{◌≡◌, Some}
use Rattle.qgm_core.specs.Boxes.{QueryGraph, box_of}
use Rattle.qgm_core.specs.Edits.{compact, set_distinct}
use Rattle.qgm_core.specs.declared.kinds.BoxKind.TheVariants.{Select}
use Rattle.qgm_core.specs.declared.kinds.Distinct.TheVariants.{Preserve}
use Rattle.qgm_core.specs.declared.kinds.Role.TheVariants.{Plain}
use Rattle.qgm_core.specs.declared.node.Node.{Node}
use Rattle.rule_api.specs.declared.place.Place.{Place}

-- b is the plain select of the place, whose numbers are 0
pub record PlainAt (p : Place) (g : QueryGraph) (b : Node) : Type 0 where
  pub no_first : p.i ≡ 0
  pub no_second : p.j ≡ 0
  pub at : box_of p.at g ≡ Some b
  pub select : b.parts.kind ≡ Select
  pub plain : b.parts.role ≡ Plain

-- the box of the place is PRESERVE; boxes that the root doesn't reach are gone; all else is as in g
abbrev pub made_preserve : QueryGraph → Node → QueryGraph
made_preserve g b = compact (set_distinct b.id Preserve g)

unfoldable pub DropsDistinct : Place → QueryGraph → QueryGraph → Type 0
DropsDistinct p g h = (b : Node) × ((box_of p.at g ≡ Some b) × (h ≡ made_preserve g b))
