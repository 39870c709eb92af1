-- What M2 keeps, as laws.
use Rattle.std.specs.Prelude.{◌≡◌, None}
use Rattle.qgm_core.specs.Boxes.{QueryGraph, numbers}
use Rattle.qgm_core.specs.declared.node.Node.{Node}
use Rattle.qgm_core.specs.declared.owned.OwnedQuant.{OwnedQuant}
use Rattle.rule_merge.specs.Dropped.{MayDrop, dropped}
use Rattle.qgm_edit_laws.specs.Graph.{Sound}
use Rattle.qgm_edit_laws.specs.Keeps.{Keeps}
use Rattle.list_laws.specs.Lists.{EachOnce}
use Rattle.qgm_wellformed.specs.WellFormed.{fault}
use Rattle.qgm_edit_laws.specs.Shaped.{Shaped, Typed}

-- what rules keep
abbrev pub DropKeeps : Type 0
DropKeeps = (g : QueryGraph) → Sound g.boxes g.root → (b c : Node) (r : OwnedQuant) → MayDrop g b c r → Keeps g (dropped b c g)

-- shapes and types
abbrev pub DropShaped : Type 0
DropShaped = (g : QueryGraph) → Sound g.boxes g.root → Shaped g.boxes g.root → (b c : Node) (r : OwnedQuant) → MayDrop g b c r → Shaped (dropped b c g).boxes g.root

abbrev pub DropTyped : Type 0
DropTyped = (g : QueryGraph) → Sound g.boxes g.root → Typed g.boxes → (b c : Node) (r : OwnedQuant) → MayDrop g b c r → Typed (dropped b c g).boxes

-- the check
abbrev pub DropWellFormed : Type 0
DropWellFormed = (g : QueryGraph) → EachOnce (numbers g.boxes) → fault g ≡ None → (b c : Node) (r : OwnedQuant) → MayDrop g b c r → fault (dropped b c g) ≡ None
