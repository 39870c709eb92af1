-- What a well-formed graph has beside soundness: types that agree, and shapes.
use Rattle.std.specs.Prelude.{ℕ, ◌≡◌, ◌↔◌, true, false, List, None}
use Rattle.qgm_core.specs.Boxes.{HasBox, QueryGraph, numbers}
use Rattle.qgm_core.specs.Edits.{compact}
use Rattle.qgm_core.specs.Kinds.{is_F_or_S, is_permit}
use Rattle.list_laws.specs.Lists.{EachOnce, In}
use Rattle.qgm_core.specs.declared.node.Node.{Node}
use Rattle.qgm_core.specs.declared.owned.OwnedQuant.{OwnedQuant}
use Rattle.qgm_wellformed.specs.Columns.{columns_fit}
use Rattle.qgm_wellformed.specs.Sentences.{IsKept}
use Rattle.qgm_wellformed.specs.Shapes.{shape_fits}
use Rattle.qgm_wellformed.specs.Types.{types_agree}
use Rattle.qgm_wellformed.specs.WellFormed.{fault}
use Rattle.qgm_wellformed.specs.declared.clause.Clause.TheVariants.{I1, I2, I3}
use Rattle.qgm_edit_laws.specs.Graph.{Sound}
use Rattle.qgm_edit_laws.specs.Placed.{Placed}

-- I5: each cell has a type, what is compared has one, and the boxes under a set operation have its types
abbrev pub Typed : List Node → Type 0
Typed bs = (n : Node) → In n bs → types_agree bs n ≡ true

-- each column that is named is one of the box under its quantifier (I4); no F or S quantifier ranges over a PERMIT box, which isn't the root (I8); each box has the shape of its kind and role (I9)
pub record Shaped (bs : List Node) (root : ℕ) : Type 0 where
  pub columns : (n : Node) → In n bs → columns_fit bs n ≡ true
  pub unseen : (n : Node) → In n bs → is_permit n.parts.distinct ≡ true → (n.id ≡ root → ⊥) × ((m : Node) (r : OwnedQuant) → In m bs → In r m.quants → r.over ≡ n.id → is_F_or_S r.kind ≡ false)
  pub shapes : (n : Node) → In n bs → shape_fits root bs n ≡ true

-- what rules need of a graph is what its check finds
abbrev pub SoundIsChecked : Type 0
SoundIsChecked = (g : QueryGraph) → EachOnce (numbers g.boxes) → (fault g ≡ None) ↔ (Sound g.boxes g.root × Typed g.boxes × Shaped g.boxes g.root)

-- I1 to I3 of a graph are what its check finds of them
abbrev pub PlacedIsChecked : Type 0
PlacedIsChecked =
    (g : QueryGraph) → EachOnce (numbers g.boxes)
    → Placed g.boxes g.root ↔ (HasBox g.root g × ((n : Node) → In n g.boxes → IsKept I1 g n) × ((n : Node) → In n g.boxes → IsKept I2 g n) × ((n : Node) → In n g.boxes → IsKept I3 g n))

-- shapes stay where the boxes that the root doesn't reach go
abbrev pub CompactShaped : Type 0
CompactShaped = (g : QueryGraph) → Sound g.boxes g.root → Shaped g.boxes g.root → Shaped (compact g).boxes g.root

-- and types agree there
abbrev pub CompactTyped : Type 0
CompactTyped = (g : QueryGraph) → Sound g.boxes g.root → Typed g.boxes → Typed (compact g).boxes

-- what the check of a graph finds nothing against, it finds nothing against where the boxes that the root doesn't reach go
abbrev pub CompactWellFormed : Type 0
CompactWellFormed = (g : QueryGraph) → EachOnce (numbers g.boxes) → fault g ≡ None → fault (compact g) ≡ None
