-- A calm graph with an open box has a place for a rule of class magic.
use Rattle.std.specs.Prelude.{◌≡◌, true}
use Rattle.qgm_core.specs.Boxes.{QueryGraph, numbers}
use Rattle.qgm_core.specs.Free.{Reaches}
use Rattle.list_laws.specs.Lists.{EachOnce, In}
use Rattle.qgm_core.specs.declared.node.Node.{Node}
use Rattle.qgm_wellformed.specs.Sentences.{WellFormed}
use Rattle.qgm_props.specs.Calm.{calm}
use Rattle.qgm_props.specs.Inferred.{Facts}
use Rattle.qgm_props.specs.Laws.{Tells}
use Rattle.rule_magic.specs.Places.{IsOpen, AreFew, MagicAt}

-- in a calm graph of at most 65,530 boxes, where a box is open, a rule of class magic has a place, at a box that the root reaches if it reaches the open one
abbrev pub CalmFires : Type 0
CalmFires =
    (g : QueryGraph) → EachOnce (numbers g.boxes) → WellFormed g → (known : Facts) → Tells known g.boxes → calm g.boxes known g.root ≡ true → AreFew g.boxes
    → (n : Node) → In n g.boxes → IsOpen g.boxes n.id
    → (b : Node) × (MagicAt g.boxes known b × (Reaches g.boxes g.root n.id → Reaches g.boxes g.root b.id))
