-- That the passes over boxes compute what is said of boxes, as laws: of boxes in order.
use Rattle.std.specs.Prelude.{ℕ, ◌≡◌, ◌<◌, ◌↔◌, true, List, [], ◌∷◌, Option, Some, None, ⊤}
use Rattle.qgm_core.specs.Boxes.{HasBox, Ordered, QueryGraph, bare_box, numbers}
use Rattle.qgm_core.specs.Edits.{compact, with_box}
use Rattle.qgm_core.specs.Free.{IsFree, Reaches, free, reached}
use Rattle.list_laws.specs.Lists.{EachOnce, In, holds}
use Rattle.qgm_core.specs.declared.node.Node.{Node}
use Rattle.qgm_core.specs.declared.parts.BoxParts.{BoxParts}
use Rattle.qgm_wellformed.specs.Sentences.{IsFault, WellFormed}
use Rattle.qgm_wellformed.specs.Shapes.{only}
use Rattle.qgm_wellformed.specs.View.{InView, Sees, in_view, viewers}
use Rattle.qgm_wellformed.specs.WellFormed.{fault}
use Rattle.qgm_wellformed.specs.declared.clause.Fault.{Fault}

-- marked from b are those that b reaches
abbrev pub MarksReached : Type 0
MarksReached = (boxes : List Node) → Ordered boxes → (b c : ℕ) → (holds c (reached (b ∷ []) boxes) ≡ true) ↔ Reaches boxes b c

-- found free in b are those that are free in b
abbrev pub FindsFree : Type 0
FindsFree = (g : QueryGraph) → Ordered g.boxes → (b q : ℕ) → (holds q (free b g) ≡ true) ↔ IsFree g.boxes b q

-- each is below those behind it
abbrev pub Ascending : List ℕ → Type 0
Ascending [] = ⊤
Ascending (x ∷ xs) = ((y : ℕ) → In y xs → x < y) × Ascending xs

-- what is free stands in ascending order, each once
abbrev pub FreeAscends : Type 0
FreeAscends = (g : QueryGraph) (b : ℕ) → Ascending (free b g)

-- found to be free alone is what is free, if nothing else is
abbrev pub FindsAlone : Type 0
FindsAlone =
    (g : QueryGraph) → Ordered g.boxes → (b q : ℕ)
    → (only q (free b g) ≡ true) ↔ (IsFree g.boxes b q × ((p : ℕ) → IsFree g.boxes b p → p ≡ q))

-- found to see q are those that see q
abbrev pub FindsViewers : Type 0
FindsViewers = (boxes : List Node) → Ordered boxes → (b q : ℕ) → (holds b (viewers q [] boxes) ≡ true) ↔ Sees boxes b q

-- found in view are those in view
abbrev pub FindsView : Type 0
FindsView = (boxes : List Node) → Ordered boxes → (n : Node) (q : ℕ) → (in_view boxes n q ≡ true) ↔ InView boxes n q

-- no fault is found where the graph is well-formed
abbrev pub FindsNone : Type 0
FindsNone = (g : QueryGraph) → EachOnce (numbers g.boxes) → (fault g ≡ None) ↔ WellFormed g

-- the boxes of a well-formed graph are in order
abbrev pub OrderedIfWell : Type 0
OrderedIfWell = (g : QueryGraph) → EachOnce (numbers g.boxes) → WellFormed g → Ordered g.boxes

-- the fault that is found is the least
abbrev pub FindsFault : Type 0
FindsFault = (g : QueryGraph) → EachOnce (numbers g.boxes) → (f : Fault) → (fault g ≡ Some f) ↔ IsFault g f

-- where the root reaches all boxes, a box is added, and those that the root doesn't reach are dropped: the graph is as before
abbrev pub AddedGoes : Type 0
AddedGoes =
    (g : QueryGraph) → Ordered g.boxes → HasBox g.root g → ((n : Node) → In n g.boxes → Reaches g.boxes g.root n.id)
    → (below : Option ℕ) (b : ℕ) → (HasBox b g → ⊥) → (parts : BoxParts) → compact (with_box below (bare_box b parts) g) ≡ g
