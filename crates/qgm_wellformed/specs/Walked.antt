-- What the walks list: exactly the boxes that the root reaches, each once.
use Rattle.std.specs.Prelude.{ℕ, ◌↔◌}
use Rattle.qgm_core.specs.Boxes.{HasBox, Ordered, QueryGraph}
use Rattle.qgm_core.specs.Free.{Reaches}
use Rattle.list_laws.specs.Lists.{EachOnce, In}
use Rattle.qgm_core.specs.Walk.{walk}
use Rattle.shared_types.specs.declared.walk.Walk.{Walk}

-- a box is listed exactly where the root reaches it
abbrev pub ListsReached : Type 0
ListsReached = (w : Walk) (g : QueryGraph) → Ordered g.boxes → HasBox g.root g → (b : ℕ) → In b (walk w g) ↔ Reaches g.boxes g.root b

-- no box is listed twice
abbrev pub ListsEachOnce : Type 0
ListsEachOnce = (w : Walk) (g : QueryGraph) → EachOnce (walk w g)
