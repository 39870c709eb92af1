-- What graphs that differ in numbers alone have in common.
use Rattle.std.specs.Prelude.{◌≡◌}
use Rattle.graph_alike.specs.Alike.{Meets, SameButNumbers}
use Rattle.graph_alike.specs.OneToOne.{Along, AreOneToOne}
use Rattle.graph_print.specs.GraphText.{text_of}
use Rattle.list_laws.specs.Lists.{EachOnce}
use Rattle.qgm_core.specs.Boxes.{QueryGraph, numbers}
use Rattle.qgm_core.specs.Walk.{walk}
use Rattle.shared_types.specs.declared.walk.Walk.{Walk}
use Rattle.qgm_wellformed.specs.Sentences.{WellFormed}

-- well-formed graphs that differ in numbers alone, one to one, print one text
abbrev pub OneText : Type 0
OneText =
    (g h : QueryGraph) → EachOnce (numbers g.boxes) → EachOnce (numbers h.boxes) → WellFormed g → WellFormed h → SameButNumbers g h → AreOneToOne g h
    → text_of g ≡ text_of h

-- and their walks meet, box by box
abbrev pub WalksMeet : Type 0
WalksMeet =
    (w : Walk) (g h : QueryGraph) → EachOnce (numbers g.boxes) → EachOnce (numbers h.boxes) → WellFormed g → WellFormed h → SameButNumbers g h → AreOneToOne g h
    → Along (Meets g h) (walk w g) (walk w h)
