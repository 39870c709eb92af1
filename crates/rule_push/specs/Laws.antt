-- Where a conjunct goes down, the graph keeps what it means.
use Rattle.qgm_core.specs.Boxes.{QueryGraph, numbers}
use Rattle.list_laws.specs.Lists.{EachOnce}
use Rattle.qgm_wellformed.specs.Sentences.{WellFormed}
use Rattle.rule_api.specs.Rules.{Preserves}
use Rattle.rule_api.specs.declared.place.Place.{Place}
use Rattle.rule_push.specs.PushIntoArms.{PushesIntoArms}
use Rattle.rule_push.specs.PushIntoLeft.{PushesIntoLeft}
use Rattle.rule_push.specs.PushIntoSelect.{PushesIntoSelect}
use Rattle.rule_push.specs.PushThroughGroup.{PushesThroughGroup}

-- P1
abbrev pub PushIntoSelectPreserves : Type 0
PushIntoSelectPreserves = (g h : QueryGraph) → EachOnce (numbers g.boxes) → WellFormed g → (at : Place) → PushesIntoSelect at g h → Preserves g h

-- P2
abbrev pub PushThroughGroupPreserves : Type 0
PushThroughGroupPreserves = (g h : QueryGraph) → EachOnce (numbers g.boxes) → WellFormed g → (at : Place) → PushesThroughGroup at g h → Preserves g h

-- P3
abbrev pub PushIntoArmsPreserves : Type 0
PushIntoArmsPreserves = (g h : QueryGraph) → EachOnce (numbers g.boxes) → WellFormed g → (at : Place) → PushesIntoArms at g h → Preserves g h

-- P4
abbrev pub PushIntoLeftPreserves : Type 0
PushIntoLeftPreserves = (g h : QueryGraph) → EachOnce (numbers g.boxes) → WellFormed g → (at : Place) → PushesIntoLeft at g h → Preserves g h
