-- Where an equality that follows is added, the graph keeps what it means.
use Rattle.qgm_core.specs.Boxes.{QueryGraph, numbers}
use Rattle.list_laws.specs.Lists.{EachOnce}
use Rattle.qgm_wellformed.specs.Sentences.{WellFormed}
use Rattle.rule_api.specs.Rules.{Preserves}
use Rattle.rule_api.specs.declared.place.Place.{Place}
use Rattle.rule_trans.specs.EqualColumns.{AddsEqualColumns}
use Rattle.rule_trans.specs.EqualLiteral.{AddsEqualLiteral}

-- J1
abbrev pub EqualColumnsPreserves : Type 0
EqualColumnsPreserves = (g h : QueryGraph) → EachOnce (numbers g.boxes) → WellFormed g → (at : Place) → AddsEqualColumns at g h → Preserves g h

-- J2
abbrev pub EqualLiteralPreserves : Type 0
EqualLiteralPreserves = (g h : QueryGraph) → EachOnce (numbers g.boxes) → WellFormed g → (at : Place) → AddsEqualLiteral at g h → Preserves g h
