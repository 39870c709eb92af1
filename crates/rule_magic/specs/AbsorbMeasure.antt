-- Each firing of U2 and of G1 to G5 lowers the measure, though boxes go that the root no longer reaches.
use Rattle.std.specs.Prelude.{◌<◌}
use Rattle.qgm_core.specs.Boxes.{QueryGraph, numbers}
use Rattle.qgm_core.specs.Edits.{compact}
use Rattle.list_laws.specs.Lists.{EachOnce}
use Rattle.qgm_wellformed.specs.Sentences.{WellFormed}
use Rattle.qgm_props.specs.Measure.{Lowers, measure}
use Rattle.rule_api.specs.declared.place.Place.{Place}
use Rattle.rule_feed.specs.FeedActs.{Feeds}
use Rattle.rule_magic.specs.AbsorbGroup.{AbsorbsGroup}
use Rattle.rule_magic.specs.AbsorbOuterJoin.{AbsorbsOuter}
use Rattle.rule_magic.specs.AbsorbSelect.{AbsorbsSelect}
use Rattle.rule_magic.specs.AbsorbSetOperation.{AbsorbsSet}
use Rattle.rule_subquery.specs.ScalarToGroup.{GroupsScalar}

-- of the boxes that go, no more are fed than open
abbrev pub CompactLowers : Type 0
CompactLowers = (g h : QueryGraph) → EachOnce (numbers h.boxes) → WellFormed h → Lowers g.boxes h.boxes → Lowers g.boxes (compact h).boxes

-- h has each number once, and its measure is lower than that of g
pub record IsLower (g h : QueryGraph) : Type 0 where
  pub once : EachOnce (numbers h.boxes)
  pub lower : measure h < measure g

-- a firing of U2, and of each of G1 to G5
abbrev pub ScalarFiringLowers : Type 0
ScalarFiringLowers = (p : Place) (g h : QueryGraph) → EachOnce (numbers g.boxes) → WellFormed g → GroupsScalar p g h → IsLower g h

abbrev pub FeedFiringLowers : Type 0
FeedFiringLowers = (p : Place) (g h : QueryGraph) → EachOnce (numbers g.boxes) → WellFormed g → Feeds p g h → IsLower g h

abbrev pub SelectFiringLowers : Type 0
SelectFiringLowers = (p : Place) (g h : QueryGraph) → EachOnce (numbers g.boxes) → WellFormed g → AbsorbsSelect p g h → IsLower g h

abbrev pub GroupFiringLowers : Type 0
GroupFiringLowers = (p : Place) (g h : QueryGraph) → EachOnce (numbers g.boxes) → WellFormed g → AbsorbsGroup p g h → IsLower g h

abbrev pub SetFiringLowers : Type 0
SetFiringLowers = (p : Place) (g h : QueryGraph) → EachOnce (numbers g.boxes) → WellFormed g → AbsorbsSet p g h → IsLower g h

abbrev pub OuterFiringLowers : Type 0
OuterFiringLowers = (p : Place) (g h : QueryGraph) → EachOnce (numbers g.boxes) → WellFormed g → AbsorbsOuter p g h → IsLower g h
