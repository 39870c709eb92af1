-- G1 as laws on graphs.
use Rattle.std.specs.Prelude.{◌≡◌}
use Rattle.qgm_core.specs.Boxes.{QueryGraph, numbers}
use Rattle.qgm_core.specs.Edits.{compact}
use Rattle.list_laws.specs.Lists.{EachOnce}
use Rattle.qgm_wellformed.specs.Sentences.{WellFormed}
use Rattle.qgm_props.specs.Measure.{Lowers}
use Rattle.rule_api.specs.declared.place.Place.{Place}
use Rattle.rule_facts.specs.Places.{ActionPreserves, ArePlaces}
use Rattle.rule_feed.specs.FeedActs.{Feeds}
use Rattle.rule_feed.specs.FeedMay.{MayFeed, feed_pairs}

-- its places are those where its condition holds, in order
abbrev pub FeedPlaces : Type 0
FeedPlaces = ArePlaces feed_pairs MayFeed

-- where it holds the action preserves
abbrev pub FeedPreserves : Type 0
FeedPreserves = ActionPreserves MayFeed Feeds

-- the graph that a firing compacts is well-formed, and its measure is lower
abbrev pub FiringLowers : Type 0
FiringLowers =
    (p : Place) (g h : QueryGraph) → EachOnce (numbers g.boxes) → WellFormed g → Feeds p g h
    → (k : QueryGraph) × ((h ≡ compact k) × (EachOnce (numbers k.boxes) × (WellFormed k × Lowers g.boxes k.boxes)))
