-- What M1 may add to a graph at most: nodes that it copies, and levels.
use Rattle.std.specs.Prelude.{◌≤◌, ◌+◌, max}
use Rattle.qgm_box_size.specs.Nodes.{boxes_levels, boxes_size}
use Rattle.qgm_core.specs.Boxes.{QueryGraph, numbers}
use Rattle.list_laws.specs.Lists.{EachOnce}
use Rattle.qgm_terms.specs.Depth.{room}
use Rattle.rule_api.specs.declared.place.Place.{Place}
use Rattle.rule_merge.specs.MergeSelect.{MayMergeSelect, MergesSelect}
use Rattle.rule_merge.specs.MergeSelectCopies.{most_copied}

-- the graph after it has at most 1,024 nodes more than the graph before it
abbrev pub MergeFew : Type 0
MergeFew = (p : Place) (g h : QueryGraph) → EachOnce (numbers g.boxes) → MayMergeSelect p g → MergesSelect p g h → boxes_size h.boxes ≤ boxes_size g.boxes + most_copied

-- and no cell or condition with more levels than one may have, where none had before
abbrev pub MergeLevels : Type 0
MergeLevels = (p : Place) (g h : QueryGraph) → MayMergeSelect p g → MergesSelect p g h → boxes_levels h.boxes ≤ max (boxes_levels g.boxes) room
