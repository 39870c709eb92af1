-- What M1 keeps, as laws.
use Rattle.std.specs.Prelude.{List}
use Rattle.qgm_core.specs.Boxes.{QueryGraph}
use Rattle.qgm_core.specs.declared.node.Node.{Node}
use Rattle.qgm_core.specs.declared.owned.OwnedQuant.{OwnedQuant}
use Rattle.qgm_edit_laws.specs.Graph.{Sound}
use Rattle.rule_merge.specs.Merged.{Merges, merged_in}
use Rattle.rule_merge.specs.MergesDistinct.{MergesDistinct}
use Rattle.qgm_edit_laws.specs.Shaped.{Typed}
use Rattle.qgm_edit_laws.specs.Keeps.{Keeps}

-- types agree under M1: the cells that stand for columns have their types
abbrev pub MergeTyped : Type 0
MergeTyped = (g : QueryGraph) → Sound g.boxes g.root → Typed g.boxes → (b c : Node) (us : List OwnedQuant) (rq : OwnedQuant) (vs : List OwnedQuant) → Merges g.boxes b c us rq vs → Typed (merged_in b c us rq vs g).boxes

-- and at an ENFORCE box
abbrev pub MergeDistinctTyped : Type 0
MergeDistinctTyped = (g : QueryGraph) → Sound g.boxes g.root → Typed g.boxes → (b c : Node) (us : List OwnedQuant) (rq : OwnedQuant) (vs : List OwnedQuant) → MergesDistinct g.boxes b c us rq vs → Typed (merged_in b c us rq vs g).boxes

-- what rules keep
abbrev pub MergeKeeps : Type 0
MergeKeeps = (g : QueryGraph) → Sound g.boxes g.root → (b c : Node) (us : List OwnedQuant) (rq : OwnedQuant) (vs : List OwnedQuant) → Merges g.boxes b c us rq vs → Keeps g (merged_in b c us rq vs g)
