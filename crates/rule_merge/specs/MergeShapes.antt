-- Shapes under M1.
use Rattle.std.specs.Prelude.{◌≡◌, true, false, List, None}
use Rattle.qgm_wellformed.specs.Shapes.{all_F}
use Rattle.qgm_wellformed.specs.WellFormed.{fault}
use Rattle.qgm_core.specs.Boxes.{QueryGraph, numbers}
use Rattle.qgm_core.specs.Kinds.{is_fed, is_magic}
use Rattle.list_laws.specs.Lists.{EachOnce}
use Rattle.qgm_core.specs.declared.node.Node.{Node}
use Rattle.qgm_core.specs.declared.owned.OwnedQuant.{OwnedQuant}
use Rattle.qgm_edit_laws.specs.Graph.{Sound}
use Rattle.rule_merge.specs.Merged.{Merges, merged_in}
use Rattle.rule_merge.specs.MergesDistinct.{MergesDistinct}
use Rattle.qgm_edit_laws.specs.Shaped.{Shaped}
use Rattle.qgm_edit_laws.specs.FedOpen.{FedOpen}

-- b isn't fed, and may be magic if c, which isn't, has F quantifiers alone; M1 leaves no fed box over a closed box
pub record MergeFits (g : QueryGraph) (b c : Node) (us : List OwnedQuant) (rq : OwnedQuant) (vs : List OwnedQuant) : Type 0 where
  pub not_fed : is_fed b.parts.role ≡ false
  pub not_magic : is_magic c.parts.role ≡ false
  pub rows_alone : is_magic b.parts.role ≡ true → all_F c.quants ≡ true
  pub fed_open : FedOpen (merged_in b c us rq vs g).boxes

-- shapes stay under M1
abbrev pub MergeShaped : Type 0
MergeShaped =
    (g : QueryGraph) → Sound g.boxes g.root → Shaped g.boxes g.root → (b c : Node) (us : List OwnedQuant) (rq : OwnedQuant) (vs : List OwnedQuant)
    → Merges g.boxes b c us rq vs → MergeFits g b c us rq vs → Shaped (merged_in b c us rq vs g).boxes g.root

-- and at an ENFORCE box
abbrev pub MergeDistinctShaped : Type 0
MergeDistinctShaped =
    (g : QueryGraph) → Sound g.boxes g.root → Shaped g.boxes g.root → (b c : Node) (us : List OwnedQuant) (rq : OwnedQuant) (vs : List OwnedQuant)
    → MergesDistinct g.boxes b c us rq vs → MergeFits g b c us rq vs → Shaped (merged_in b c us rq vs g).boxes g.root

-- what the check of a graph finds nothing against, it finds nothing against after M1
abbrev pub MergeWellFormed : Type 0
MergeWellFormed =
    (g : QueryGraph) → EachOnce (numbers g.boxes) → fault g ≡ None → (b c : Node) (us : List OwnedQuant) (rq : OwnedQuant) (vs : List OwnedQuant)
    → Merges g.boxes b c us rq vs → MergeFits g b c us rq vs → fault (merged_in b c us rq vs g) ≡ None

-- and at an ENFORCE box
abbrev pub MergeDistinctWellFormed : Type 0
MergeDistinctWellFormed =
    (g : QueryGraph) → EachOnce (numbers g.boxes) → fault g ≡ None → (b c : Node) (us : List OwnedQuant) (rq : OwnedQuant) (vs : List OwnedQuant)
    → MergesDistinct g.boxes b c us rq vs → MergeFits g b c us rq vs → fault (merged_in b c us rq vs g) ≡ None
