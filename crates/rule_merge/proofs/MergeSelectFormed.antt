-- The check of a graph finds nothing against it under M1.
use Rattle.std.proofs.Common.{◌≡◌, List, None}
use Rattle.qgm_core.specs.Boxes.{QueryGraph, numbers}
use Rattle.list_laws.specs.Lists.{EachOnce}
use Rattle.qgm_core.specs.declared.node.Node.{Node}
use Rattle.qgm_core.specs.declared.owned.OwnedQuant.{OwnedQuant}
use Rattle.qgm_wellformed.specs.WellFormed.{fault}
use Rattle.qgm_edit_laws.specs.Graph.{Sound}
use Rattle.rule_merge.specs.Merged.{Merges, merged_in}
use Rattle.rule_merge.specs.MergesDistinct.{MergesDistinct}
use Rattle.rule_merge.specs.MergesPermit.{MergeAny, MergesAny}
use Rattle.rule_merge.specs.MergeShapes.{MergeFits}
use Rattle.qgm_edit_laws.proofs.Formed.{sound-checked}
use Rattle.rule_merge.proofs.MergeSelectOfDistinct.{any-of, merge-any-sound}
use Rattle.rule_merge.proofs.MergeSelectKeeps.{merge-keeps}
use Rattle.rule_merge.proofs.MergeSelectShapedAny.{merge-any-shaped}
use Rattle.rule_merge.proofs.MergeSelectShaped.{merge-shaped}
use Rattle.rule_merge.proofs.MergeSelectTypedAny.{merge-any-typed}
use Rattle.rule_merge.proofs.MergeSelectTyped.{merge-typed}
use Rattle.qgm_edit_laws.proofs.WellFormedKept.{numbers-once}

pub merge-formed : (g : QueryGraph) → EachOnce (numbers g.boxes) → fault g ≡ None → (b c : Node) (us : List OwnedQuant) (rq : OwnedQuant) (vs : List OwnedQuant) → Merges g.boxes b c us rq vs → MergeFits g b c us rq vs → fault (merged_in b c us rq vs g) ≡ None
merge-formed g u f b c us rq vs m k =
    let p = (sound-checked g u).0 f in
    let h : QueryGraph = merged_in b c us rq vs g in
    let w : Sound h.boxes g.root = (merge-keeps g p.0 b c us rq vs m).well in
    (sound-checked h (numbers-once h.boxes w.ordered)).1 (w, merge-typed g p.0 p.1 b c us rq vs m, merge-shaped g p.0 p.2 b c us rq vs m k)

pub merge-any-formed : (g : QueryGraph) → EachOnce (numbers g.boxes) → fault g ≡ None → (b c : Node) (us : List OwnedQuant) (rq : OwnedQuant) (vs : List OwnedQuant) → MergesAny g.boxes b c us rq vs → MergeFits g b c us rq vs → fault (merged_in b c us rq vs g) ≡ None
merge-any-formed g u f b c us rq vs m k =
    let p = (sound-checked g u).0 f in
    let h : QueryGraph = merged_in b c us rq vs g in
    let w : Sound h.boxes g.root = merge-any-sound g p.0 b c us rq vs m in
    (sound-checked h (numbers-once h.boxes w.ordered)).1 (w, merge-any-typed g p.0 p.1 b c us rq vs m, merge-any-shaped g p.0 p.2 b c us rq vs m k)

pub merge-any : MergeAny
merge-any = record { typed = merge-any-typed; shaped = merge-any-shaped; formed = merge-any-formed }

pub merge-distinct-formed : (g : QueryGraph) → EachOnce (numbers g.boxes) → fault g ≡ None → (b c : Node) (us : List OwnedQuant) (rq : OwnedQuant) (vs : List OwnedQuant) → MergesDistinct g.boxes b c us rq vs → MergeFits g b c us rq vs → fault (merged_in b c us rq vs g) ≡ None
merge-distinct-formed g u f b c us rq vs m k = merge-any-formed g u f b c us rq vs (any-of g.boxes b c us rq vs m) k
