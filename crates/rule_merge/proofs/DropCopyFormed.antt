-- The check of a graph finds nothing against it under M2.
use Rattle.std.proofs.Common.{◌≡◌, None}
use Rattle.qgm_core.specs.Boxes.{QueryGraph, numbers}
use Rattle.list_laws.specs.Lists.{EachOnce}
use Rattle.qgm_core.specs.declared.node.Node.{Node}
use Rattle.qgm_core.specs.declared.owned.OwnedQuant.{OwnedQuant}
use Rattle.qgm_wellformed.specs.WellFormed.{fault}
use Rattle.rule_merge.specs.Dropped.{MayDrop, dropped}
use Rattle.qgm_edit_laws.specs.Graph.{Sound}
use Rattle.qgm_edit_laws.proofs.Formed.{sound-checked}
use Rattle.rule_merge.proofs.DropCopyKeeps.{drop-keeps}
use Rattle.rule_merge.proofs.DropCopyShaped.{drop-shaped}
use Rattle.rule_merge.proofs.DropCopyTyped.{drop-typed}
use Rattle.qgm_edit_laws.proofs.WellFormedKept.{numbers-once}

pub drop-formed : (g : QueryGraph) → EachOnce (numbers g.boxes) → fault g ≡ None → (b c : Node) (r : OwnedQuant) → MayDrop g b c r → fault (dropped b c g) ≡ None
drop-formed g u f b c r m =
    let p = (sound-checked g u).0 f in
    let w : Sound (dropped b c g).boxes g.root = (drop-keeps g p.0 b c r m).well in
    (sound-checked (dropped b c g) (numbers-once (dropped b c g).boxes w.ordered)).1 (w, drop-typed g p.0 p.1 b c r m, drop-shaped g p.0 p.2 b c r m)
