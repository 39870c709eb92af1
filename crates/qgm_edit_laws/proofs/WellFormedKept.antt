-- The check of a graph finds nothing against it where boxes that the root doesn't reach go, under M2 and under M1.
use Rattle.std.proofs.Common.{ℕ, ◌≡◌, ◌||◌, List, [], ◌∷◌, None, refl, ap₂, ◌∙◌}
use Rattle.qgm_core.specs.Boxes.{Ordered, QueryGraph, has_box, numbers}
use Rattle.qgm_core.specs.Edits.{compact}
use Rattle.list_laws.specs.Lists.{EachOnce, holds}
use Rattle.qgm_core.specs.declared.node.Node.{Node}
use Rattle.qgm_wellformed.specs.WellFormed.{fault}
use Rattle.qgm_edit_laws.proofs.Compact.{compact-sound}
use Rattle.qgm_edit_laws.proofs.Formed.{sound-checked}
use Rattle.qgm_edit_laws.proofs.ShapedKept.{shaped-compact}
use Rattle.qgm_edit_laws.proofs.TypedKept.{typed-compact}

held-same : (b : ℕ) (ns : List Node) → holds b (numbers ns) ≡ has_box ns b
held-same b [] = refl
held-same b (n ∷ ns) = ap₂ (λ x y. x || y) refl (held-same b ns)

-- boxes in order have numbers of their own
pub numbers-once : (ns : List Node) → Ordered ns → EachOnce (numbers ns)
numbers-once [] o = tt
numbers-once (n ∷ ns) o = (held-same n.id ns ∙ o.0, numbers-once ns o.2)

pub compact-formed : (g : QueryGraph) → EachOnce (numbers g.boxes) → fault g ≡ None → fault (compact g) ≡ None
compact-formed g u f =
    let p = (sound-checked g u).0 f in
    let w = compact-sound g.boxes g.root p.0 in
    (sound-checked (compact g) (numbers-once (compact g).boxes w.ordered)).1 (w, typed-compact g.boxes g.root p.0 p.1, shaped-compact g.boxes g.root p.0 p.2)
