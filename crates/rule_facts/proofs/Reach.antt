-- Boxes that the root reaches after steps are those that it reached before, where as much is said of single boxes.
use Rattle.std.proofs.Common.{ℕ, ◌≡◌, List, [], ◌∷◌, filter}
use Rattle.qgm_core.proofs.Reaching.{reached-reaches}
use Rattle.qgm_core.specs.Boxes.{Ordered}
use Rattle.qgm_core.specs.Free.{Reaches, reached}
use Rattle.list_laws.specs.Lists.{In, holds}
use Rattle.qgm_core.specs.declared.node.Node.{Node}
use Rattle.qgm_edit_laws.proofs.Compact.{reached_boxes}
use Rattle.list_laws.proofs.Booleans.{same-truth}
use Rattle.list_laws.proofs.Membership.{filter-same}

pub kept-same : (bs ms : List Node) (root : ℕ) → Ordered bs → Ordered ms
    → ((n : Node) → In n ms → Reaches bs root n.id → Reaches ms root n.id) → ((n : Node) → In n ms → Reaches ms root n.id → Reaches bs root n.id)
    → filter (λ n. holds n.id (reached (root ∷ []) bs)) ms ≡ reached_boxes root ms
kept-same bs ms root o p down up =
    filter-same (λ n. holds n.id (reached (root ∷ []) bs)) (λ n. holds n.id (reached (root ∷ []) ms)) ms
    (λ n i. same-truth (holds n.id (reached (root ∷ []) bs)) (holds n.id (reached (root ∷ []) ms))
    (λ t. (reached-reaches ms p root n.id).1 (down n i ((reached-reaches bs o root n.id).0 t)))
    (λ t. (reached-reaches bs o root n.id).1 (up n i ((reached-reaches ms p root n.id).0 t))))
