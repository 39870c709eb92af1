-- Both walks.
use Rattle.std.proofs.Common.{ℕ, refl, [], ◌∷◌, length}
use Rattle.shared_types.specs.declared.walk.Walk.TheVariants.{Depth, Breadth}
use Rattle.qgm_wellformed.specs.Walked.{ListsEachOnce, ListsReached}
use Rattle.qgm_wellformed.proofs.DepthWalk.{depth-once, depth-reached}
use Rattle.qgm_wellformed.proofs.BreadthWalk.{breadth-reached, levels-once}

pub lists-reached : ListsReached
lists-reached Depth g o h b = depth-reached g.boxes o g.root h b
lists-reached Breadth g o h b = breadth-reached g.boxes o g.root h b

pub lists-once : ListsEachOnce
lists-once Depth g = depth-once g.boxes g.root
lists-once Breadth g = levels-once (length g.boxes) g.boxes (g.root ∷ []) (g.root ∷ []) (refl, tt)
