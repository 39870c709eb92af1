use Rattle.std.proofs.Common.{◌≡◌, ◌+◌, drop}
use Rattle.qgm_box_size.specs.Nodes.{cells_size}
use Rattle.qgm_terms.specs.Shown.{terms}
use Rattle.qgm_build_terms.proofs.left.left_after_head.Given as goal

abbrev pub invariant-loop-x : goal.invariant-loop-x
invariant-loop-x l = l.rest + cells_size (terms l.x-items) ≡ l.left + cells_size (terms (drop l.x-index l.x-items))
