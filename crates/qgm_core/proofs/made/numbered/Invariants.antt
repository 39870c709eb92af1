use Rattle.std.proofs.Common.{◌≡◌, ◌++◌, length}
use Rattle.qgm_core.specs.Made.{boxes_of}
use Rattle.qgm_core.proofs.made.numbered.Given as goal

-- what is left goes behind what is done
abbrev pub invariant-loop-new : goal.invariant-loop-new
invariant-loop-new l = l.nodes.items ++ boxes_of l.left.items ≡ boxes_of l.initial.left.items

abbrev pub decreases-loop-new : goal.decreases-loop-new
decreases-loop-new l = length l.left.items
