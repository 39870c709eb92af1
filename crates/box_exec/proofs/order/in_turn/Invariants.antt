use Rattle.std.proofs.Common.{◌≡◌, ◌++◌, All, length}
use Rattle.box_exec.specs.Seekers.{IsSeeker, left_ranges}
use Rattle.box_exec.specs.Taken.{in_turn}
use Rattle.box_exec.proofs.order.in_turn.Given as goal

abbrev pub invariant-turns : goal.invariant-turns
invariant-turns l = record {
  others : All (λ s. IsSeeker l.node s) l.left.items;
  turn : l.made.items ++ in_turn l.node (length (left_ranges l.left.items)) (left_ranges l.left.items) ≡ in_turn l.node (length l.node.quants) l.node.quants;
}

abbrev pub decreases-turns : goal.decreases-turns
decreases-turns l = length l.left.items
