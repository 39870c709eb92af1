use Rattle.std.proofs.Common.{◌≡◌, All, take}
use Rattle.box_exec.specs.Seekers.{IsSeeker, left_ranges}
use Rattle.box_exec.proofs.order.seekers_of.Given as goal

abbrev pub invariant-loop-range : goal.invariant-loop-range
invariant-loop-range l = record {
  ranges : left_ranges l.made.items ≡ take l.range-index l.ranges;
  others : All (λ s. IsSeeker l.node s) l.made.items;
}
