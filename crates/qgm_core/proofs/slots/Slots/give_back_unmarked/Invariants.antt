use Rattle.std.proofs.Common.{◌≡◌, ◌++◌, filter, not, take}
use Rattle.qgm_core.specs.Boxes.{numbers}
use Rattle.list_laws.specs.Lists.{holds}
use Rattle.qgm_core.proofs.slots.Slots.give_back_unmarked.Given as goal

abbrev pub invariant-loop-node : goal.invariant-loop-node
invariant-loop-node l = record {
  vacant : l.self.vacant ≡ l.initial.self.vacant ++ numbers (filter (λ n. not (holds n.id l.marks)) (take l.node-index l.nodes));
  uses : l.self.uses ≡ l.initial.self.uses;
  lists : l.self.lists ≡ l.initial.self.lists;
}
