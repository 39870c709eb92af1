use Rattle.std.proofs.Common.{◌≡◌, ℕ, [], map, take}
use Rattle.group_states.specs.Groups.{AreAfter}
use Rattle.group_states.specs.declared.state.State.{State}
use Rattle.group_states.proofs.states.states_of.Given as goal

abbrev pub invariant-loop-fold : goal.invariant-loop-fold
invariant-loop-fold l = record {
  folds : map (λ (s : State). s.fold) l.states.items ≡ take l.fold-index l.folds;
  after : (n : ℕ) → AreAfter n [] l.states.items;
}
