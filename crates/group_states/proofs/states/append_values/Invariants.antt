use Rattle.std.proofs.Common.{◌≡◌, ◌++◌, ℕ, map}
use Rattle.group_states.specs.Groups.{AreAfter, Bag, cells_from}
use Rattle.group_states.specs.declared.state.State.{State}
use Rattle.group_states.proofs.states.append_values.Given as goal

abbrev pub invariant-loop-state : goal.invariant-loop-state
invariant-loop-state l = (n : ℕ) (rows : Bag) → AreAfter n rows l.yielded → l.out.items ≡ l.fn.out.items ++ cells_from n (map (λ (s : State). s.fold) l.yielded) rows
