use Rattle.std.proofs.Common.{◌≡◌, ℕ, List, drop, map}
use Rattle.row_bag.specs.declared.row.Row.{Row}
use Rattle.sql_value.specs.declared.cell.Cell.{Cell}
use Rattle.group_states.specs.Groups.{AreAfter, Bag}
use Rattle.group_states.specs.declared.state.State.{State}
use Rattle.group_states.proofs.Rows.{TakenTo}
use Rattle.group_states.proofs.states.take_arguments.Given as goal

abbrev pub invariant-loop-i : goal.invariant-loop-i
invariant-loop-i l = record {
  folds : map (λ (s : State). s.fold) l.states.items ≡ map (λ (s : State). s.fold) l.fn.states.items;
  done : (n : ℕ) (rows : Bag) (r : Row (List Cell)) → drop n r.cells ≡ l.arguments → r.level ≡ l.level → AreAfter n rows l.fn.states.items → TakenTo n rows r l.i l.states.items;
}
