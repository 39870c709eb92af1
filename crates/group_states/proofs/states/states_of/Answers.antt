use Rattle.std.proofs.Common.{[], arith}
use Rattle.std.proofs.lemmas.Grind.{common_steps}
use Rattle.std.proofs.lemmas.List.Elements.{All-push}
use Rattle.group_states.specs.States.{IsAfter}
use Rattle.group_states.specs.declared.state.State.{State}
use Rattle.group_states.proofs.states.states_of.Goals as goal

pub loop-fold-preserved : goal.loop-fold-preserved
loop-fold-preserved c = record {
  folds = grind (arith, common_steps, c.loop-fold.invariant.folds, c.in_ok-push.ensures.items, c.new.ensures.fold);
  after = λ n. rw c.in_ok-push.ensures.items (All-push (λ (s : State). IsAfter [] s) c.loop-fold.states.items c.new.result (c.loop-fold.invariant.after n) c.new.ensures.after);
}
