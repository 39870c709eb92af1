use Rattle.group_states.proofs.Rows.{values-more}
use Rattle.group_states.proofs.states.append_values.Goals as goal

pub loop-state-preserved : goal.loop-state-preserved
loop-state-preserved c = λ n rows so.
    values-more n rows c.loop-state.yielded c.in-Some.state c.in_ok-value.field-0 c.args.out.now.items c.loop-state.out.items c.push.new.self.items c.in_ok-push.ensures.items c.in_ok-value.ensures
    (c.loop-state.invariant n rows) so
