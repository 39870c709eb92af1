use Rattle.std.proofs.Common.{◌<◌, ◌∙◌, ap, arith, length}
use Rattle.std.proofs.Math.Seq.{map-set_same}
use Rattle.std.proofs.lemmas.Grind.{common_steps}
use Rattle.group_states.specs.declared.state.State.{State}
use Rattle.group_states.proofs.Rows.{taken-goes}
use Rattle.group_states.proofs.states.take_arguments.Goals as goal

pub loop-i-preserved : goal.loop-i-preserved
loop-i-preserved c =
    let states = c.loop-i.states.items in
    let inside : c.loop-i.i < length states = grind (arith, common_steps) in
    record {
      folds = map-set_same (λ (s : State). s.fold) states c.loop-i.i c.take.new.self c.index_mut.result.now (c.in_ok-take.ensures.fold ∙ ap (λ (s : State). s.fold) c.index_mut.ensures.value) ∙ c.loop-i.invariant.folds;
      done = λ n rows r ea el so.
          taken-goes n rows r c.loop-i.i states c.index_mut.result.now c.take.new.self c.args.arguments.now c.cell_at.result.now c.args.level ea el c.cell_at.ensures inside c.index_mut.ensures.value c.in_ok-take.ensures.after
          (c.loop-i.invariant.done n rows r ea el so);
    }
