use Rattle.std.proofs.lemmas.Grind.{common_steps}
use Rattle.std.proofs.Common.{◌≡◌, ◌<◌, length, rules, arith}
use Rattle.qgm_core.specs.Walk.{walk}
use Rattle.rule_engine.proofs.Walked.{read-held}
use Rattle.rule_engine.proofs.control.candidates.Goals as goal

pub add_box-requires-clause-held : goal.add_box-requires-clause-held
add_box-requires-clause-held g c =
    let boxes : c.deref-b-items.result.now ≡ walk c.args.plan.now.walk c.args.graph.now = search rules in
    let within : c.loop-b.b-index < length c.deref-b-items.result.now = search rules in
    read-held c.args.plan.now.walk c.args.graph.now c.requires c.deref-b-items.result.now boxes c.loop-b.b-index within

pub loop-b-preserved : goal.loop-b-preserved
loop-b-preserved g c = grind (arith, common_steps)
