use Rattle.rule_push.specs.PushIntoLeftExact.{push_into_left_given}
use Rattle.rule_push.proofs.PushIntoLeftSteps.{acts, from-there, preserves, to-there}
use Rattle.rule_push.proofs.push_into_left.PushIntoLeftRule.apply.Goals as goal

pub push-requires-clause-from : goal.push-requires-clause-from
push-requires-clause-from c =
    from-there c.args.graph.now c.requires.formed c.args.place (push_into_left_given c.args.graph.now c.requires.formed c.args.place c.requires.given) c.each_number_once.ensures c.in_ok-m.m c.in_ok-m.ensures

pub push-requires-clause-to : goal.push-requires-clause-to
push-requires-clause-to c =
    to-there c.args.graph.now c.requires.formed c.args.place (push_into_left_given c.args.graph.now c.requires.formed c.args.place c.requires.given) c.each_number_once.ensures c.in_ok-m.m c.in_ok-m.ensures

pub returns-clause-acts : goal.returns-clause-acts
returns-clause-acts c =
    acts c.args.graph.now c.requires.formed c.args.place (push_into_left_given c.args.graph.now c.requires.formed c.args.place c.requires.given) c.each_number_once.ensures c.in_ok-m.m c.in_ok-m.ensures c.push.new.graph c.in_ok-push.ensures.ok

pub returns-clause-preserves : goal.returns-clause-preserves
returns-clause-preserves c =
    preserves c.args.graph.now c.requires.formed c.args.place (push_into_left_given c.args.graph.now c.requires.formed c.args.place c.requires.given) c.each_number_once.ensures c.in_ok-m.m c.in_ok-m.ensures c.push.new.graph c.in_ok-push.ensures.ok
