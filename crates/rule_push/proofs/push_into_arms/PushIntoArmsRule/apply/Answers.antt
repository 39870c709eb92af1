use Rattle.rule_push.specs.PushIntoArmsExact.{push_into_arms_given}
use Rattle.rule_push.proofs.PushIntoArmsSteps.{acts, first-there, from-there, preserves, second-there}
use Rattle.rule_push.proofs.push_into_arms.PushIntoArmsRule.apply.Goals as goal

pub push_both-requires-clause-from : goal.push_both-requires-clause-from
push_both-requires-clause-from c =
    from-there c.args.graph.now c.requires.formed c.args.place (push_into_arms_given c.args.graph.now c.requires.formed c.args.place c.requires.given) c.each_number_once.ensures c.in_ok-arms.arms c.in_ok-arms.ensures

pub push_both-requires-clause-to_first : goal.push_both-requires-clause-to_first
push_both-requires-clause-to_first c =
    first-there c.args.graph.now c.requires.formed c.args.place (push_into_arms_given c.args.graph.now c.requires.formed c.args.place c.requires.given) c.each_number_once.ensures c.in_ok-arms.arms c.in_ok-arms.ensures

pub push_both-requires-clause-to_second : goal.push_both-requires-clause-to_second
push_both-requires-clause-to_second c =
    second-there c.args.graph.now c.requires.formed c.args.place (push_into_arms_given c.args.graph.now c.requires.formed c.args.place c.requires.given) c.each_number_once.ensures c.in_ok-arms.arms c.in_ok-arms.ensures

pub returns-clause-acts : goal.returns-clause-acts
returns-clause-acts c =
    acts c.args.graph.now c.requires.formed c.args.place (push_into_arms_given c.args.graph.now c.requires.formed c.args.place c.requires.given) c.each_number_once.ensures c.in_ok-arms.arms c.in_ok-arms.ensures c.push_both.new.graph c.in_ok-push_both.ensures.ok

pub returns-clause-preserves : goal.returns-clause-preserves
returns-clause-preserves c =
    preserves c.args.graph.now c.requires.formed c.args.place (push_into_arms_given c.args.graph.now c.requires.formed c.args.place c.requires.given) c.each_number_once.ensures c.in_ok-arms.arms c.in_ok-arms.ensures c.push_both.new.graph c.in_ok-push_both.ensures.ok
