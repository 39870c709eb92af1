use Rattle.rule_push.specs.PushIntoLeftExact.{push_into_left_given}
use Rattle.rule_push.proofs.PushIntoLeftSteps.{through}
use Rattle.rule_push.proofs.push_into_left.plan_at.Goals as goal

pub plan_through-requires-clause-leaves : goal.plan_through-requires-clause-leaves
plan_through-requires-clause-leaves c = through c.args.graph.now c.args.place (push_into_left_given c.args.graph.now c.requires.formed c.args.place c.requires.given)

pub returns : goal.returns
returns c = λ m. c.in_ok-m.ensures (through c.args.graph.now c.args.place m)
