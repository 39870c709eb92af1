use Rattle.std.proofs.Common.{arith}
use Rattle.std.proofs.lemmas.Grind.{common_steps}
use Rattle.rule_push.specs.PushThroughGroupExact.{push_through_group_ascending}
use Rattle.rule_push.proofs.push_through_group.PushThroughGroupRule.places.Goals as goal

pub returns-in_err-passes-clause-order : goal.returns-in_err-passes-clause-order
returns-in_err-passes-clause-order c = grind (arith, common_steps, push_through_group_ascending)

pub returns-in_err-add_if-clause-order : goal.returns-in_err-add_if-clause-order
returns-in_err-add_if-clause-order c = grind (arith, common_steps, push_through_group_ascending)

pub returns-clause-order : goal.returns-clause-order
returns-clause-order c = grind (arith, common_steps, push_through_group_ascending)
