use Rattle.rule_push.proofs.Preserving.{push-into-arms-preserves, push-into-left-preserves, push-into-select-preserves, push-through-group-preserves}
use Rattle.rule_push.proofs.laws.push_laws.Goals as goal

pub returns-clause-into_select : goal.returns-clause-into_select
returns-clause-into_select c = push-into-select-preserves

pub returns-clause-through_group : goal.returns-clause-through_group
returns-clause-through_group c = push-through-group-preserves

pub returns-clause-into_arms : goal.returns-clause-into_arms
returns-clause-into_arms c = push-into-arms-preserves

pub returns-clause-into_left : goal.returns-clause-into_left
returns-clause-into_left c = push-into-left-preserves
