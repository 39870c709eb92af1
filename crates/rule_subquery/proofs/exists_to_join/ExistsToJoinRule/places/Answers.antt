use Rattle.rule_subquery.specs.ExistsToJoinExact.{exists-to-join-ascend}
use Rattle.rule_subquery.proofs.exists_to_join.ExistsToJoinRule.places.Goals as goal

pub returns-in_err-facts-clause-order : goal.returns-in_err-facts-clause-order
returns-in_err-facts-clause-order c = exists-to-join-ascend c.args.graph.now c.args.b

pub returns-in_err-each-clause-order : goal.returns-in_err-each-clause-order
returns-in_err-each-clause-order c = exists-to-join-ascend c.args.graph.now c.args.b

pub returns-in_err-add_if-clause-order : goal.returns-in_err-add_if-clause-order
returns-in_err-add_if-clause-order c = exists-to-join-ascend c.args.graph.now c.args.b

pub returns-clause-order : goal.returns-clause-order
returns-clause-order c = exists-to-join-ascend c.args.graph.now c.args.b
