use Rattle.rule_subquery.specs.ScalarToGroupExact.{scalar-to-group-ascend}
use Rattle.rule_subquery.proofs.scalar_to_group.ScalarToGroupRule.places.Goals as goal

pub returns-in_err-facts-clause-order : goal.returns-in_err-facts-clause-order
returns-in_err-facts-clause-order c = scalar-to-group-ascend c.args.graph.now c.args.b

pub returns-in_err-add_if-clause-order : goal.returns-in_err-add_if-clause-order
returns-in_err-add_if-clause-order c = scalar-to-group-ascend c.args.graph.now c.args.b

pub returns-clause-order : goal.returns-clause-order
returns-clause-order c = scalar-to-group-ascend c.args.graph.now c.args.b
