use Rattle.std.proofs.Common.{arith}
use Rattle.std.proofs.lemmas.Grind.{common_steps}
use Rattle.rule_trans.specs.EqualColumnsExact.{equal_columns_ascending}
use Rattle.rule_trans.proofs.Rows.{none_found}
use Rattle.rule_trans.proofs.equal_columns.EqualColumnsRule.places.Goals as goal

pub returns-then-not-may_have-clause-list : goal.returns-then-not-may_have-clause-list
returns-then-not-may_have-clause-list c = grind (arith, common_steps, none_found)

pub returns-then-not-may_have-clause-order : goal.returns-then-not-may_have-clause-order
returns-then-not-may_have-clause-order c = equal_columns_ascending c.args.graph.now c.args.b

pub returns-in_err-facts-clause-order : goal.returns-in_err-facts-clause-order
returns-in_err-facts-clause-order c = equal_columns_ascending c.args.graph.now c.args.b

pub returns-in_err-add_places-clause-order : goal.returns-in_err-add_places-clause-order
returns-in_err-add_places-clause-order c = equal_columns_ascending c.args.graph.now c.args.b

pub returns-clause-order : goal.returns-clause-order
returns-clause-order c = equal_columns_ascending c.args.graph.now c.args.b
