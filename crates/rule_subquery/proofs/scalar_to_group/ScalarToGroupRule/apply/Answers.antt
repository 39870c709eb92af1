use Rattle.rule_subquery.specs.ScalarToGroupExact.{scalar-to-group-exact}
use Rattle.rule_subquery.proofs.scalar_to_group.ScalarToGroupRule.apply.Goals as goal

pub grouped-requires-clause-given : goal.grouped-requires-clause-given
grouped-requires-clause-given c = (scalar-to-group-exact c.args.graph.now c.args.place.at c.args.place.i c.args.place.j).0 c.requires.given
