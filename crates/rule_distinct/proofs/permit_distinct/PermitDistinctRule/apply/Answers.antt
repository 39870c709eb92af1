use Rattle.rule_distinct.specs.PermitDistinctExact.{permit-distinct-exact}
use Rattle.rule_distinct.proofs.permit_distinct.PermitDistinctRule.apply.Goals as goal

pub permitted-requires-clause-given : goal.permitted-requires-clause-given
permitted-requires-clause-given c = (permit-distinct-exact c.args.graph.now c.args.place.at c.args.place.i c.args.place.j).0 c.requires.given
