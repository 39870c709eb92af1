use Rattle.rule_distinct.specs.DropUnionDistinctExact.{drop-union-distinct-exact}
use Rattle.rule_distinct.proofs.drop_union_distinct.DropUnionDistinctRule.apply.Goals as goal

pub dropped-requires-clause-given : goal.dropped-requires-clause-given
dropped-requires-clause-given c = (drop-union-distinct-exact c.args.graph.now c.args.place.at c.args.place.i c.args.place.j).0 c.requires.given
