use Rattle.rule_distinct.specs.DropKeyDistinctExact.{drop_key_distinct_exact}
use Rattle.rule_distinct.proofs.drop_key_distinct.DropKeyDistinctRule.apply.Goals as goal

pub dropped-requires-clause-given : goal.dropped-requires-clause-given
dropped-requires-clause-given c = (drop_key_distinct_exact c.args.graph.now c.args.place.at c.args.place.i c.args.place.j c.each_number_once.ensures c.requires.formed).0 c.requires.given
