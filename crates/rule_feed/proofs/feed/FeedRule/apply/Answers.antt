use Rattle.rule_feed.specs.FeedMayExact.{feed_exact}
use Rattle.rule_feed.proofs.feed.FeedRule.apply.Goals as goal

pub fed_at-requires-clause-given : goal.fed_at-requires-clause-given
fed_at-requires-clause-given c = (feed_exact c.args.graph.now c.args.place.at c.args.place.i c.args.place.j c.each_number_once.ensures c.requires.formed).0 c.requires.given
