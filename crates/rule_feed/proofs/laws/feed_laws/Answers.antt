use Rattle.rule_feed.specs.FeedMayExact.{feed-places}
use Rattle.rule_feed.proofs.FeedKeeps.{feed-preserves, firing-lowers}
use Rattle.rule_feed.proofs.FillMade.{fill-comes}
use Rattle.rule_feed.proofs.SettleMade.{settle-comes}
use Rattle.rule_feed.proofs.SplitMade.{split-comes}
use Rattle.rule_feed.proofs.TurnKeeps.{turn-preserves}
use Rattle.rule_feed.proofs.laws.feed_laws.Goals as goal

pub returns-clause-places : goal.returns-clause-places
returns-clause-places c = feed-places

pub returns-clause-turned : goal.returns-clause-turned
returns-clause-turned c = turn-preserves

pub returns-clause-preserves : goal.returns-clause-preserves
returns-clause-preserves c = feed-preserves

pub returns-clause-split : goal.returns-clause-split
returns-clause-split c = split-comes

pub returns-clause-filled : goal.returns-clause-filled
returns-clause-filled c = fill-comes

pub returns-clause-lowers : goal.returns-clause-lowers
returns-clause-lowers c = firing-lowers

pub returns-clause-settled : goal.returns-clause-settled
returns-clause-settled c = settle-comes
