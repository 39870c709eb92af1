use Rattle.rule_feed.proofs.FeedMeasure.{feed-measured, feeding-lowers}
use Rattle.rule_feed.proofs.FeedOrder.{feed-bags, feed-tags}
use Rattle.rule_feed.proofs.FeedSample.{sampled}
use Rattle.rule_feed.proofs.FeedShaped.{feed-shaped}
use Rattle.rule_feed.proofs.FeedSound.{feed-sound}
use Rattle.rule_feed.proofs.FeedTyped.{feed-typed}
use Rattle.rule_feed.proofs.SplitBag.{split-bags}
use Rattle.rule_feed.proofs.SplitMeasure.{split-measured}
use Rattle.rule_feed.proofs.SplitRows.{split-rows}
use Rattle.rule_feed.proofs.SplitShaped.{split-shaped}
use Rattle.rule_feed.proofs.SplitSound.{split-sound}
use Rattle.rule_feed.proofs.SplitTyped.{split-typed}
use Rattle.rule_feed.proofs.laws.feeding_laws.Goals as goal

pub returns-clause-split : goal.returns-clause-split
returns-clause-split c = split-bags

pub returns-clause-split_rows : goal.returns-clause-split_rows
returns-clause-split_rows c = split-rows

pub returns-clause-split_sound : goal.returns-clause-split_sound
returns-clause-split_sound c = split-sound

pub returns-clause-split_typed : goal.returns-clause-split_typed
returns-clause-split_typed c = split-typed

pub returns-clause-split_shaped : goal.returns-clause-split_shaped
returns-clause-split_shaped c = split-shaped

pub returns-clause-fed : goal.returns-clause-fed
returns-clause-fed c = feed-bags

pub returns-clause-fed_sound : goal.returns-clause-fed_sound
returns-clause-fed_sound c = feed-sound

pub returns-clause-fed_typed : goal.returns-clause-fed_typed
returns-clause-fed_typed c = feed-typed

pub returns-clause-fed_shaped : goal.returns-clause-fed_shaped
returns-clause-fed_shaped c = feed-shaped

pub returns-clause-sample : goal.returns-clause-sample
returns-clause-sample c = sampled

pub returns-clause-split_measured : goal.returns-clause-split_measured
returns-clause-split_measured c = split-measured

pub returns-clause-fed_measured : goal.returns-clause-fed_measured
returns-clause-fed_measured c = feed-measured

pub returns-clause-fed_lowers : goal.returns-clause-fed_lowers
returns-clause-fed_lowers c = feeding-lowers

pub returns-clause-fed_tags : goal.returns-clause-fed_tags
returns-clause-fed_tags c = feed-tags
