-- The sample.
use Rattle.std.proofs.Common.{refl}
use Rattle.rule_feed.specs.FeedSample.{Fed}

pub sampled : Fed
sampled = record { f_before = refl; f_after = refl; f_rows = refl; e_before = refl; e_after = refl; e_rows = refl; a_after = refl; a_rows = refl }
