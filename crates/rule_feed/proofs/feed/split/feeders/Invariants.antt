use Rattle.std.proofs.Common.{◌≡◌, ◌++◌, drop, filter}
use Rattle.rule_feed.specs.FeedCode.{feeds_by}
use Rattle.rule_feed.proofs.feed.split.feeders.Given as goal

-- what is left completes them
abbrev pub invariant-loop-r : goal.invariant-loop-r
invariant-loop-r l = l.out.items ++ filter (feeds_by l.free) (drop l.r-index l.list) ≡ filter (feeds_by l.free) l.list
