use Rattle.std.proofs.Common.{◌≡◌, ◌+◌, drop, length}
use Rattle.rule_feed.specs.FeedCode.{feeds_by}
use Rattle.rule_feed.specs.Turn.{before_first}
use Rattle.rule_feed.proofs.feed.split.before.Given as goal

-- what is left completes them
abbrev pub invariant-loop-k : goal.invariant-loop-k
invariant-loop-k l = l.k + length (before_first (feeds_by l.free) (drop l.k l.list)) ≡ length (before_first (feeds_by l.free) l.list)
