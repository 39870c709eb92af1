use Rattle.std.proofs.Common.{◌≡◌, ◌++◌, drop}
use Rattle.rule_feed.specs.FeedCode.{fs}
use Rattle.rule_feed.proofs.feed.condition.fs_of.Given as goal

-- what is left adds the rest
abbrev pub invariant-loop-q : goal.invariant-loop-q
invariant-loop-q l = l.out.items ++ fs (drop l.q-index l.list) ≡ fs l.list
