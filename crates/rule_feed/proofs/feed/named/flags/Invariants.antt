use Rattle.std.proofs.Common.{suc, ◌≡◌, ◌++◌, ◌-◌}
use Rattle.rule_feed.specs.FeedCode.{named_among}
use Rattle.rule_feed.specs.NamedColumns.{flags}
use Rattle.rule_feed.proofs.feed.named.flags.Given as goal

-- what is left completes them
abbrev pub invariant-loop-k : goal.invariant-loop-k
invariant-loop-k l = l.list.items ++ flags (λ k. named_among l.marks l.q k l.nodes) (suc l.k) (l.w - l.k) ≡ flags (λ k. named_among l.marks l.q k l.nodes) 1 l.w
