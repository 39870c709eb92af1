use Rattle.std.proofs.Common.{◌≡◌, drop}
use Rattle.rule_feed.specs.FeedCode.{named_among}
use Rattle.rule_feed.proofs.feed.condition.is_named.Given as goal

-- what is left decides
abbrev pub invariant-loop-node : goal.invariant-loop-node
invariant-loop-node l = named_among l.marks l.q l.k (drop l.node-index l.nodes) ≡ named_among l.marks l.q l.k l.nodes
