use Rattle.std.proofs.Common.{◌≡◌, ◌++◌, drop}
use Rattle.rule_feed.specs.FeedCode.{readers}
use Rattle.rule_feed.proofs.feed.edits.readers.Given as goal

-- what is left adds the rest
abbrev pub invariant-loop-node : goal.invariant-loop-node
invariant-loop-node l = l.marks ++ readers l.q (drop l.node-index l.nodes) ≡ readers l.q l.nodes
