use Rattle.std.proofs.Common.{◌≡◌, take}
use Rattle.qgm_core.specs.Boxes.{numbers}
use Rattle.rule_feed.proofs.feed.edits.numbers_of.Given as goal

abbrev pub invariant-loop-node : goal.invariant-loop-node
invariant-loop-node l = l.out.items ≡ numbers (take l.node-index l.nodes)
