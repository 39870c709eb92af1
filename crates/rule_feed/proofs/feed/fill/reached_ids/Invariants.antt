use Rattle.std.proofs.Common.{◌≡◌, ◌++◌, drop, filter}
use Rattle.qgm_core.specs.Boxes.{numbers}
use Rattle.list_laws.specs.Lists.{holds}
use Rattle.rule_feed.proofs.feed.fill.reached_ids.Given as goal

-- what is left completes them
abbrev pub invariant-loop-node : goal.invariant-loop-node
invariant-loop-node l = l.out.items ++ filter (λ z. holds z l.marks) (numbers (drop l.node-index l.nodes)) ≡ filter (λ z. holds z l.marks) (numbers l.nodes)
