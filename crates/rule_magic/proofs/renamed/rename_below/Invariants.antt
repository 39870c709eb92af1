use Rattle.std.proofs.Common.{◌≡◌, drop}
use Rattle.std.specs.Prelude.{filter}
use Rattle.list_laws.specs.Lists.{holds}
use Rattle.qgm_core.specs.Boxes.{numbers}
use Rattle.qgm_core.specs.Held.{HasAll}
use Rattle.rule_feed.specs.FeedSteps.{put_each}
use Rattle.rule_magic.proofs.renamed.rename_below.Given as goal

-- what is left completes it
abbrev pub invariant-loop-node : goal.invariant-loop-node
invariant-loop-node l = record {
  so_far : put_each (filter (λ b. holds b l.marks) (numbers (drop l.node-index l.node-items))) l.a l.cells l.after ≡ put_each (filter (λ b. holds b l.marks) (numbers l.node-items)) l.a l.cells l.initial.after;
  held : HasAll l.graph l.after;
  kept : HasAll l.initial.after l.after;
}
