use Rattle.std.proofs.Common.{ℕ, ◌≡◌, drop}
use Rattle.list_laws.specs.Lists.{In}
use Rattle.qgm_core.specs.Boxes.{HasBox}
use Rattle.qgm_core.specs.Held.{HasAll}
use Rattle.rule_feed.specs.FeedCode.{AreReaders}
use Rattle.rule_feed.specs.FeedSteps.{put_each}
use Rattle.rule_feed.proofs.feed.edits.put_each.Given as goal

-- what is left completes it
abbrev pub invariant-loop-b : goal.invariant-loop-b
invariant-loop-b l = record {
  so_far : put_each (drop l.b-index l.ids) l.q l.cells l.graph ≡ put_each l.ids l.q l.cells l.initial.graph;
  held : (b : ℕ) → In b l.ids → HasBox b l.graph;
  kept : HasAll l.initial.graph l.graph;
  readers : AreReaders l.readers l.q l.graph.boxes;
}
