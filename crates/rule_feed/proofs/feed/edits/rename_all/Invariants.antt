use Rattle.std.proofs.Common.{ℕ, ◌≡◌, drop}
use Rattle.list_laws.specs.Lists.{In}
use Rattle.qgm_core.specs.Boxes.{HasBox}
use Rattle.qgm_core.specs.Held.{HasAll}
use Rattle.rule_feed.specs.FeedSteps.{renamed_all, sizes_in}
use Rattle.rule_feed.proofs.feed.edits.rename_all.Given as goal

-- what is left completes it
abbrev pub invariant-loop-r : goal.invariant-loop-r
invariant-loop-r l = record {
  so_far : renamed_all l.ids l.q l.start (sizes_in l.nodes (drop l.r-index l.list)) l.graph ≡ renamed_all l.ids l.q 0 (sizes_in l.nodes l.list) l.initial.graph;
  held : (b : ℕ) → In b l.ids → HasBox b l.graph;
  kept : HasAll l.initial.graph l.graph;
}
