use Rattle.std.proofs.Common.{◌≡◌, drop}
use Rattle.list_laws.specs.Lists.{In}
use Rattle.qgm_core.specs.Boxes.{HasBox, HasQuant}
use Rattle.qgm_core.specs.Held.{HasAll}
use Rattle.qgm_core.specs.declared.owned.OwnedQuant.{OwnedQuant}
use Rattle.rule_feed.specs.FeedSteps.{moved_all}
use Rattle.rule_feed.proofs.feed.edits.move_all.Given as goal

-- what is left completes it
abbrev pub invariant-loop-r : goal.invariant-loop-r
invariant-loop-r l = record {
  so_far : moved_all l.s (drop l.r-index l.list) l.graph ≡ moved_all l.s l.list l.initial.graph;
  held : HasBox l.s l.graph;
  owned : (r : OwnedQuant) → In r l.list → HasQuant r.id l.graph;
  kept : HasAll l.initial.graph l.graph;
}
