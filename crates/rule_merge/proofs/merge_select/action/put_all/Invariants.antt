use Rattle.std.proofs.Common.{◌≡◌, length}
use Rattle.qgm_core.specs.Boxes.{HasBox}
use Rattle.qgm_core.specs.Edits.{on_boxes}
use Rattle.list_laws.specs.Lists.{In}
use Rattle.rule_merge.specs.MergeSelectSteps.{put_all}
use Rattle.rule_merge.specs.declared.merge_select.action.NewTerms.{NewTerms}
use Rattle.rule_merge.proofs.merge_select.action.put_all.Given as goal

-- what is left makes the graph, and has what it needs
abbrev pub invariant-loop-t : goal.invariant-loop-t
invariant-loop-t l = record {
  rest : on_boxes (put_all l.left.items) l.graph ≡ on_boxes (put_all l.initial.left.items) l.initial.graph;
  held : (t : NewTerms) → In t l.left.items → HasBox t.at l.graph;
}

abbrev pub decreases-loop-t : goal.decreases-loop-t
decreases-loop-t l = length l.left.items
