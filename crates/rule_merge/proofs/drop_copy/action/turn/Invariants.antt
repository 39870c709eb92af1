use Rattle.std.proofs.Common.{ℕ, ◌≡◌, drop}
use Rattle.qgm_core.specs.Boxes.{HasBox, HasQuant}
use Rattle.qgm_core.specs.Edits.{on_boxes}
use Rattle.list_laws.specs.Lists.{In}
use Rattle.rule_merge.specs.DropCopySteps.{turned}
use Rattle.rule_merge.proofs.drop_copy.action.turn.Given as goal

-- what is left makes the graph, and has what it needs
abbrev pub invariant-loop-q : goal.invariant-loop-q
invariant-loop-q l = record {
  rest : on_boxes (turned l.c (drop l.q-index l.list)) l.graph ≡ on_boxes (turned l.c l.list) l.initial.graph;
  held : HasBox l.c l.graph;
  owned : (q : ℕ) → In q l.list → HasQuant q l.graph;
}
