use Rattle.std.proofs.Common.{◌≡◌, drop}
use Rattle.std.specs.Prelude.{slice_get}
use Rattle.qgm_props.specs.Laws.{KeptOf}
use Rattle.rule_engine.specs.Control.{at_box}
use Rattle.rule_engine.proofs.selection.first_at_box.Given as goal

-- what is left decides
abbrev pub invariant-loop-rule : goal.invariant-loop-rule
invariant-loop-rule g l = record {
  found : slice_get (at_box (g.T.Rules.pairs l.table) (drop l.rule-index l.rules) l.graph l.b) 0 ≡ slice_get (at_box (g.T.Rules.pairs l.table) l.rules l.graph l.b) 0;
  known : KeptOf l.known l.graph.boxes;
}
