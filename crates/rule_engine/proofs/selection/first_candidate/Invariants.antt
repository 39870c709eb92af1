use Rattle.std.proofs.Common.{◌≡◌, drop}
use Rattle.std.specs.List.{flat_map}
use Rattle.std.specs.Prelude.{slice_get}
use Rattle.qgm_props.specs.Laws.{KeptOf}
use Rattle.rule_engine.specs.Control.{at_box}
use Rattle.rule_engine.proofs.selection.first_candidate.Given as goal

-- what is left decides
abbrev pub invariant-loop-b : goal.invariant-loop-b
invariant-loop-b g l = record {
  found : slice_get (flat_map (at_box (g.T.Rules.pairs l.table) l.rules.items l.graph) (drop l.b-index l.b-items)) 0 ≡ slice_get (flat_map (at_box (g.T.Rules.pairs l.table) l.rules.items l.graph) l.b-items) 0;
  known : KeptOf l.known l.graph.boxes;
}
