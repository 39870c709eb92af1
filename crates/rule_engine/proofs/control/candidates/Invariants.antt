use Rattle.std.proofs.Common.{◌≡◌, take}
use Rattle.std.specs.List.{flat_map}
use Rattle.qgm_props.specs.Laws.{KeptOf}
use Rattle.rule_engine.specs.Control.{at_box}
use Rattle.rule_engine.proofs.control.candidates.Given as goal

abbrev pub invariant-loop-b : goal.invariant-loop-b
invariant-loop-b g l = record {
  found : l.out.items ≡ flat_map (at_box (g.T.Rules.pairs l.table) l.rules.items l.graph) (take l.b-index l.b-items);
  known : KeptOf l.known l.graph.boxes;
}
