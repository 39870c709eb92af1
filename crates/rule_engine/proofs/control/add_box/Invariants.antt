use Rattle.std.proofs.Common.{◌≡◌, ◌++◌, take}
use Rattle.qgm_props.specs.Laws.{KeptOf}
use Rattle.rule_engine.specs.Control.{at_box}
use Rattle.rule_engine.proofs.control.add_box.Given as goal

abbrev pub invariant-loop-rule : goal.invariant-loop-rule
invariant-loop-rule g l = record {
  found : l.out.items ≡ l.initial.out.items ++ at_box (g.T.Rules.pairs l.table) (take l.rule-index l.rules) l.graph l.b;
  known : KeptOf l.known l.graph.boxes;
}
