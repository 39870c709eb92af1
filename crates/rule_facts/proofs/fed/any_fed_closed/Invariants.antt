use Rattle.std.proofs.Common.{◌≡◌, drop}
use Rattle.std.specs.List.{list_any}
use Rattle.rule_facts.specs.FedClosed.{fed_closed}
use Rattle.rule_facts.proofs.fed.any_fed_closed.Given as goal

-- what is left decides
abbrev pub invariant-loop-node : goal.invariant-loop-node
invariant-loop-node l = list_any (fed_closed l.graph.boxes) (drop l.node-index l.node-items) ≡ list_any (fed_closed l.graph.boxes) l.graph.boxes
