use Rattle.std.proofs.Common.{◌≡◌, drop}
use Rattle.qgm_core.specs.Boxes.{owns}
use Rattle.list_laws.specs.Lists.{first}
use Rattle.rule_trans.proofs.known.owner_of.Given as goal

-- what is left decides
abbrev pub invariant-loop-node : goal.invariant-loop-node
invariant-loop-node l = first (owns l.q) l.nodes ≡ first (owns l.q) (drop l.node-index l.nodes)
