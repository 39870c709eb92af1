use Rattle.std.proofs.Common.{◌≡◌, drop}
use Rattle.qgm_core.specs.Boxes.{is_box}
use Rattle.list_laws.specs.Lists.{first}
use Rattle.qgm_check.proofs.columns_fit.box_at.Given as goal

-- what is left decides
abbrev pub invariant-loop-node : goal.invariant-loop-node
invariant-loop-node l = first (is_box l.b) l.nodes ≡ first (is_box l.b) (drop l.node-index l.nodes)
