use Rattle.std.proofs.Common.{◌≡◌, ℕ, None, get_or, take}
use Rattle.list_laws.specs.Lists.{first}
use Rattle.qgm_core.specs.Boxes.{owns, range_in}
use Rattle.qgm_props.proofs.range_table.noted.Given as goal

abbrev pub invariant-loop-node : goal.invariant-loop-node
invariant-loop-node l = (q : ℕ) → get_or l.by_number.items q None ≡ range_in q (first (owns q) (take l.node-index l.nodes))
