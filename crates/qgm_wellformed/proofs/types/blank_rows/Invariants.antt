use Rattle.std.proofs.Common.{◌≡◌, length}
use Rattle.qgm_wellformed.proofs.types.blank_rows.Given as goal

abbrev pub invariant-loop-node : goal.invariant-loop-node
invariant-loop-node l = length l.rows.items ≡ l.node-index
