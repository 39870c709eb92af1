use Rattle.std.proofs.Common.{◌≡◌, ◌++◌, reverse, length, ℕ}
use Rattle.sql_catalog.proofs.declare.reversed.Given as goal

abbrev pub invariant-loop-item : goal.invariant-loop-item
invariant-loop-item g l = l.all ++ reverse l.left ≡ reverse l.fn.items

abbrev pub decreases-loop-item : goal.decreases-loop-item
decreases-loop-item g l = length l.left
