use Rattle.std.proofs.Common.{◌≡◌, ◌++◌, drop}
use Rattle.row_bag.specs.Joins.{product}
use Rattle.row_bag.proofs.joins.product.Given as goal

abbrev pub invariant-loop-i : goal.invariant-loop-i
invariant-loop-i l = l.made ++ product (drop l.i l.xs) l.ys ≡ product l.xs l.ys
