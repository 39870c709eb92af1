use Rattle.std.proofs.Common.{◌≡◌, ◌++◌, [], drop, map}
use Rattle.row_bag.specs.Beside.{beside}
use Rattle.row_bag.proofs.joins.beside_each.Given as goal

abbrev pub invariant-loop-i : goal.invariant-loop-i
invariant-loop-i l = record {
  made : l.made ++ map (beside l.left) (drop l.i l.ys) ≡ map (beside l.left) l.ys;
  drained : l.cells.items ≡ [];
}
