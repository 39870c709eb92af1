use Rattle.std.proofs.Common.{◌≡◌, ◌+◌, List, drop, map}
use Rattle.sql_value.specs.declared.cell.Cell.{Cell}
use Rattle.row_bag.specs.Hashes.{AreDifferent, hashes_of}
use Rattle.row_bag.specs.Matched.{left_of}
use Rattle.row_bag.specs.Sets.{multiplicity, same_cells}
use Rattle.row_bag.specs.declared.matched.Left.{Left}
use Rattle.row_bag.proofs.matched.counted.Given as goal

abbrev pub invariant-loop-i : goal.invariant-loop-i
invariant-loop-i l = record {
  index : l.index ≡ hashes_of (map (λ (x : Left). x.cells.now) l.items.items);
  once : AreDifferent (map (λ (x : Left). x.cells.now) l.items.items);
  counts : (c : List Cell) → left_of (λ (x : Left). x.cells.now) (λ (x : Left). x.count) c l.items.items + multiplicity same_cells c (drop l.i l.rows) ≡ multiplicity same_cells c l.rows;
}
