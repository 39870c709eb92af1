use Rattle.std.proofs.Common.{◌≡◌, ◌+◌, List, cond, drop, map}
use Rattle.sql_value.specs.declared.cell.Cell.{Cell}
use Rattle.sql_value.specs.declared.level.Level.{Level}
use Rattle.sql_value.specs.declared.level.Level.TheVariants.{Yes}
use Rattle.row_bag.specs.Bags.{count, same_level}
use Rattle.row_bag.specs.Hashes.{AreDifferent, hashes_of}
use Rattle.row_bag.specs.Matched.{left_of, often, part}
use Rattle.row_bag.specs.Sets.{same_cells}
use Rattle.row_bag.specs.declared.matched.Left.{Left}
use Rattle.row_bag.proofs.matched.parted.Given as goal

abbrev pub invariant-loop-cells : goal.invariant-loop-cells
invariant-loop-cells l = record {
  index : l.index ≡ hashes_of (map (λ (x : Left). x.cells.now) l.items.items);
  once : AreDifferent (map (λ (x : Left). x.cells.now) l.items.items);
  counts : (c : List Cell) (m : Level) → count same_cells c m l.kept + cond (same_level Yes m) (part l.matched (often c (map (λ x. x.now) (drop l.cells-index l.xs))) (left_of (λ (x : Left). x.cells.now) (λ (x : Left). x.count) c l.items.items)) 0
      ≡ cond (same_level Yes m) (part l.matched (often c (map (λ x. x.now) l.xs)) (left_of (λ (x : Left). x.cells.now) (λ (x : Left). x.count) c l.fn.items.items)) 0;
}
