use Rattle.std.proofs.Common.{◌≡◌, ◌+◌, List, drop, map, min}
use Rattle.sql_value.specs.declared.cell.Cell.{Cell}
use Rattle.row_bag.specs.Hashes.{AreDifferent, hashes_of}
use Rattle.row_bag.specs.Matched.{often}
use Rattle.row_bag.specs.Sets.{multiplicity, same_cells}
use Rattle.row_bag.proofs.matched.tuples_once.Given as goal

abbrev pub invariant-loop-i : goal.invariant-loop-i
invariant-loop-i l = record {
  index : l.index ≡ hashes_of (map (λ x. x.now) l.tuples.items);
  once : AreDifferent (map (λ x. x.now) l.tuples.items);
  counts : (c : List Cell) → min 1 (often c (map (λ x. x.now) l.tuples.items) + multiplicity same_cells c (drop l.i l.rows)) ≡ min 1 (multiplicity same_cells c l.rows);
}
