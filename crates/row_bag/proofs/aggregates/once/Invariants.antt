use Rattle.std.proofs.Common.{◌≡◌, ◌≤◌, [], ◌∷◌, drop, length, map, reverse}
use Rattle.sql_value.specs.declared.cell.Cell.{Cell}
use Rattle.row_bag.specs.Aggregates.{same_cell}
use Rattle.row_bag.specs.Hashes.{hashes_of}
use Rattle.row_bag.specs.Sets.{once}
use Rattle.row_bag.specs.declared.row.Row.{Row}
use Rattle.row_bag.proofs.aggregates.once.Given as goal

abbrev pub invariant-loop-i : goal.invariant-loop-i
invariant-loop-i l = record {
  within : l.i ≤ length l.rows;
  index : l.index ≡ hashes_of (map (λ (r : Row Cell). r.cells ∷ []) l.kept.items);
  kept : reverse l.kept.items ≡ once same_cell (drop l.i l.rows);
}

abbrev pub decreases-loop-i : goal.decreases-loop-i
decreases-loop-i l = l.i
