use Rattle.std.proofs.Common.{◌≡◌, ◌+◌, List, drop, map}
use Rattle.sql_value.specs.declared.cell.Cell.{Cell}
use Rattle.row_bag.specs.Matched.{often}
use Rattle.row_bag.specs.Sets.{multiplicity, same_cells}
use Rattle.row_bag.proofs.matched.tuples_there.Given as goal

abbrev pub invariant-loop-i : goal.invariant-loop-i
invariant-loop-i l = (c : List Cell) → often c (map (λ x. x.now) l.tuples.items) + multiplicity same_cells c (drop l.i l.rows) ≡ multiplicity same_cells c l.rows
