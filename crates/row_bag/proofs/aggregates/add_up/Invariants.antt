use Rattle.std.proofs.Common.{◌≡◌, ◌≤◌, ◌+◌, ◌+ℤ◌, drop}
use Rattle.row_bag.specs.Aggregates.{exact_total}
use Rattle.row_bag.specs.Joins.{how_many}
use Rattle.row_bag.specs.Arguments.{IsTotalOf}
use Rattle.row_bag.proofs.aggregates.add_up.Given as goal

abbrev pub invariant-loop-row : goal.invariant-loop-row
invariant-loop-row l = record {
  counted : l.count + how_many (drop l.row-index l.rows) ≡ how_many l.rows;
  below : l.count ≤ l.row-index;
  added : l.total +ℤ exact_total (drop l.row-index l.rows) ≡ exact_total l.rows;
  within : IsTotalOf l.count l.total;
}
