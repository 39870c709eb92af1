-- What bags come to, where they agree.
use Rattle.std.specs.Prelude.{◌≡◌, List}
use Rattle.row_bag.specs.Aggregates.{folded}
use Rattle.row_bag.specs.Bags.{Alike}
use Rattle.row_bag.specs.Joins.{how_many, or_else}
use Rattle.row_bag.specs.Subqueries.{every, exists, scalar, some}
use Rattle.row_bag.specs.declared.row.Row.{Row}
use Rattle.sql_value.specs.declared.aggregate.Aggregate.{Aggregate}
use Rattle.sql_value.specs.declared.aggregate.Taken.{Taken}
use Rattle.sql_value.specs.declared.cell.Cell.{Cell}
use Rattle.sql_value.specs.declared.truth.Truth.{Truth}

-- the rows of a subquery, in whatever order
pub record SubqueriesAgree : Type 0 where
  pub value : (xs ys : List (Row (List Cell))) → Alike xs ys → scalar xs ≡ scalar ys
  pub presence : (xs ys : List (Row (List Cell))) → Alike xs ys → exists xs ≡ exists ys
  pub of_some : (test : List Cell → Truth) (xs ys : List (Row (List Cell))) → Alike xs ys → some test xs ≡ some test ys
  pub of_every : (test : List Cell → Truth) (xs ys : List (Row (List Cell))) → Alike xs ys → every test xs ≡ every test ys

-- the arguments of an aggregate, in whatever order
pub record AggregatesAgree : Type 0 where
  pub cells : (f : Aggregate) (each : Taken) (xs ys : List (Row Cell)) → Alike xs ys → folded f each xs ≡ folded f each ys

-- rows of any type
pub record RowsAgree (T : Type 0) : Type 0 where
  pub numbers : (xs ys : List (Row T)) → Alike xs ys → how_many xs ≡ how_many ys
  pub others : (xs ys others : List (Row T)) → Alike xs ys → Alike (or_else xs others) (or_else ys others)
