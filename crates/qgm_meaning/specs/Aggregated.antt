-- The aggregates of expressions.
use Rattle.sql_value.specs.declared.aggregate.Aggregate.{Aggregate}
use Rattle.sql_value.specs.declared.aggregate.Aggregate.TheVariants.{Single, Count, Sum, Avg, Min, Max}
use Rattle.sql_value.specs.declared.aggregate.Taken.{Taken}
use Rattle.sql_value.specs.declared.aggregate.Taken.TheVariants.{All, Distinct}
use Rattle.qgm_terms.specs.Terms as t

abbrev pub aggregate_of : t.Aggregate → Aggregate
aggregate_of t.single = Single
aggregate_of t.count = Count
aggregate_of t.sum = Sum
aggregate_of t.avg = Avg
aggregate_of t.least = Min
aggregate_of t.greatest = Max

abbrev pub taken_of : t.Taken → Taken
taken_of t.all_of = All
taken_of t.each_once = Distinct
