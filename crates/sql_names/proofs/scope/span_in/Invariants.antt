use Rattle.std.proofs.Common.{◌≡◌, ◌+◌, drop}
use Rattle.sql_names.specs.Places as spec
use Rattle.sql_names.specs.Ranges.{shape}
use Rattle.sql_names.proofs.scope.span_in.Given as goal

abbrev pub invariant-loop-range : goal.invariant-loop-range
invariant-loop-range l = record {
  count : l.first + spec.width (shape (drop l.range-index l.ranges)) ≡ spec.width (shape l.ranges);
  found : spec.onward l.first (spec.span_in l.name (shape (drop l.range-index l.ranges))) ≡ spec.span_in l.name (shape l.ranges);
}
