use Rattle.std.proofs.Common.{◌≡◌, ◌++◌, drop}
use Rattle.sql_names.specs.Places.{names_in}
use Rattle.sql_names.specs.Shapes.{shape}
use Rattle.sql_names.proofs.names.push_all_names.Given as goal

abbrev pub invariant-loop-range : goal.invariant-loop-range
invariant-loop-range l = l.out ++ names_in (shape (drop l.range-index l.ranges)) ≡ l.initial.out ++ names_in (shape l.ranges)
