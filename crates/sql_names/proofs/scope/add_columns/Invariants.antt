use Rattle.std.proofs.Common.{◌++◌, ℕ, List, Option, take}
use Rattle.sql_meaning.specs.Occurrences.{Indexes}
use Rattle.sql_names.specs.Places.{names_in}
use Rattle.sql_names.specs.Ranges.{shape}
use Rattle.sql_names.proofs.scope.add_columns.Given as goal

abbrev pub invariant-loop-range : goal.invariant-loop-range
invariant-loop-range l = (before : List (Option (List ℕ))) → Indexes before l.initial.index → Indexes (before ++ names_in (shape (take l.range-index l.ranges))) l.index
