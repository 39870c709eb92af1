use Rattle.std.proofs.Common.{◌+◌, ◌++◌, ℕ, List, Option, take}
use Rattle.sql_meaning.specs.Occurrences.{Indexes}
use Rattle.sql_meaning.proofs.column_index.note_all.Given as goal

abbrev pub invariant-loop-i : goal.invariant-loop-i
invariant-loop-i l = (before : List (Option (List ℕ))) → Indexes before (l.initial.names.entries, l.first) → Indexes (before ++ take l.i l.columns) (l.names.entries, l.first + l.i)
