use Rattle.std.proofs.Common.{◌≡◌, ℕ, List, map, take}
use Rattle.sql_meaning.specs.Occurrences.{occurrence, told_of}
use Rattle.sql_meaning.proofs.column_index.ColumnIndex.of.Given as goal

abbrev pub invariant-loop-place : goal.invariant-loop-place
invariant-loop-place l = (q : List ℕ) → told_of l.names.entries q ≡ occurrence q (map (λ column. column.now) (take l.place l.columns))
