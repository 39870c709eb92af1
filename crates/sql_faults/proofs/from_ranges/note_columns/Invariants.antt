use Rattle.std.proofs.Common.{◌≡◌, ℕ, List, drop}
use Rattle.sql_faults.specs.Found.{found, joined, told_of}
use Rattle.sql_faults.specs.Scopes.{columns_named}
use Rattle.sql_faults.proofs.from_ranges.note_columns.Given as goal

abbrev pub invariant-loop-column : goal.invariant-loop-column
invariant-loop-column l =
    (name : List ℕ) → joined (told_of l.finds.entries name) (found (columns_named name (drop l.column-index l.columns))) ≡ joined (told_of l.initial.finds.entries name) (found (columns_named name l.columns))
