use Rattle.std.proofs.Common.{◌≡◌, ℕ, List, drop}
use Rattle.sql_faults.specs.Columns.{all_columns}
use Rattle.sql_faults.specs.Found.{found, joined, told_of}
use Rattle.sql_faults.specs.Scopes.{columns_named}
use Rattle.sql_faults.proofs.from_ranges.note_ranges.Given as goal

abbrev pub invariant-loop-range : goal.invariant-loop-range
invariant-loop-range l =
    (name : List ℕ)
    → joined (told_of l.finds.entries name) (found (columns_named name (all_columns (drop l.range-index l.ranges)))) ≡ joined (told_of l.initial.finds.entries name) (found (columns_named name (all_columns l.ranges)))
