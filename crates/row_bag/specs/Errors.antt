-- The errors among rows.
use Rattle.std.specs.Prelude.{Option, Some, None, List}
use Rattle.sql_value.specs.Cells.{error_of, worst_of}
use Rattle.sql_value.specs.declared.cell.Cell.{Cell}
use Rattle.sql_value.specs.declared.cell.Kind.{Kind}
use Rattle.sql_value.specs.declared.cell.Kind.TheVariants as kind
use Rattle.sql_value.specs.declared.level.Level.{Level}
use Rattle.sql_value.specs.declared.level.Level.TheVariants.{No, Cardinality, Division, Overflow, Yes}
use Rattle.row_bag.specs.Bags.{fold_map, total}
use Rattle.row_bag.specs.declared.row.Row.{Row}

-- the error that a level is
abbrev pub error_at : Level → Option Kind
error_at No = None
error_at Cardinality = Some kind.Cardinality
error_at Division = Some kind.Division
error_at Overflow = Some kind.Overflow
error_at Yes = None

-- the greatest error among cells
abbrev pub error_in : List Cell → Option Kind
error_in cells = fold_map worst_of None error_of cells

-- the greatest error among the levels and the tuples of the rows that are there, where this is the error that a tuple holds
abbrev pub error_among : {T : Type 0} → (T → Option Kind) → List (Row T) → Option Kind
error_among held rows = total worst_of None (λ cells level. worst_of (error_at level) (held cells)) rows
