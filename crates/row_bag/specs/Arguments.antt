-- Arguments of aggregates.
use Rattle.std.specs.Prelude.{ℕ, ◌-◌, ◌*◌, ◌^◌, ℤ, pos, ◌+ℤ◌, ◌≤ℤ◌, Bool, true, false}
use Rattle.row_bag.specs.declared.row.Row.{Row}
use Rattle.sql_value.specs.declared.cell.Cell.{Cell}
use Rattle.sql_value.specs.declared.cell.Cell.TheVariants.{Null}

abbrev unless_cell_null : Cell → Bool
unless_cell_null Null = false
unless_cell_null cell = true

-- the cell isn't null
abbrev pub is_value : Row Cell → Bool
is_value r = unless_cell_null r.cells

-- a total that so many numbers of 64 bits can have
abbrev pub IsTotalOf : ℕ → ℤ → Type 0
IsTotalOf count total = (total ≤ℤ pos ((2 ^ 63 - 1) * count)) × (pos 0 ≤ℤ (total +ℤ pos (2 ^ 63 * count)))
