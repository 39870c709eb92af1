-- Cells beside the cells of rows.
use Rattle.std.specs.Prelude.{ℕ, List, ◌++◌, replicate}
use Rattle.row_bag.specs.Bags.{row}
use Rattle.row_bag.specs.declared.row.Row.{Row}
use Rattle.sql_value.specs.declared.cell.Cell.{Cell}
use Rattle.sql_value.specs.declared.cell.Cell.TheVariants.{Null}
use Rattle.sql_value.specs.declared.level.Level.TheVariants.{Yes}

-- cells, and then those of a row
abbrev pub beside : List Cell → Row (List Cell) → Row (List Cell)
beside cells r = row (cells ++ r.cells) r.level

-- cells, and then nulls
abbrev pub with_nulls : List Cell → ℕ → Row (List Cell)
with_nulls cells width = row (cells ++ replicate width Null) Yes
