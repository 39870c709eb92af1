-- Rows that stand elsewhere.
use Rattle.std.specs.Prelude.{List}
use Rattle.sql_value.specs.declared.cell.Cell.{Cell}
use Rattle.row_bag.specs.Bags.{row}
use Rattle.row_bag.specs.declared.row.Row.{Row}
use Rattle.row_bag.specs.declared.row.RowRef.{RowRef}

-- the row that is lent
abbrev pub lent : RowRef → Row (List Cell)
lent r = row r.cells.now r.level
