-- The rows of an operand.
use Rattle.std.specs.Prelude.{List}
use Rattle.sql_value.specs.declared.cell.Cell.{Cell}
use Rattle.row_bag.specs.declared.operand.Operand.{Operand}
use Rattle.row_bag.specs.declared.operand.Operand.TheVariants.{Borrowed, Made}
use Rattle.row_bag.specs.declared.row.Row.{Row}

abbrev pub held : Operand → List (Row (List Cell))
held (Borrowed rows) = rows.now
held (Made bag) = bag
