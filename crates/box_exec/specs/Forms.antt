-- The operands of comparisons.
use Rattle.sql_value.specs.declared.cell.Cell.{Cell}
use Rattle.box_exec.specs.declared.operand.OperandCell.{OperandCell}
use Rattle.box_exec.specs.declared.operand.OperandCell.TheVariants.{Borrowed, Made}

abbrev pub cell_held : OperandCell → Cell
cell_held (Borrowed cell) = cell.now
cell_held (Made cell) = cell
