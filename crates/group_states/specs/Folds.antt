-- The cells of a group that aren't of its key.
use Rattle.std.specs.Prelude.{List}
use Rattle.row_bag.specs.Aggregates.{count_rows, folded}
use Rattle.row_bag.specs.declared.row.Row.{Row}
use Rattle.sql_value.specs.declared.cell.Cell.{Cell}
use Rattle.sql_value.specs.declared.cell.Cell.TheVariants.{Null}
use Rattle.group_states.specs.declared.fold.Fold.{Fold}
use Rattle.group_states.specs.declared.fold.Fold.TheVariants.{Rows, Of, Nothing}

-- what a cell is of the arguments that the rows of a group give
abbrev pub cell_of : Fold → List (Row Cell) → Cell
cell_of Rows cells = count_rows cells
cell_of (Of f each) cells = folded f each cells
cell_of Nothing cells = Null
