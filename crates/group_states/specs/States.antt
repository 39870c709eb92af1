-- What is kept of the arguments that the rows of a group give.
use Rattle.std.specs.Prelude.{◌≡◌, ⊤, Bool, true, false, List, []}
use Rattle.row_bag.specs.Bags.{unit}
use Rattle.row_bag.specs.Errors.{error_among, error_at}
use Rattle.row_bag.specs.Joins.{how_many}
use Rattle.row_bag.specs.Verdict.{those_there}
use Rattle.row_bag.specs.declared.row.Row.{Row}
use Rattle.sql_value.specs.Cells.{error_of, worst_of}
use Rattle.sql_value.specs.declared.aggregate.Aggregate.{Aggregate}
use Rattle.sql_value.specs.declared.aggregate.Taken.TheVariants.{All, Distinct}
use Rattle.sql_value.specs.declared.cell.Cell.{Cell}
use Rattle.sql_value.specs.declared.level.Level.{Level}
use Rattle.sql_value.specs.declared.level.Level.TheVariants.{No, Cardinality, Division, Overflow, Yes}
use Rattle.group_states.specs.Running.{HasAdded, IsRunning, counting}
use Rattle.group_states.specs.declared.fold.Fold.{Fold}
use Rattle.group_states.specs.declared.fold.Fold.TheVariants.{Rows, Of, Nothing}
use Rattle.group_states.specs.declared.state.State.{State}

-- a row at a level is there
abbrev pub is_there : Level → Bool
is_there No = false
is_there Cardinality = true
is_there Division = true
is_there Overflow = true
is_there Yes = true

-- a state after these arguments, by the cell that it is for
abbrev pub IsAfterBy : Fold → List (Row Cell) → State → Type 0
IsAfterBy Rows cells s = s.running.count ≡ how_many cells
IsAfterBy (Of f All) cells s = (s.error ≡ error_among error_of cells) × IsRunning f cells s.running
IsAfterBy (Of f Distinct) cells s = s.cells.items ≡ those_there cells
IsAfterBy Nothing cells s = ⊤

abbrev pub IsAfter : List (Row Cell) → State → Type 0
IsAfter cells s = IsAfterBy s.fold cells s

-- an argument of a row that is there has been taken
pub record HasTaken (f : Aggregate) (cell : Cell) (level : Level) (old new : State) : Type 0 where
  pub fold : new.fold ≡ old.fold
  pub error : new.error ≡ worst_of old.error (worst_of (error_at level) (error_of cell))
  pub passed : counting f cell ≡ [] → new.running ≡ old.running
  pub added : counting f cell ≡ unit cell → HasAdded f cell old.running new.running
