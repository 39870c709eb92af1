-- What is kept of the arguments of an aggregate, and what comes of it.
use Rattle.std.specs.Prelude.{◌≡◌, ℕ, zero, suc, ◌+◌, nat_eq, if◌then◌else◌, ℤ, pos, ◌+ℤ◌, List, [], ◌∷◌}
use Rattle.row_bag.specs.Aggregates.{count_cell, exact_total, greater_cell, lesser_cell, mean, number_in, sum, unless_null}
use Rattle.row_bag.specs.Arguments.{IsTotalOf}
use Rattle.row_bag.specs.Bags.{bind, total, unit}
use Rattle.row_bag.specs.Joins.{how_many}
use Rattle.row_bag.specs.Verdict.{those_there}
use Rattle.row_bag.specs.declared.row.Row.{Row}
use Rattle.sql_value.specs.declared.aggregate.Aggregate.{Aggregate}
use Rattle.sql_value.specs.declared.aggregate.Aggregate.TheVariants as aggregate
use Rattle.sql_value.specs.declared.cell.Cell.{Cell}
use Rattle.sql_value.specs.declared.cell.Cell.TheVariants.{Null, Err}
use Rattle.sql_value.specs.declared.cell.Kind.TheVariants as kind
use Rattle.group_states.specs.declared.running.Running.{Running}

-- ---- the arguments that count

-- of `Single` each one, else each that isn't null
abbrev pub counting : Aggregate → Cell → List (Row Cell)
counting aggregate.Single = unit
counting aggregate.Count = unless_null
counting aggregate.Sum = unless_null
counting aggregate.Avg = unless_null
counting aggregate.Min = unless_null
counting aggregate.Max = unless_null

abbrev pub counted : Aggregate → List (Row Cell) → List (Row Cell)
counted f cells = bind cells (counting f)

-- ---- what is kept of them

-- the total that an aggregate asks for
abbrev pub total_of : Aggregate → List (Row Cell) → ℤ
total_of aggregate.Single cells = pos 0
total_of aggregate.Count cells = pos 0
total_of aggregate.Sum cells = exact_total (counted aggregate.Sum cells)
total_of aggregate.Avg cells = exact_total (counted aggregate.Avg cells)
total_of aggregate.Min cells = pos 0
total_of aggregate.Max cells = pos 0

-- the first cell, null of none
abbrev pub first_cell : List (Row Cell) → Cell
first_cell [] = Null
first_cell (r ∷ rows) = r.cells

-- the cell that an aggregate asks for: the first, the least or the greatest one
abbrev pub cell_kept : Aggregate → List (Row Cell) → Cell
cell_kept aggregate.Single cells = first_cell (those_there cells)
cell_kept aggregate.Count cells = Null
cell_kept aggregate.Sum cells = Null
cell_kept aggregate.Avg cells = Null
cell_kept aggregate.Min cells = total lesser_cell Null (λ c level. c) (counted aggregate.Min cells)
cell_kept aggregate.Max cells = total greater_cell Null (λ c level. c) (counted aggregate.Max cells)

-- what is kept is that of these arguments
pub record IsRunning (f : Aggregate) (cells : List (Row Cell)) (r : Running) : Type 0 where
  pub count : r.count ≡ how_many (counted f cells)
  pub sum : r.total ≡ total_of f cells
  pub within : IsTotalOf r.count r.total
  pub kept : r.cell ≡ cell_kept f cells

abbrev pub of_none : Running
of_none = record { count = 0; total = pos 0; cell = Null }

-- ---- one argument more

-- the total after an argument that counts
abbrev pub total_with : Aggregate → ℤ → Cell → ℤ
total_with aggregate.Single n cell = n
total_with aggregate.Count n cell = n
total_with aggregate.Sum n cell = n +ℤ number_in cell
total_with aggregate.Avg n cell = n +ℤ number_in cell
total_with aggregate.Min n cell = n
total_with aggregate.Max n cell = n

-- the cell that is kept after one more than so many
abbrev pub cell_with : Aggregate → ℕ → Cell → Cell → Cell
cell_with aggregate.Single count kept cell = if nat_eq count 0 then cell else kept
cell_with aggregate.Count count kept cell = kept
cell_with aggregate.Sum count kept cell = kept
cell_with aggregate.Avg count kept cell = kept
cell_with aggregate.Min count kept cell = lesser_cell kept cell
cell_with aggregate.Max count kept cell = greater_cell kept cell

pub record HasAdded (f : Aggregate) (cell : Cell) (old new : Running) : Type 0 where
  pub count : new.count ≡ old.count + 1
  pub sum : new.total ≡ total_with f old.total cell
  pub within : IsTotalOf old.count old.total → IsTotalOf new.count new.total
  pub kept : new.cell ≡ cell_with f old.count old.cell cell

-- ---- what comes of it

-- of none null, of one argument this cell, and else the cardinality error
abbrev pub single : ℕ → Cell → Cell
single zero cell = Null
single (suc zero) cell = cell
single (suc (suc n)) cell = Err kind.Cardinality

abbrev pub finished : Aggregate → Running → Cell
finished aggregate.Single r = single r.count r.cell
finished aggregate.Count r = count_cell r.count
finished aggregate.Sum r = sum r.count r.total
finished aggregate.Avg r = mean r.count r.total
finished aggregate.Min r = r.cell
finished aggregate.Max r = r.cell
