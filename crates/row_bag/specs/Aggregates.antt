-- Aggregates of the cells that rows give as arguments (SQL-92, 6.5).
use Rattle.std.specs.Prelude.{ℕ, ◌-◌, ◌^◌, min, zero, suc, Bool, List, [], ◌∷◌, ℤ, pos, ◌+ℤ◌, int_div, if◌then◌else◌}
use Rattle.std.specs.Ordering.{is_eq, is_le}
use Rattle.sql_value.specs.Arithmetic.{error_or, in_range}
use Rattle.sql_value.specs.Cells.{cell_compare, error_of}
use Rattle.sql_value.specs.declared.aggregate.Aggregate.{Aggregate}
use Rattle.sql_value.specs.declared.aggregate.Aggregate.TheVariants as aggregate
use Rattle.sql_value.specs.declared.aggregate.Taken.{Taken}
use Rattle.sql_value.specs.declared.aggregate.Taken.TheVariants as taken
use Rattle.sql_value.specs.declared.cell.Cell.{Cell}
use Rattle.sql_value.specs.declared.cell.Cell.TheVariants.{Int, Null, Err}
use Rattle.sql_value.specs.declared.cell.Kind.TheVariants as kind
use Rattle.row_bag.specs.Bags.{bind, total, unit}
use Rattle.row_bag.specs.Errors.{error_among}
use Rattle.row_bag.specs.Joins.{how_many}
use Rattle.row_bag.specs.Sets.{once}
use Rattle.row_bag.specs.Verdict.{those_there}
use Rattle.row_bag.specs.declared.row.Row.{Row}

-- ---- the arguments that count

-- two cells are the same data
abbrev pub same_cell : Cell → Cell → Bool
same_cell a b = is_eq (cell_compare a b)

-- nulls are left out
abbrev pub unless_null : Cell → List (Row Cell)
unless_null Null = []
unless_null cell = unit cell

-- with DISTINCT, equal values are taken once
abbrev pub as_taken : Taken → List (Row Cell) → List (Row Cell)
as_taken taken.All cells = cells
as_taken taken.Distinct cells = once same_cell cells

-- the values among arguments
abbrev pub values : Taken → List (Row Cell) → List (Row Cell)
values each cells = as_taken each (bind cells unless_null)

-- ---- what they come to

-- the number that a cell is
abbrev pub number_in : Cell → ℤ
number_in (Int n) = n
number_in _ = pos 0

-- the exact total
abbrev pub exact_total : List (Row Cell) → ℤ
exact_total cells = total ◌+ℤ◌ (pos 0) (λ c level. number_in c) cells

-- any COUNT above 9223372036854775807 is that number
abbrev pub count_cell : ℕ → Cell
count_cell n = Int (pos (min n (2 ^ 63 - 1)))

-- the lesser of two cells, of which null is none
abbrev pub lesser_cell : Cell → Cell → Cell
lesser_cell Null y = y
lesser_cell x Null = x
lesser_cell x y = if is_le (cell_compare x y) then x else y

-- the greater of two cells, of which null is none
abbrev pub greater_cell : Cell → Cell → Cell
greater_cell Null y = y
greater_cell x Null = x
greater_cell x y = if is_le (cell_compare x y) then y else x

-- over nothing null, and else the mean of the exact total, truncated toward zero
abbrev pub mean : ℕ → ℤ → Cell
mean zero n = Null
mean (suc count) n = Int (int_div n (pos (suc count)))

-- over nothing null, and else the exact total, which is the overflow error where it leaves 64 bits
abbrev pub sum : ℕ → ℤ → Cell
sum zero n = Null
sum (suc count) n = in_range n

-- of the cells that are there: of none null, of one this cell, and else the cardinality error
abbrev pub single_of_those : List (Row Cell) → Cell
single_of_those [] = Null
single_of_those (r ∷ []) = r.cells
single_of_those (r ∷ q ∷ rows) = Err kind.Cardinality

-- ---- aggregates

-- an aggregate of arguments of which none is an error; `Single` counts nulls as well, and those that are equal
abbrev pub of_arguments : Aggregate → Taken → List (Row Cell) → Cell
of_arguments aggregate.Single each cells = single_of_those (those_there cells)
of_arguments aggregate.Count each cells = count_cell (how_many (values each cells))
of_arguments aggregate.Sum each cells = sum (how_many (values each cells)) (exact_total (values each cells))
of_arguments aggregate.Avg each cells = mean (how_many (values each cells)) (exact_total (values each cells))
of_arguments aggregate.Min each cells = total lesser_cell Null (λ c level. c) (values each cells)
of_arguments aggregate.Max each cells = total greater_cell Null (λ c level. c) (values each cells)

-- the greatest error among the arguments, if one is an error, and else the aggregate of those that count
abbrev pub folded : Aggregate → Taken → List (Row Cell) → Cell
folded f each cells = error_or (error_among error_of cells) (of_arguments f each cells)

-- COUNT(*) counts rows
abbrev pub count_rows : {T : Type 0} → List (Row T) → Cell
count_rows rows = count_cell (how_many rows)
