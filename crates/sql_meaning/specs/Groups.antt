-- Groups and aggregates (SQL-92, 6.5, 7.7 and 7.8).
use Rattle.std.specs.Prelude.{Bool, true, false, ◌&&◌, ℕ, List, [], ◌∷◌, map, Option, Some, None, if◌then◌else◌}
use Rattle.std.specs.List.{list_any}
use Rattle.row_bag.specs.Aggregates.{count_rows, folded}
use Rattle.row_bag.specs.Bags.{bind, unit}
use Rattle.row_bag.specs.Errors.{error_in}
use Rattle.row_bag.specs.Sets.{collapsed, grouped, same_cells}
use Rattle.row_bag.specs.declared.row.Row.{Row}
use Rattle.sql_ast.specs.declared.name.Column.{Column}
use Rattle.sql_ast.specs.declared.word.SetFunction.{SetFunction}
use Rattle.sql_ast.specs.declared.word.SetFunction.TheVariants as function
use Rattle.sql_ast.specs.declared.word.SetQuantifier.{SetQuantifier}
use Rattle.sql_ast.specs.declared.word.SetQuantifier.TheVariants as each
use Rattle.sql_ast.specs.Names.{same_name}
use Rattle.sql_value.specs.declared.aggregate.Aggregate.{Aggregate}
use Rattle.sql_value.specs.declared.aggregate.Aggregate.TheVariants as aggregate
use Rattle.sql_value.specs.declared.aggregate.Taken.{Taken}
use Rattle.sql_value.specs.declared.aggregate.Taken.TheVariants as taken
use Rattle.sql_value.specs.declared.cell.Cell.{Cell}
use Rattle.sql_value.specs.declared.cell.Cell.TheVariants.{Null, Err}
use Rattle.sql_value.specs.declared.cell.Kind.{Kind}
use Rattle.sql_meaning.specs.Scopes.{Frame, Shape, filled, frame_cells, is_named}
pub use Rattle.row_bag.specs.Aggregates.{count_cell}

-- DISTINCT is written; ALL is nothing
abbrev pub is_distinct : Option SetQuantifier → Bool
is_distinct (Some each.Distinct) = true
is_distinct _ = false

-- ---- aggregates, as the text writes them

-- the aggregate of a name
abbrev pub aggregate_of : SetFunction → Aggregate
aggregate_of function.Count = aggregate.Count
aggregate_of function.Sum = aggregate.Sum
aggregate_of function.Avg = aggregate.Avg
aggregate_of function.Min = aggregate.Min
aggregate_of function.Max = aggregate.Max

-- with DISTINCT where true stands
abbrev pub taken_of : Bool → Taken
taken_of true = taken.Distinct
taken_of false = taken.All

-- an aggregate of arguments
abbrev pub of_arguments : SetFunction → Bool → List (Row Cell) → Cell
of_arguments f distinct cells = folded (aggregate_of f) (taken_of distinct) cells

-- ---- groups

-- what the aggregates of a block see: the rows of a group, or the error of the whole grouping
pub data Group (F : Type 0) : Type 0 where
  members : List (Row F) → Group F
  failed : Kind → Group F

-- where there is no group
abbrev pub no_group : {F : Type 0} → Group F
no_group = members []

-- an aggregate of a group, by the argument in each of its rows
abbrev pub aggregated : {F : Type 0} → SetFunction → Bool → (F → Cell) → Group F → Cell
aggregated f distinct argument (members rows) = of_arguments f distinct (bind rows (λ frame. unit (argument frame)))
aggregated f distinct argument (failed k) = Err k

-- COUNT(*) counts rows
abbrev pub count_all : {F : Type 0} → Group F → Cell
count_all (members rows) = count_rows rows
count_all (failed k) = Err k

-- a range written before a column is this one, or none is written
abbrev pub range_means : Option (List ℕ) → List ℕ → Bool
range_means None name = true
range_means (Some range) name = same_name range name

-- a column of a FROM is a grouping column: `r.c` or `c` of GROUP BY means it
abbrev pub is_grouping : List Column → List ℕ → Option (List ℕ) → Bool
is_grouping by range column = list_any (λ c. is_named c.name column && range_means c.range range) by

-- null in all columns that aren't grouping columns
abbrev pub grouping_cells : List Column → List ℕ → List (Option (List ℕ)) → List Cell → List Cell
grouping_cells by range (column ∷ columns) (cell ∷ cells) = (if is_grouping by range column then cell else Null) ∷ grouping_cells by range columns cells
grouping_cells by range columns cells = []

-- the grouping cells of a row, under their names
abbrev pub key : List Column → Frame → Frame
key by frame = map (λ range. record { name = range.name; columns = range.columns; cells = grouping_cells by range.name range.columns range.cells }) frame

-- the cells are the same data, nulls too
abbrev pub same_key : Frame → Frame → Bool
same_key a b = same_cells (frame_cells a) (frame_cells b)

-- a row of a grouping: the grouping cells, and the group
pub record Grouped (F : Type 0) : Type 0 where
  pub key : F
  pub group : Group F

abbrev pub one_group : {F : Type 0} → F → Group F → Grouped F
one_group key group = record { key = key; group = group }

-- without GROUP BY one group, even over no row; else one for each tuple of grouping cells that occurs
abbrev pub groups_of : {F : Type 0} → Bool → (F → F → Bool) → (F → F) → F → List (Row F) → List (Row (Grouped F))
groups_of false same key empty rows = unit (one_group empty (members rows))
groups_of true same key empty rows = grouped same key (λ k group. one_group k (members group)) rows

-- the groups; one row, at the greatest error, where a row is at an error level or a grouping cell is an error, and every grouping cell and aggregate is that error then; its other columns are null, as those of each group
abbrev pub grouping : {F : Type 0} → Bool → (F → F → Bool) → (F → F) → (F → Option Kind) → (Cell → F) → List (Row F) → List (Row (Grouped F))
grouping keyed same key held filled_with rows =
    collapsed held (λ k. one_group (key (filled_with (Err k))) (failed k)) rows (groups_of keyed same key (filled_with Null) rows)

-- GROUP BY is written
abbrev pub is_keyed : List Column → Bool
is_keyed [] = false
is_keyed (c ∷ by) = true

-- the groups of a block, of frames
abbrev pub groups : List Column → Shape → List (Row Frame) → List (Row (Grouped Frame))
groups by ranges rows = grouping (is_keyed by) same_key (key by) (λ frame. error_in (frame_cells (key by frame))) (λ cell. filled cell ranges) rows
