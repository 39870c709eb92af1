-- Groups of rows of which so many first cells are a key, and the others arguments.
use Rattle.std.specs.Prelude.{◌≡◌, ℕ, ◌+◌, min, ◌<◌, All, get_or, List, [], ◌∷◌, ◌++◌, length, map, take}
use Rattle.row_bag.specs.Bags.{bind, row, unit}
use Rattle.row_bag.specs.Groups.{rows_of}
use Rattle.row_bag.specs.Matched.{often}
use Rattle.row_bag.specs.Sets.{grouped, multiplicity, same_cells}
use Rattle.row_bag.specs.Verdict.{those_there}
use Rattle.row_bag.specs.declared.row.Row.{Row}
use Rattle.sql_value.specs.declared.cell.Cell.{Cell}
use Rattle.sql_value.specs.declared.cell.Cell.TheVariants.{Null}
use Rattle.group_states.specs.Folds.{cell_of}
use Rattle.group_states.specs.States.{IsAfter}
use Rattle.group_states.specs.declared.fold.Fold.{Fold}
use Rattle.group_states.specs.declared.state.State.{State}
use Rattle.group_states.specs.declared.keyed.KeyedStates.{KeyedStates}
use Rattle.group_states.specs.declared.table.GroupTable.{GroupTable}

abbrev pub Bag : Type 0
Bag = List (Row (List Cell))

-- ---- what the groups are

-- what a cell is in a row, null where it has none
abbrev pub argument : ℕ → Row (List Cell) → Row Cell
argument k r = row (get_or r.cells k Null) r.level

-- a cell for each of these, whose arguments are the cells of the rows from this one on
abbrev pub cells_from : ℕ → List Fold → Bag → List Cell
cells_from k [] rows = []
cells_from k (f ∷ folds) rows = cell_of f (map (argument k) rows) ∷ cells_from (k + 1) folds rows

-- a key, and the other cells of its group
abbrev pub group_of : ℕ → List Fold → List Cell → Bag → List Cell
group_of n folds key rows = key ++ cells_from n folds rows

-- one row for each key that occurs
abbrev pub groups_of : ℕ → List Fold → Bag → Bag
groups_of n folds rows = grouped same_cells (take n) (group_of n folds) rows

-- ---- what is kept of them

-- states after rows whose arguments begin at this cell
abbrev pub AreAfter : ℕ → Bag → List State → Type 0
AreAfter n rows states = (j : ℕ) (d : State) → j < length states → IsAfter (map (argument (n + j)) rows) (get_or states j d)

abbrev pub IsGroup : ℕ → List Fold → Bag → KeyedStates → Type 0
IsGroup n folds rows g = (map (λ s. s.fold) g.states.items ≡ folds) × AreAfter n (rows_of n g.key.items rows) g.states.items

-- each key of these rows has one group, which has taken its rows
pub record AreGroups (n : ℕ) (folds : List Fold) (rows : Bag) (groups : List KeyedStates) : Type 0 where
  pub own : All (IsGroup n folds rows) groups
  pub keys : (k : List Cell) → often k (map (λ g. g.key.items) groups) ≡ min 1 (multiplicity same_cells k (bind rows (λ cells. unit (take n cells))))

-- a table that has taken these rows
pub record HasRows (n : ℕ) (folds : List Fold) (rows : Bag) (table : GroupTable) : Type 0 where
  pub many : table.keys ≡ n
  pub asked : table.folds.items ≡ folds
  pub groups : AreGroups n folds (those_there rows) table.groups.items
