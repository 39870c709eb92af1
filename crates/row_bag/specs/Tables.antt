-- Tables by name.
use Rattle.std.specs.Prelude.{ℕ, Bool, List, [], ◌∷◌, Option, Some, None, if◌then◌else◌, nat_eq}
use Rattle.std.specs.Cmp.Lexicographic.{pointwise}
use Rattle.sql_value.specs.declared.cell.Cell.{Cell}
use Rattle.row_bag.specs.declared.row.Row.{Row}
use Rattle.row_bag.specs.declared.tables.Table.{Table}

-- a table has this name
abbrev pub has_name : List ℕ → Table → Bool
has_name name table = pointwise nat_eq table.name name

-- the rows of the first table of a name
abbrev pub bag_named : List Table → List ℕ → Option (List (Row (List Cell)))
bag_named [] name = None
bag_named (table ∷ tables) name = if has_name name table then Some table.bag else bag_named tables name

-- the first table of a name without its rows, and all else as it is
abbrev pub without_rows : List Table → List ℕ → List Table
without_rows [] name = []
without_rows (table ∷ tables) name = if has_name name table then record table { bag = [] } ∷ tables else table ∷ without_rows tables name
