-- Rows at places, and in an order.
use Rattle.std.specs.Prelude.{ℕ, ◌<◌, ⊤, All, List, [], get_or, length, map}
use Rattle.sql_value.specs.declared.cell.Cell.{Cell}
use Rattle.sql_value.specs.declared.level.Level.TheVariants.{Yes}
use Rattle.row_bag.specs.Bags.{row}
use Rattle.row_bag.specs.declared.ordered.Order.{Order}
use Rattle.row_bag.specs.declared.ordered.Order.TheVariants.{AsTheyStand, Places}
use Rattle.row_bag.specs.declared.row.Row.{Row}

-- the row at a place; one of no cells past the end
abbrev pub row_at : List (Row (List Cell)) → ℕ → Row (List Cell)
row_at rows place = get_or rows place (row [] Yes)

-- the rows at places, in the order of these
abbrev pub rows_at : List (Row (List Cell)) → List ℕ → List (Row (List Cell))
rows_at rows order = map (row_at rows) order

-- the rows of a bag in an order
abbrev pub taken_in : Order → List (Row (List Cell)) → List (Row (List Cell))
taken_in AsTheyStand rows = rows
taken_in (Places places) rows = rows_at rows places.items

-- the places of an order are places of the rows
abbrev pub AreWithin : Order → List (Row (List Cell)) → Type 0
AreWithin AsTheyStand rows = ⊤
AreWithin (Places places) rows = All (λ p. p < length rows) places.items
