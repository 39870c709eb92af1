-- Rows in the order of keys.
use Rattle.std.specs.Prelude.{List, [], ◌∷◌, if◌then◌else◌}
use Rattle.std.specs.Ordering.{is_gt}
use Rattle.sql_value.specs.declared.cell.Cell.{Cell}
use Rattle.sql_value.specs.declared.order_key.OrderKey.{OrderKey}
use Rattle.row_bag.specs.declared.row.Row.{Row}
use Rattle.row_bag.specs.Order.{compare_by}

-- the row before the first of the rows that it is not above
unfoldable pub insert_row : List OrderKey → Row (List Cell) → List (Row (List Cell)) → List (Row (List Cell))
insert_row keys row [] = row ∷ []
insert_row keys row (r ∷ rows) = if is_gt (compare_by keys row r) then r ∷ insert_row keys row rows else row ∷ r ∷ rows

-- the rows by the keys, and then by all columns ascending
unfoldable pub sorted_rows : List OrderKey → List (Row (List Cell)) → List (Row (List Cell))
sorted_rows keys [] = []
sorted_rows keys (row ∷ rows) = insert_row keys row (sorted_rows keys rows)
