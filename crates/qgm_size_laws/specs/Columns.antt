-- How many columns boxes have.
use Rattle.std.specs.Prelude.{ℕ, ◌+◌, List, [], ◌∷◌, length}
use Rattle.sql_value.specs.declared.order_key.SqlType.{SqlType}

-- of boxes, by the types of the columns of each
abbrev pub columns_in : List (List SqlType) → ℕ
columns_in [] = 0
columns_in (types ∷ rest) = length types + columns_in rest
