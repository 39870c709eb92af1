-- Rows beside rows (SQL-92, 7.4 and 7.5).
use Rattle.std.specs.Prelude.{ℕ, ◌+◌, nat_eq, if◌then◌else◌, List, ◌++◌}
use Rattle.sql_value.specs.declared.truth.Truth.{Truth}
use Rattle.row_bag.specs.Bags.{bind, keep, total, unit}
use Rattle.row_bag.specs.declared.row.Row.{Row}

-- a product: each row of the first beside each of the second, at the least of both levels
abbrev pub product : {X : Type 0} → List (Row (List X)) → List (Row (List X)) → List (Row (List X))
product xs ys = bind xs (λ row. bind ys (λ others. unit (row ++ others)))

-- how many rows there are
abbrev pub how_many : {T : Type 0} → List (Row T) → ℕ
how_many rows = total ◌+◌ 0 (λ row level. 1) rows

-- these rows, or where none of them is there these others
abbrev pub or_else : {T : Type 0} → List (Row T) → List (Row T) → List (Row T)
or_else rows others = if nat_eq (how_many rows) 0 then others else rows

-- the partners of a left row: each right row beside it, at the least of its level and the ON's true-level
abbrev pub partners : {X : Type 0} → (List X → Truth) → List (Row (List X)) → List X → List (Row (List X))
partners on ys row = bind ys (λ others. keep (on (row ++ others)).t (unit (row ++ others)))

-- a left join: each left row with its partners; where every partner is at no, the left row stands once with nulls
abbrev pub left_join : {X : Type 0} → (List X → Truth) → List X → List (Row (List X)) → List (Row (List X)) → List (Row (List X))
left_join on nulls xs ys = bind xs (λ row. or_else (partners on ys row) (unit (row ++ nulls)))
