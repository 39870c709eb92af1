-- Bags that agree have one answer.
use Rattle.std.specs.Prelude.{◌≡◌, ℕ, List, Option}
use Rattle.row_bag.specs.Bags.{Agree}
use Rattle.row_bag.specs.Sets.{same_cells}
use Rattle.row_bag.specs.Verdict.{verdict}
use Rattle.row_bag.specs.declared.row.Row.{Row}
use Rattle.sql_meaning.specs.Meaning.{answer_of}
use Rattle.sql_value.specs.declared.cell.Cell.{Cell}
use Rattle.sql_value.specs.declared.order_key.OrderKey.{OrderKey}

-- under any names and in the order of any keys
abbrev pub AnswersAlike : Type 0
AnswersAlike = (names : List (Option (List ℕ))) → (keys : List OrderKey) → (xs : List (Row (List Cell))) → (ys : List (Row (List Cell))) → Agree same_cells xs ys
    → answer_of names keys (verdict xs) ≡ answer_of names keys (verdict ys)
