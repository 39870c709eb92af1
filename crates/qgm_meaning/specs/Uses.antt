-- What follows from a graph that is well scoped.
use Rattle.std.specs.Prelude.{ℕ, ◌≡◌, ◌++◌, List, drop, length}
use Rattle.row_bag.specs.Bags.{bind, unit}
use Rattle.row_bag.specs.Groups.{keys_of, rows_of}
use Rattle.row_bag.specs.Sets.{of_group, once, same_cells}
use Rattle.sql_value.specs.declared.cell.Cell.{Cell}
use Rattle.qgm_meaning.specs.Values.{Bag}

-- groups by a function of the rows are groups of keyed rows by their first cells
pub record Keyed : Type 0 where
  pub keys : (n : ℕ) (key : List Cell → List Cell) (rows : Bag) → ((c : List Cell) → length (key c) ≡ n) → keys_of n (bind rows (λ c. unit (key c ++ c))) ≡ once same_cells (bind rows (λ c. unit (key c)))
  pub members :
      (n : ℕ) (key : List Cell → List Cell) (rows : Bag) (k : List Cell) (f : List Cell → Cell) → ((c : List Cell) → length (key c) ≡ n)
      → bind (rows_of n k (bind rows (λ c. unit (key c ++ c)))) (λ cells. unit (f (drop n cells))) ≡ bind (of_group same_cells key k rows) (λ c. unit (f c))
