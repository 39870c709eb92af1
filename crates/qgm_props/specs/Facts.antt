-- What holds of the rows of a bag.
use Rattle.std.specs.Prelude.{ℕ, ◌≡◌, ◌≢◌, ◌≤◌, Bool, true, false, List, [], ◌∷◌, ⊤}
use Rattle.row_bag.specs.AsSets.{is_clean}
use Rattle.row_bag.specs.Joins.{how_many}
use Rattle.row_bag.specs.Order.{cell_of}
use Rattle.row_bag.specs.Verdict.{is_there}
use Rattle.sql_value.specs.Arithmetic.{fits_i64}
use Rattle.sql_value.specs.declared.cell.Cell.{Cell}
use Rattle.sql_value.specs.declared.cell.Cell.TheVariants.{Int, Text, Null, Err}
use Rattle.qgm_meaning.specs.Values.{Bag}

-- each of these
abbrev pub Each : {X : Type 0} → (X → Type 0) → List X → Type 0
Each P [] = ⊤
Each P (x ∷ xs) = P x × Each P xs

-- the tuple of each row that is there
abbrev pub EachThere : (List Cell → Type 0) → Bag → Type 0
EachThere P rows = Each (λ r. is_there r ≡ true → P r.cells) rows

-- no row is at an error level
abbrev pub IsClean : Bag → Type 0
IsClean rows = is_clean rows ≡ true

-- a cell is no error; a number is one of 64 bits, as all are
abbrev pub is_sound : Cell → Bool
is_sound (Int n) = fits_i64 n
is_sound (Text s) = true
is_sound Null = true
is_sound (Err k) = false

-- no row that is there holds an error in column k
abbrev pub IsErrorFree : ℕ → Bag → Type 0
IsErrorFree k rows = EachThere (λ cells. is_sound (cell_of k cells) ≡ true) rows

-- no row that is there holds a null in column k
abbrev pub IsNotNull : ℕ → Bag → Type 0
IsNotNull k rows = EachThere (λ cells. cell_of k cells ≢ Null) rows

-- at most one row is there, and exactly one
abbrev pub HasAtMostOne : Bag → Type 0
HasAtMostOne rows = how_many rows ≤ 1

abbrev pub HasExactlyOne : Bag → Type 0
HasExactlyOne rows = how_many rows ≡ 1
