-- What is made from the number 7.
use Rattle.std.specs.Prelude.{◌≡◌, pos, [], ◌∷◌, codes}
use Rattle.sql_value.specs.declared.cell.Cell.TheVariants.{Int, Text}
use Rattle.generated_input.specs.Made.{draw, made, number, row}

pub record OfSeven : Type 0 where
  pub first : number 7 1 ≡ 1282168116
  pub second : number 7 2 ≡ 642666333
  pub draws : draw 7 0 ∷ draw 7 1 ∷ [] ≡ 19564 ∷ 9806 ∷ []
  -- no row of EMP, and one of DEPT
  pub tables : made 7 0 ≡ record { name = codes "DEPT"; bag = row (Int (pos 1) ∷ Text (codes "B14") ∷ Int (pos 806) ∷ []) ∷ [] } ∷ record { name = codes "EMP"; bag = [] } ∷ []
