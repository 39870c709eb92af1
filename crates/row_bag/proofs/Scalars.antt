-- The value of rows, by the first row that is there.
use Rattle.std.proofs.Common.{◌≡◌, true, false, List, [], ◌∷◌, Option, Some, None, refl, sym, ap, ◌∙◌}
use Rattle.std.proofs.lemmas.Grind.{common_steps}
use Rattle.std.specs.List.{list_any}
use Rattle.row_bag.specs.Bags.{row}
use Rattle.row_bag.specs.Errors.{error_at}
use Rattle.row_bag.specs.Subqueries.{level_error, only_cell, scalar, scalar_of_those}
use Rattle.row_bag.specs.Verdict.{is_there, those_there}
use Rattle.row_bag.specs.declared.row.Row.{Row}
use Rattle.sql_value.specs.Arithmetic.{error_or}
use Rattle.sql_value.specs.Cells.{worst_of}
use Rattle.sql_value.specs.declared.cell.Cell.{Cell}
use Rattle.sql_value.specs.declared.cell.Cell.TheVariants.{Null}
use Rattle.sql_value.specs.declared.cell.Kind.{Kind}
use Rattle.sql_value.specs.declared.cell.Kind.TheVariants as kind
use Rattle.sql_value.specs.declared.level.Level.{Level}
use Rattle.sql_value.specs.declared.level.Level.TheVariants.{No, Cardinality, Division, Overflow, Yes}

abbrev Rows : Type 0
Rows = List (Row (List Cell))

error-there-one : (c : List Cell) (l : Level) (rows : Rows) → level_error (those_there rows) ≡ level_error rows → level_error (those_there (row c l ∷ rows)) ≡ level_error (row c l ∷ rows)
error-there-one c No rows h = h
error-there-one c Cardinality rows h = ap (worst_of (Some kind.Cardinality)) h
error-there-one c Division rows h = ap (worst_of (Some kind.Division)) h
error-there-one c Overflow rows h = ap (worst_of (Some kind.Overflow)) h
error-there-one c Yes rows h = ap (worst_of None) h

-- rows at no have no error
pub error-there : (rows : Rows) → level_error (those_there rows) ≡ level_error rows
error-there [] = refl
error-there (r ∷ rows) = error-there-one r.cells r.level rows (error-there rows)

-- a row that isn't there
pub scalar_skips : (r : Row (List Cell)) (rows : Rows) → is_there r ≡ false → scalar (r ∷ rows) ≡ scalar rows
scalar_skips r rows h = by r.cells r.level h
  where
    by : (c : List Cell) (l : Level) → is_there (row c l) ≡ false → scalar (row c l ∷ rows) ≡ scalar rows
    by c No h = refl
    by c Cardinality h = cc h
    by c Division h = cc h
    by c Overflow h = cc h
    by c Yes h = cc h

first-there : (c : List Cell) (l : Level) (rows : Rows) → is_there (row c l) ≡ true → those_there (row c l ∷ rows) ≡ row c l ∷ those_there rows
first-there c No rows h = cc h
first-there c Cardinality rows h = refl
first-there c Division rows h = refl
first-there c Overflow rows h = refl
first-there c Yes rows h = refl

none-there-one : (c : List Cell) (l : Level) (rows : Rows) → (list_any is_there rows ≡ false → those_there rows ≡ []) → list_any is_there (row c l ∷ rows) ≡ false → those_there (row c l ∷ rows) ≡ []
none-there-one c No rows h k = h k
none-there-one c Cardinality rows h k = cc k
none-there-one c Division rows h k = cc k
none-there-one c Overflow rows h k = cc k
none-there-one c Yes rows h k = cc k

none-there : (rows : Rows) → list_any is_there rows ≡ false → those_there rows ≡ []
none-there [] h = refl
none-there (r ∷ rows) h = none-there-one r.cells r.level rows (none-there rows) h

-- the only row that is there
pub scalar_one : (r : Row (List Cell)) (rows : Rows) → is_there r ≡ true → list_any is_there rows ≡ false → scalar (r ∷ rows) ≡ error_or (error_at r.level) (only_cell r.cells)
scalar_one r rows h k = ap scalar_of_those (first-there r.cells r.level rows h ∙ ap (λ (rs : Rows). r ∷ rs) (none-there rows k))

any-there : (rows : Rows) → list_any is_there rows ≡ true → list_any is_there (those_there rows) ≡ true
any-there [] h = h
any-there (r ∷ rows) h = by r.cells r.level (any-there rows) h
  where
    by : (c : List Cell) (l : Level) → (list_any is_there rows ≡ true → list_any is_there (those_there rows) ≡ true) → list_any is_there (row c l ∷ rows) ≡ true → list_any is_there (those_there (row c l ∷ rows)) ≡ true
    by c No g k = g k
    by c Cardinality g k = refl
    by c Division g k = refl
    by c Overflow g k = refl
    by c Yes g k = refl

-- the first of several rows that are there
pub scalar_several : (r : Row (List Cell)) (rows : Rows) → is_there r ≡ true → list_any is_there rows ≡ true → scalar (r ∷ rows) ≡ error_or (worst_of (Some kind.Cardinality) (level_error (r ∷ rows))) Null
scalar_several r rows h k =
    ap scalar_of_those (first-there r.cells r.level rows h)
    ∙ two (those_there rows) (any-there rows k)
    ∙ ap (λ (e : Option Kind). error_or (worst_of (Some kind.Cardinality) e) Null) (sym (ap level_error (first-there r.cells r.level rows h)) ∙ error-there (r ∷ rows))
  where
    two : (rs : Rows) → list_any is_there rs ≡ true → scalar_of_those (r ∷ rs) ≡ error_or (worst_of (Some kind.Cardinality) (level_error (r ∷ rs))) Null
    two [] g = cc g
    two (q ∷ rs) g = refl

pub ruleset scalar_steps = (common_steps, scalar_skips, scalar_one, scalar_several)
