-- No cell, one, or several: the value of rows as a total, whose order doesn't count.
use Rattle.std.proofs.Common.{◌≡◌, ◌∙◌, List, [], ◌∷◌, Option, Some, None, refl, sym, ap, ap₂}
use Rattle.row_bag.specs.Aggregates.{single_of_those}
use Rattle.row_bag.specs.Bags.{IsCommutativeMonoid, fold_map, row, total}
use Rattle.row_bag.specs.Errors.{error_at}
use Rattle.row_bag.specs.Subqueries.{level_error, only_cell, scalar, scalar_of_those}
use Rattle.row_bag.specs.Verdict.{those_there}
use Rattle.row_bag.specs.declared.row.Row.{Row}
use Rattle.sql_value.specs.Arithmetic.{error_or}
use Rattle.sql_value.specs.Cells.{worst_of}
use Rattle.sql_value.specs.declared.cell.Cell.{Cell}
use Rattle.sql_value.specs.declared.cell.Cell.TheVariants.{Null, Err}
use Rattle.sql_value.specs.declared.cell.Kind.{Kind}
use Rattle.sql_value.specs.declared.cell.Kind.TheVariants as kind
use Rattle.sql_value.specs.declared.level.Level.{Level}
use Rattle.sql_value.specs.declared.level.Level.TheVariants.{No, Cardinality, Division, Overflow, Yes}
use Rattle.row_bag.proofs.Scalars.{error-there}

pub data Only : Type 0 where
  none : Only
  one : Cell → Only
  several : Only

abbrev pub beside : Only → Only → Only
beside none y = y
beside (one c) none = one c
beside (one c) (one d) = several
beside (one c) several = several
beside several y = several

-- null, the cell, or the cardinality error
abbrev pub only_of : Only → Cell
only_of none = Null
only_of (one c) = c
only_of several = Err kind.Cardinality

beside-associative : (a b c : Only) → beside (beside a b) c ≡ beside a (beside b c)
beside-associative none b c = refl
beside-associative (one x) none c = refl
beside-associative (one x) (one y) none = refl
beside-associative (one x) (one y) (one z) = refl
beside-associative (one x) (one y) several = refl
beside-associative (one x) several c = refl
beside-associative several b c = refl

beside-commutative : (a b : Only) → beside a b ≡ beside b a
beside-commutative none none = refl
beside-commutative none (one y) = refl
beside-commutative none several = refl
beside-commutative (one x) none = refl
beside-commutative (one x) (one y) = refl
beside-commutative (one x) several = refl
beside-commutative several none = refl
beside-commutative several (one y) = refl
beside-commutative several several = refl

pub only-monoid : IsCommutativeMonoid Only beside none
only-monoid = record { associative = beside-associative; commutative = beside-commutative; unit = λ a. refl }

many : (c d : Cell) (o : Only) → beside (one c) (beside (one d) o) ≡ several
many c d none = refl
many c d (one e) = refl
many c d several = refl

-- the cells of rows that are there, as this function reads them
module _ {T : Type 0} (first : T → Cell) where
  abbrev pub only_among : List (Row T) → Only
  only_among rows = total beside none (λ cells level. one (first cells)) rows

  abbrev listed : List (Row T) → Only
  listed rows = fold_map beside none (λ (r : Row T). one (first r.cells)) rows

  listed-one : (c : T) (l : Level) (rows : List (Row T)) → only_among rows ≡ listed (those_there rows) → only_among (row c l ∷ rows) ≡ listed (those_there (row c l ∷ rows))
  listed-one c No rows h = h
  listed-one c Cardinality rows h = ap (beside (one (first c))) h
  listed-one c Division rows h = ap (beside (one (first c))) h
  listed-one c Overflow rows h = ap (beside (one (first c))) h
  listed-one c Yes rows h = ap (beside (one (first c))) h

  pub only_among-there : (rows : List (Row T)) → only_among rows ≡ listed (those_there rows)
  only_among-there [] = refl
  only_among-there (r ∷ rows) = listed-one r.cells r.level rows (only_among-there rows)

single-listed : (rs : List (Row Cell)) → only_of (listed (λ c. c) rs) ≡ single_of_those rs
single-listed [] = refl
single-listed (r ∷ []) = refl
single-listed (r ∷ q ∷ rs) = ap only_of (many r.cells q.cells (listed (λ c. c) rs))

pub single-total : (rows : List (Row Cell)) → only_of (only_among (λ c. c) rows) ≡ single_of_those (those_there rows)
single-total rows = ap only_of (only_among-there (λ c. c) rows) ∙ single-listed (those_there rows)

cardinality-least : (o : Option Kind) → error_or o (Err kind.Cardinality) ≡ error_or (worst_of (Some kind.Cardinality) o) Null
cardinality-least None = refl
cardinality-least (Some kind.Cardinality) = refl
cardinality-least (Some kind.Division) = refl
cardinality-least (Some kind.Overflow) = refl

scalar-of-one : (c : List Cell) (l : Level) → error_or (level_error (row c l ∷ [])) (only_cell c) ≡ error_or (error_at l) (only_cell c)
scalar-of-one c No = refl
scalar-of-one c Cardinality = refl
scalar-of-one c Division = refl
scalar-of-one c Overflow = refl
scalar-of-one c Yes = refl

scalar-listed : (rs : List (Row (List Cell))) → error_or (level_error rs) (only_of (listed only_cell rs)) ≡ scalar_of_those rs
scalar-listed [] = refl
scalar-listed (r ∷ []) = scalar-of-one r.cells r.level
scalar-listed (r ∷ q ∷ rs) =
    ap (λ (o : Only). error_or (level_error (r ∷ q ∷ rs)) (only_of o)) (many (only_cell r.cells) (only_cell q.cells) (listed only_cell rs)) ∙ cardinality-least (level_error (r ∷ q ∷ rs))

-- the greatest error level, and else the only cell; cardinality is the least error
pub scalar-total : (rows : List (Row (List Cell))) → error_or (level_error rows) (only_of (only_among only_cell rows)) ≡ scalar rows
scalar-total rows =
    ap₂ (λ (e : Option Kind) (o : Only). error_or e (only_of o)) (sym (error-there rows)) (only_among-there only_cell rows) ∙ scalar-listed (those_there rows)
