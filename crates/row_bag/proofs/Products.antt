-- Rows beside rows, row by row.
use Rattle.std.proofs.Common.{◌≡◌, ℕ, ◌+◌, arith, nat_eq, Bool, true, false, cond, not, List, [], ◌∷◌, ◌++◌, map, refl, append_assoc, sym, ap, ap₂, ◌∙◌}
use Rattle.std.proofs.Math.Dec.{eqb-suc-zero}
use Rattle.std.proofs.Math.Numerals.{one-add}
use Rattle.std.proofs.lemmas.Grind.{common_steps}
use Rattle.std.specs.List.{list_any}
use Rattle.row_bag.specs.Bags.{bind, keep, row, unit}
use Rattle.row_bag.specs.Joins.{how_many, or_else, product}
use Rattle.row_bag.specs.Verdict.{is_there}
use Rattle.row_bag.specs.declared.row.Row.{Row}
use Rattle.sql_value.specs.declared.cell.Cell.{Cell}
use Rattle.sql_value.specs.declared.level.Level.{Level}
use Rattle.sql_value.specs.declared.level.Level.TheVariants.{No, Cardinality, Division, Overflow, Yes}
use Rattle.row_bag.proofs.Binds.{keep-append}
use Rattle.row_bag.proofs.Levels.{least-yes}
use Rattle.row_bag.specs.Beside.{beside}

-- cells beside each row, as a map
beside_all : (left : List Cell) (ys : List (Row (List Cell))) → bind ys (λ others. unit (left ++ others)) ≡ map (beside left) ys
beside_all left [] = refl
beside_all left (y ∷ ys) = ap₂ (λ l rows. row (left ++ y.cells) l ∷ rows) (least-yes y.level) (beside_all left ys)

pub product_one : (x : Row (List Cell)) (xs ys : List (Row (List Cell))) → product (x ∷ xs) ys ≡ keep x.level (map (beside x.cells) ys) ++ product xs ys
product_one x xs ys = ap (λ rows. keep x.level rows ++ product xs ys) (beside_all x.cells ys)

-- a product of one row more
pub product-more : (made new row xs rest ys whole : List (Row (List Cell))) (x : Row (List Cell)) → xs ≡ x ∷ rest → row ≡ map (beside x.cells) ys → new ≡ made ++ keep x.level row → made ++ product xs ys ≡ whole
    → new ++ product rest ys ≡ whole
product-more made new row xs rest ys whole x first beside_it more so =
    ap (λ t. t ++ product rest ys) (more ∙ ap (λ r. made ++ keep x.level r) beside_it)
    ∙ append_assoc made (keep x.level (map (beside x.cells) ys)) (product rest ys)
    ∙ ap (λ t. made ++ t) (sym (product_one x rest ys))
    ∙ ap (λ t. made ++ product t ys) (sym first)
    ∙ so

pub keep_append : {T : Type 0} (l : Level) (xs ys : List (Row T)) → keep l (xs ++ ys) ≡ keep l xs ++ keep l ys
keep_append l xs ys = keep-append l xs ys

pub ruleset keep_steps = (common_steps, keep_append)

-- ---- how many rows there are

counts-one : {T : Type 0} (c : T) (l : Level) (rows : List (Row T)) → how_many (row c l ∷ rows) ≡ cond (is_there (row c l)) 1 0 + how_many rows
counts-one c No rows = refl
counts-one c Cardinality rows = refl
counts-one c Division rows = refl
counts-one c Overflow rows = refl
counts-one c Yes rows = refl

pub counts-row : {T : Type 0} (r : Row T) (rows : List (Row T)) → how_many (r ∷ rows) ≡ cond (is_there r) 1 0 + how_many rows
counts-row r rows = counts-one r.cells r.level rows

-- ---- these rows or others

none : (n : ℕ) (b : Bool) → nat_eq n 0 ≡ not b → nat_eq (0 + n) 0 ≡ not b
none n b h = ap (λ m. nat_eq m 0) (omega arith) ∙ h

one : (n : ℕ) → nat_eq (1 + n) 0 ≡ false
one n = ap (λ m. nat_eq m 0) (one-add n) ∙ eqb-suc-zero n

many-one : {T : Type 0} (c : T) (l : Level) (rows : List (Row T)) → nat_eq (how_many rows) 0 ≡ not (list_any is_there rows) → nat_eq (how_many (row c l ∷ rows)) 0 ≡ not (list_any is_there (row c l ∷ rows))
many-one c No rows h = none (how_many rows) (list_any is_there rows) h
many-one c Cardinality rows h = one (how_many rows)
many-one c Division rows h = one (how_many rows)
many-one c Overflow rows h = one (how_many rows)
many-one c Yes rows h = one (how_many rows)

-- there is no row, or one is there
pub many_any : {T : Type 0} (rows : List (Row T)) → nat_eq (how_many rows) 0 ≡ not (list_any is_there rows)
many_any [] = refl
many_any (r ∷ rows) = many-one r.cells r.level rows (many_any rows)

pub or_else_any : {T : Type 0} (rows others : List (Row T)) → or_else rows others ≡ cond (list_any is_there rows) rows others
or_else_any rows others = ap (λ b. cond b others rows) (many_any rows) ∙ turned (list_any is_there rows)
  where
    turned : (b : Bool) → cond (not b) others rows ≡ cond b rows others
    turned true = refl
    turned false = refl

pub ruleset or_else_steps = (common_steps, or_else_any)
