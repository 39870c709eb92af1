-- Rows that are taken in an order.
use Rattle.std.proofs.Common.{◌≡◌, ℕ, ◌<◌, All, List, get_or, length, map, Some, sym, ap, ◌∙◌, arith, []}
use Rattle.std.specs.Prelude.{slice_get}
use Rattle.std.proofs.lemmas.List.{ext_get_or, get_or-map, length-map}
use Rattle.std.proofs.lemmas.Option.{get_or_from_slice_get, slice_get-get_or}
use Rattle.sql_value.specs.declared.cell.Cell.{Cell}
use Rattle.sql_value.specs.declared.level.Level.TheVariants.{Yes}
use Rattle.row_bag.specs.Bags.{row}
use Rattle.row_bag.specs.Places.{row_at, rows_at}
use Rattle.row_bag.specs.declared.row.Row.{Row}

-- the row at a place of an order
pub taken-at : (rows : List (Row (List Cell))) (places : List ℕ) (k place : ℕ) (r : Row (List Cell)) → k < length places → place ≡ get_or places k 0 → slice_get rows place ≡ Some r
    → slice_get (rows_at rows places) k ≡ Some r
taken-at rows places k place r low is found =
    let size = length-map places (row_at rows) in
    slice_get-get_or (rows_at rows places) k (row [] Yes) (omega (arith, low, size))
    ∙ ap Some (get_or-map (row_at rows) places k 0 (row [] Yes) low ∙ ap (row_at rows) (sym is) ∙ get_or_from_slice_get rows place r (row [] Yes) found)

-- an order of rows that are in an order themselves
pub taken-through : (rows : List (Row (List Cell))) (own places : List ℕ) → All (λ p. p < length own) places → rows_at rows (map (λ p. get_or own p 0) places) ≡ rows_at (rows_at rows own) places
taken-through rows own places within =
    let through = λ (p : ℕ). get_or own p 0 in
    let some = length-map places through in
    ext_get_or (row [] Yes) (rows_at rows (map through places)) (rows_at (rows_at rows own) places) (length-map (map through places) (row_at rows) ∙ some ∙ sym (length-map places (row_at (rows_at rows own)))) (λ k low.
    let all = length-map (map through places) (row_at rows) in
    let inside : k < length places = omega (arith, low, all, some) in
    get_or-map (row_at rows) (map through places) k 0 (row [] Yes) (omega (arith, inside, some))
    ∙ ap (row_at rows) (get_or-map through places k 0 0 inside)
    ∙ sym (get_or-map (row_at rows) own (get_or places k 0) 0 (row [] Yes) (within k 0 inside))
    ∙ sym (get_or-map (row_at (rows_at rows own)) places k 0 (row [] Yes) inside))

-- what an order has is within the rows
pub through-within : (n : ℕ) (own places : List ℕ) → All (λ p. p < n) own → All (λ p. p < length own) places → All (λ p. p < n) (map (λ p. get_or own p 0) places)
through-within n own places low within k d fits =
    let through = λ (p : ℕ). get_or own p 0 in
    let some = length-map places through in
    let inside : k < length places = omega (arith, fits, some) in
    rw (get_or-map through places k 0 d inside) (low (get_or places k 0) 0 (within k 0 inside))

-- places of rows in an order are places of the order
pub within-order : (rows taken : List (Row (List Cell))) (own places : List ℕ) → rows_at rows own ≡ taken → All (λ p. p < length taken) places → All (λ p. p < length own) places
within-order rows taken own places is within = rw (ap length (sym is) ∙ length-map own (row_at rows)) at within
