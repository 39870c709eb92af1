-- Steps of the loops over the columns of a key.
use Rattle.std.proofs.Common.{ℕ, zero, suc, get_or, take, map, Bool, false, ◌+◌, ◌<◌, ◌≤◌, ◌≡◌, ◌∙◌, List, [], ◌∷◌, ◌++◌, drop, length, Option, Some, None, refl, sym, ap, arith, append_assoc, add-one, drop-cons}
use Rattle.std.specs.Prelude.{option_and_then, option_map, slice_get, slice_set}
use Rattle.std.proofs.Math.ListN.{drop_of_length-le}
use Rattle.std.specs.List.{list_any}
use Rattle.std.proofs.lemmas.List.{append-nil}
use Rattle.std.proofs.lemmas.List.Folds.{list_any_more}
use Rattle.sql_value.specs.declared.cell.Cell.{Cell}
use Rattle.csv_tables.specs.declared.content.Content.{Content}
use Rattle.csv_tables.specs.declared.seen.SeenKey.{SeenKey}
use Rattle.csv_tables.specs.KeyCells.{cells_at, held}

-- what stands already, before the rest
abbrev pub after : {X : Type 0} → List X → Option (List X) → Option (List X)
after done rest = option_map (λ xs. done ++ xs) rest

pub cells-more : (ps : List ℕ) (xs : List Content) (i : ℕ) (c : Cell) (done : List Cell) (all : Option (List Cell)) → i < length ps → held (slice_get xs (get_or ps i 0)) ≡ Some c
    → all ≡ after done (cells_at (drop i ps) xs) → all ≡ after (done ++ c ∷ []) (cells_at (drop (i + 1) ps) xs)
unfolding cells_at
cells-more ps xs i c done all within at e = (rw (drop-cons ps i 0 within, at) at e) ∙ rw (add-one i) (elim (cells_at (drop (suc i) ps) xs) as (λ o. after done (option_and_then (λ (cs : List Cell). Some (c ∷ cs)) o) ≡ after (done ++ c ∷ []) o) [
  | None ↦ refl
  | Some cs ↦ ap (λ (x : List Cell). Some x) (sym (append_assoc done (c ∷ []) cs))
])

pub cells-none : (ps : List ℕ) (xs : List Content) (i : ℕ) (done : List Cell) (all : Option (List Cell)) → i < length ps → held (slice_get xs (get_or ps i 0)) ≡ None
    → all ≡ after done (cells_at (drop i ps) xs) → all ≡ None
unfolding cells_at
cells-none ps xs i done all within at e = rw (drop-cons ps i 0 within, at) at e

pub cells-all : (ps : List ℕ) (xs : List Content) (i : ℕ) (done : List Cell) (all : Option (List Cell)) → length ps ≤ i → all ≡ after done (cells_at (drop i ps) xs) → all ≡ Some done
unfolding cells_at
cells-all ps xs i done all within e = (rw (drop_of_length-le ps {i = i} within) at e) ∙ ap (λ (x : List Cell). Some x) (append-nil done)

here-is : (xs : List SeenKey) (i : ℕ) (f : SeenKey → SeenKey) (d : SeenKey) → i < length xs → get_or (map f (take i xs) ++ drop i xs) i d ≡ get_or xs i d
here-is [] i f d p = absurd (omega (arith, p))
here-is (x ∷ xs) zero f d p = refl
here-is (x ∷ xs) (suc i) f d p = here-is xs i f d (omega arith)

set-is : (xs : List SeenKey) (i : ℕ) (f : SeenKey → SeenKey) (d : SeenKey) → i < length xs → slice_set (map f (take i xs) ++ drop i xs) i (f (get_or xs i d)) ≡ map f (take (suc i) xs) ++ drop (suc i) xs
set-is [] i f d p = absurd (omega (arith, p))
set-is (x ∷ xs) zero f d p = refl
set-is (x ∷ xs) (suc i) f d p = ap (λ (ys : List SeenKey). f x ∷ ys) (set-is xs i f d (omega arith))

-- the keys before this one have no such cells, nor has this one
pub passed-more : (xs now : List SeenKey) (i : ℕ) (f : SeenKey → SeenKey) (p : SeenKey → Bool) (here : SeenKey) → i < length xs → now ≡ map f (take i xs) ++ drop i xs → here ≡ get_or now i here → p here ≡ false
    → list_any p (take i xs) ≡ false → list_any p (take (i + 1) xs) ≡ false
passed-more xs now i f p here within is at other before =
    let same = rw (is, here-is xs i f here within) at at in
    rw (list_any_more p xs i here within, before, ← same) other

pub set-more : (xs now : List SeenKey) (i : ℕ) (f : SeenKey → SeenKey) (here made : SeenKey) → i < length xs → now ≡ map f (take i xs) ++ drop i xs → here ≡ get_or now i here → made ≡ f here
    → slice_set now i made ≡ map f (take (i + 1) xs) ++ drop (i + 1) xs
set-more xs now i f here made within is at by =
    let same = rw (is, here-is xs i f here within) at at in
    let whole = set-is xs i f here within in
    rw (is, by, add-one i) (rw (← same) at whole)
