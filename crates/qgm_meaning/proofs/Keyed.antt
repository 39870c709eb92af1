-- Groups by a function of the rows are groups of keyed rows by their first cells.
use Rattle.std.proofs.Common.{ℕ, ◌≡◌, cond, Bool, true, false, List, [], ◌∷◌, ◌++◌, take, drop, length, refl, sym, ap, ◌∙◌}
use mathlib.Core.Path.{fun_ext}
use Rattle.row_bag.specs.Bags.{bind, unit}
use Rattle.row_bag.specs.Groups as g
use Rattle.row_bag.specs.Sets.{of_group, once, same_cells}
use Rattle.row_bag.proofs.Binds.{bind-bind, unit-bind}
use Rattle.sql_value.specs.declared.cell.Cell.{Cell}
use Rattle.qgm_meaning.specs.Values.{Bag}

module _ (n : ℕ) (key : List Cell → List Cell) (long : (c : List Cell) → length (key c) ≡ n) (rows : Bag) where
  abbrev keyed : Bag
  keyed = bind rows (λ c. unit (key c ++ c))

  key-of : (c : List Cell) → take n (key c ++ c) ≡ key c
  key-of c = ap (λ (m : ℕ). take m (key c ++ c)) (sym (long c)) ∙ taken (key c) c
    where
      taken : (xs ys : List Cell) → take (length xs) (xs ++ ys) ≡ xs
      taken [] ys = refl
      taken (x ∷ xs) ys = ap (λ (zs : List Cell). x ∷ zs) (taken xs ys)

  rest-of : (c : List Cell) → drop n (key c ++ c) ≡ c
  rest-of c = ap (λ (m : ℕ). drop m (key c ++ c)) (sym (long c)) ∙ left (key c) c
    where
      left : (xs ys : List Cell) → drop (length xs) (xs ++ ys) ≡ ys
      left [] ys = refl
      left (x ∷ xs) ys = left xs ys

  pub keys-keyed : g.keys_of n keyed ≡ once same_cells (bind rows (λ c. unit (key c)))
  keys-keyed =
      ap (once same_cells) (bind-bind rows (λ c. unit (key c ++ c)) (λ cells. unit (take n cells))
      ∙ ap (bind rows) (fun_ext (λ c. unit-bind (key c ++ c) (λ cells. unit (take n cells)) ∙ ap (λ (cells : List Cell). unit cells) (key-of c))))

  -- what is read in the rest of the rows of a group
  pub group-keyed : (k : List Cell) (f : List Cell → Cell) → bind (g.rows_of n k keyed) (λ cells. unit (f (drop n cells))) ≡ bind (of_group same_cells key k rows) (λ c. unit (f c))
  group-keyed k f =
      ap (λ (xs : Bag). bind xs (λ cells. unit (f (drop n cells)))) (bind-bind rows (λ c. unit (key c ++ c)) (λ cells. cond (same_cells (take n cells) k) (unit cells) []))
      ∙ bind-bind rows (λ c. bind (unit (key c ++ c)) (λ cells. cond (same_cells (take n cells) k) (unit cells) [])) (λ cells. unit (f (drop n cells)))
      ∙ ap (bind rows) (fun_ext (λ c.
      ap (λ (xs : Bag). bind xs (λ cells. unit (f (drop n cells)))) (unit-bind (key c ++ c) (λ cells. cond (same_cells (take n cells) k) (unit cells) []) ∙ ap (λ (z : List Cell). cond (same_cells z k) (unit (key c ++ c)) []) (key-of c))
      ∙ one c (same_cells (key c) k)))
      ∙ sym (bind-bind rows (λ c. cond (same_cells (key c) k) (unit c) []) (λ c. unit (f c)))
    where
      one : (c : List Cell) (b : Bool) → bind (cond b (unit (key c ++ c)) []) (λ cells. unit (f (drop n cells))) ≡ bind (cond b (unit c) []) (λ c. unit (f c))
      one c true = unit-bind (key c ++ c) (λ cells. unit (f (drop n cells))) ∙ ap (λ (z : List Cell). unit (f z)) (rest-of c) ∙ sym (unit-bind c (λ c. unit (f c)))
      one c false = refl
