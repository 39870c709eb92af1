-- The rows of an insertion sort ascend, and each occurs as often as before.
use Rattle.std.proofs.Common.{◌+◌, ◌≡◌, ◌∙◌, false, if◌then◌else◌, List, [], ◌∷◌, inl, inr, refl, sym, ap, arith}
use Rattle.std.proofs.lemmas.Bool.{cases_Bool}
use Rattle.std.specs.List.Sorted.{IsPermutation, IsSortedBy}
use Rattle.std.specs.Ordering.{is_gt}
use Rattle.sql_value.specs.declared.cell.Cell.{Cell}
use Rattle.sql_value.specs.declared.order_key.OrderKey.{OrderKey}
use Rattle.row_bag.specs.declared.row.Row.{Row}
use Rattle.row_bag.specs.Order.{compare_by, row_less}
use Rattle.row_bag.specs.Sorted.{insert_row, sorted_rows}
use Rattle.row_bag.proofs.Order.{above-not-less, less-apart, less-ranks, not-above-upto, row_same, same-equal, same-itself}
use Rattle.row_bag.proofs.SortedOnce.{Ascends, NoneBelow, ascends-once, ascends-sorted, occurs, occurs-moved}

none-inserted : (keys : List OrderKey) (h r : Row (List Cell)) (rows : List (Row (List Cell))) → row_less keys r h ≡ false → NoneBelow (row_less keys) h rows
    → NoneBelow (row_less keys) h (insert_row keys r rows)
unfolding insert_row
none-inserted keys h r [] first none = (first, tt)
none-inserted keys h r (x ∷ rows) first none = elim (cases_Bool (is_gt (compare_by keys r x))) [
  | inl above ↦ rw above (none.0, none-inserted keys h r rows first none.1)
  | inr upto ↦ rw upto (first, none)
]

none-chained : (keys : List OrderKey) (h x : Row (List Cell)) (rows : List (Row (List Cell))) → row_less keys x h ≡ false → NoneBelow (row_less keys) x rows
    → NoneBelow (row_less keys) h rows
none-chained keys h x [] first none = tt
none-chained keys h x (y ∷ rows) first none = ((less-ranks keys).chain y x h none.0 first, none-chained keys h x rows first none.1)

inserted-ascends : (keys : List OrderKey) (r : Row (List Cell)) (rows : List (Row (List Cell))) → Ascends (row_less keys) rows → Ascends (row_less keys) (insert_row keys r rows)
unfolding insert_row
inserted-ascends keys r [] up = (tt, tt)
inserted-ascends keys r (x ∷ rows) up = elim (cases_Bool (is_gt (compare_by keys r x))) [
  | inl above ↦ rw above (none-inserted keys x r rows (above-not-less keys r x above) up.0, inserted-ascends keys r rows up.1)
  | inr upto ↦ rw upto ((not-above-upto keys r x upto, none-chained keys r x rows (not-above-upto keys r x upto) up.0), up)
]

inserted-occurs : (keys : List OrderKey) (z r : Row (List Cell)) (rows : List (Row (List Cell))) → occurs (row_same keys) z (insert_row keys r rows) ≡ occurs (row_same keys) z (r ∷ rows)
unfolding insert_row
inserted-occurs keys z r [] = refl
inserted-occurs keys z r (x ∷ rows) = elim (cases_Bool (is_gt (compare_by keys r x))) [
  | inl above ↦ rw above (let h = inserted-occurs keys z r rows in omega arith)
  | inr upto ↦ rw upto refl
]

pub sorted-ascends : (keys : List OrderKey) (rows : List (Row (List Cell))) → Ascends (row_less keys) (sorted_rows keys rows)
unfolding sorted_rows
sorted-ascends keys [] = tt
sorted-ascends keys (r ∷ rows) = inserted-ascends keys r (sorted_rows keys rows) (sorted-ascends keys rows)

pub sorted-occurs : (keys : List OrderKey) (z : Row (List Cell)) (rows : List (Row (List Cell))) → occurs (row_same keys) z (sorted_rows keys rows) ≡ occurs (row_same keys) z rows
unfolding sorted_rows
sorted-occurs keys z [] = refl
sorted-occurs keys z (r ∷ rows) = inserted-occurs keys z r (sorted_rows keys rows) ∙ ap (λ n. (if row_same keys z r then 1 else 0) + n) (sorted-occurs keys z rows)

-- what a sort by the order of keys leaves
pub sorted-once : (keys : List OrderKey) (before after : List (Row (List Cell))) → IsPermutation before after → IsSortedBy (row_less keys) after → after ≡ sorted_rows keys before
sorted-once keys before after moved up =
    ascends-once (row_less keys) (row_same keys) (same-equal keys) (same-itself keys) (less-apart keys) after (sorted_rows keys before) (ascends-sorted (row_less keys) (less-ranks keys) after up)
    (sorted-ascends keys before) (λ z. sym (occurs-moved (row_same keys) z before after moved) ∙ sym (sorted-occurs keys z before))
