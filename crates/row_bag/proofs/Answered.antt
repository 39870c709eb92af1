-- Rows that agree are answered alike.
use Rattle.std.proofs.Common.{ℕ, ◌+◌, ◌≡◌, ◌∙◌, cond, List, [], ◌∷◌, refl, sym, ap, zero-add}
use Rattle.sql_value.specs.declared.cell.Cell.{Cell}
use Rattle.sql_value.specs.declared.level.Level.{Level}
use Rattle.sql_value.specs.declared.level.Level.TheVariants.{No, Cardinality, Division, Overflow, Yes}
use Rattle.sql_value.specs.declared.order_key.OrderKey.{OrderKey}
use Rattle.row_bag.specs.declared.row.Row.{Row}
use Rattle.row_bag.specs.Bags.{Alike, if_there, row, total}
use Rattle.row_bag.specs.Errors.{error_among, error_in}
use Rattle.row_bag.specs.Order.{row_less}
use Rattle.row_bag.specs.Sets.{same_cells}
use Rattle.row_bag.specs.Sorted.{sorted_rows}
use Rattle.row_bag.specs.Verdict.{those_there}
use Rattle.row_bag.proofs.Agreement.{alike-refl}
use Rattle.row_bag.proofs.Inserted.{sorted-ascends, sorted-occurs}
use Rattle.row_bag.proofs.Order.{less-apart, row_same, same-equal, same-itself}
use Rattle.row_bag.proofs.SetLaws.{error_among-alike}
use Rattle.row_bag.proofs.SortedOnce.{ascends-once, occurs}
use Rattle.row_bag.proofs.TupleBags.{same_cells-decides}

-- a row at no, first in a list, isn't there
alike-first : {T : Type 0} (c : T) (l : Level) {xs ys : List (Row T)} → Alike xs ys → Alike (row c l ∷ xs) (row c l ∷ ys)
alike-first c l h = record { sums = λ f. ap (λ n. if_there 0 f c l + n) (h.sums f) }

there-step : {T : Type 0} (c : T) (l : Level) (rs : List (Row T)) → Alike rs (those_there rs) → Alike (row c l ∷ rs) (those_there (row c l ∷ rs))
there-step c No rs h = record { sums = λ f. zero-add (total ◌+◌ 0 f rs) ∙ h.sums f }
there-step c Cardinality rs h = alike-first c Cardinality h
there-step c Division rs h = alike-first c Division h
there-step c Overflow rs h = alike-first c Overflow h
there-step c Yes rs h = alike-first c Yes h

-- the rows that are there agree with all of them
pub alike-there : {T : Type 0} (rs : List (Row T)) → Alike rs (those_there rs)
alike-there [] = alike-refl []
alike-there (r ∷ rs) = there-step r.cells r.level rs (alike-there rs)

-- rows that agree hold the same greatest error
pub error-alike : {xs ys : List (Row (List Cell))} → Alike xs ys → error_among error_in xs ≡ error_among error_in ys
error-alike h = error_among-alike same_cells same_cells-decides error_in h

abbrev weight : List OrderKey → Row (List Cell) → List Cell → Level → ℕ
weight keys z c l = cond (row_same keys z (row c l)) 1 0

occurs-step : (keys : List OrderKey) (z : Row (List Cell)) (c : List Cell) (l : Level) (rs : List (Row (List Cell)))
    → occurs (row_same keys) z (those_there rs) ≡ total ◌+◌ 0 (weight keys z) rs
    → occurs (row_same keys) z (those_there (row c l ∷ rs)) ≡ if_there 0 (weight keys z) c l + total ◌+◌ 0 (weight keys z) rs
occurs-step keys z c No rs h = h ∙ sym (zero-add (total ◌+◌ 0 (weight keys z) rs))
occurs-step keys z c Cardinality rs h = ap (λ n. weight keys z c Cardinality + n) h
occurs-step keys z c Division rs h = ap (λ n. weight keys z c Division + n) h
occurs-step keys z c Overflow rs h = ap (λ n. weight keys z c Overflow + n) h
occurs-step keys z c Yes rs h = ap (λ n. weight keys z c Yes + n) h

occurs-there : (keys : List OrderKey) (z : Row (List Cell)) (rs : List (Row (List Cell))) → occurs (row_same keys) z (those_there rs) ≡ total ◌+◌ 0 (weight keys z) rs
occurs-there keys z [] = refl
occurs-there keys z (r ∷ rs) = occurs-step keys z r.cells r.level rs (occurs-there keys z rs)

-- rows that agree are one list once they are sorted
pub sorted-alike : (keys : List OrderKey) {xs ys : List (Row (List Cell))} → Alike xs ys → sorted_rows keys (those_there xs) ≡ sorted_rows keys (those_there ys)
sorted-alike keys {xs = xs} {ys = ys} h =
    ascends-once (row_less keys) (row_same keys) (same-equal keys) (same-itself keys) (less-apart keys) (sorted_rows keys (those_there xs)) (sorted_rows keys (those_there ys))
    (sorted-ascends keys (those_there xs)) (sorted-ascends keys (those_there ys))
    (λ z.
    sorted-occurs keys z (those_there xs) ∙ occurs-there keys z xs ∙ h.sums (weight keys z) ∙ sym (occurs-there keys z ys) ∙ sym (sorted-occurs keys z (those_there ys)))
