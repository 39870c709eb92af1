-- Rows at yes, and rows behind them.
use Rattle.std.proofs.Common.{◌≡◌, ℕ, zero, suc, ◌+◌, ◌-◌, ◌<◌, ◌≤◌, List, [], ◌∷◌, ◌++◌, length, get_or, set, All, Some, append-nil, refl, sym, ap, ◌∙◌, arith, length-append}
use Rattle.std.specs.Prelude.{slice_get, unwrap_or}
use Rattle.std.proofs.lemmas.List.{ext_get_or, get_or-map, length-map, set-append_right}
use Rattle.std.proofs.lemmas.Option.{get_or_from_slice_get, unwrap_or-slice_get}
use Rattle.sql_value.specs.Level.{greatest}
use Rattle.sql_value.specs.declared.cell.Cell.{Cell}
use Rattle.sql_value.specs.declared.level.Level.{Level}
use Rattle.sql_value.specs.declared.level.Level.TheVariants.{No, Cardinality, Division, Overflow, Yes}
use Rattle.row_bag.specs.Bags.{at_yes, row}
use Rattle.row_bag.specs.Places.{row_at, rows_at}
use Rattle.row_bag.specs.Verdict.{those_there}
use Rattle.row_bag.specs.declared.row.Row.{Row}
use Rattle.row_bag.proofs.Indexed.{some-same}

abbrev pub Tuple : Type 0
Tuple = List Cell

pub even-length : (ts : List Tuple) (rows : List (Row Tuple)) → length (at_yes ts ++ rows) ≡ length ts + length rows
even-length ts rows = length-append (at_yes ts) rows ∙ ap (λ n. n + length rows) (length-map ts (λ c. row c Yes))

pub even-low : (ts : List Tuple) (rows : List (Row Tuple)) (i : ℕ) (t : Tuple) → slice_get ts i ≡ Some t → slice_get (at_yes ts ++ rows) i ≡ Some (row t Yes)
even-low [] rows i t found = absurd (cc found)
even-low (x ∷ ts) rows zero t found = ap (λ (c : Tuple). Some (row c Yes)) (some-same x t found)
even-low (x ∷ ts) rows (suc i) t found = even-low ts rows i t found

pub even-high : (ts : List Tuple) (rows : List (Row Tuple)) (i : ℕ) → length ts ≤ i → slice_get (at_yes ts ++ rows) i ≡ slice_get rows (i - length ts)
even-high [] rows i past = let e : i ≡ i - 0 = omega arith in ap (slice_get rows) e
even-high (x ∷ ts) rows zero past = absurd (omega arith)
even-high (x ∷ ts) rows (suc i) past = let e : i - length ts ≡ suc i - suc (length ts) = omega arith in even-high ts rows i (omega arith) ∙ ap (slice_get rows) e

-- ---- a row that is raised

yes-stays : (l : Level) → greatest Yes l ≡ Yes
yes-stays No = refl
yes-stays Cardinality = refl
yes-stays Division = refl
yes-stays Overflow = refl
yes-stays Yes = refl

same-row : (a b : Row Tuple) → Some a ≡ Some b → a ≡ b
same-row a b e = cc e

pub raised-low : (ts : List Tuple) (rows : List (Row Tuple)) (i : ℕ) (r : Row Tuple) (l : Level) → i < length ts → slice_get (at_yes ts ++ rows) i ≡ Some r
    → at_yes ts ++ rows ≡ set (at_yes ts ++ rows) i (row r.cells (greatest r.level l))
raised-low [] rows i r l low found = absurd (omega arith)
raised-low (x ∷ ts) rows zero r l low found =
    let same : row x Yes ≡ r = same-row (row x Yes) r found in
    ap (λ (y : Row Tuple). y ∷ (at_yes ts ++ rows)) (ap (row x) (sym (yes-stays l)) ∙ ap (λ (y : Row Tuple). row y.cells (greatest y.level l)) same)
raised-low (x ∷ ts) rows (suc i) r l low found = ap (λ (t : List (Row Tuple)). row x Yes ∷ t) (raised-low ts rows i r l (omega arith) found)

pub raised-high : (ts : List Tuple) (rows : List (Row Tuple)) (i k : ℕ) (r a b : Row Tuple) (m l : Level) → k ≡ length ts → k ≤ i → slice_get (at_yes ts ++ rows) i ≡ Some r → a ≡ get_or rows (i - k) a → b ≡ get_or rows (i - k) b
    → m ≡ greatest a.level l → at_yes ts ++ set rows (i - k) (row b.cells m) ≡ set (at_yes ts ++ rows) i (row r.cells (greatest r.level l))
raised-high ts rows i k r a b m l size past found first second made =
    let there : slice_get rows (i - k) ≡ Some r = ap (λ n. slice_get rows (i - n)) size ∙ sym (even-high ts rows i (omega (arith, size, past))) ∙ found in
    let one : a ≡ r = first ∙ get_or_from_slice_get rows (i - k) r a there in
    let other : b ≡ r = second ∙ get_or_from_slice_get rows (i - k) r b there in
    ap (λ n. at_yes ts ++ set rows (i - k) (row b.cells n)) (made ∙ ap (λ (y : Row Tuple). greatest y.level l) one)
    ∙ ap (λ (y : Row Tuple). at_yes ts ++ set rows (i - k) (row y.cells (greatest r.level l))) other
    ∙ sym (set-append_right (at_yes ts) rows k i (row r.cells (greatest r.level l)) (length-map ts (λ c. row c Yes) ∙ sym size) past)

-- ---- rows that are there

pub there-even : (ts : List Tuple) (rows : List (Row Tuple)) → those_there (at_yes ts ++ rows) ≡ at_yes ts ++ those_there rows
there-even [] rows = refl
there-even (t ∷ ts) rows = ap (λ (x : List (Row Tuple)). row t Yes ∷ x) (there-even ts rows)
