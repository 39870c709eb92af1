-- One more name, and one more row, that are written.
use Rattle.std.proofs.Common.{ℕ, ◌+◌, ◌<◌, ◌≤◌, ◌≡◌, ◌∙◌, List, [], ◌∷◌, ◌++◌, Option, Some, None, drop, drop-cons, get_or, length, map, refl, sym, ap, append_assoc, add-one}
use Rattle.std.proofs.Math.ListN.{drop_of_length-le}
use Rattle.std.proofs.lemmas.List.{append-nil, map-append}
use Rattle.std.proofs.lemmas.Grind.{flat_map-append}
use Rattle.std.specs.Io.KnownBytes.{Appends}
use Rattle.csv.specs.Writing.{row_text}
use Rattle.row_bag.specs.declared.row.Row.{Row}
use Rattle.sql_value.specs.declared.cell.Cell.{Cell}
use Rattle.csv_tables.specs.Records.{Fields}
use Rattle.csv_tables.specs.Printed.{column_text, header_from, printed_rows, row_fields, row_writer, rows_text}

pub header-more : (names : List (Option (List ℕ))) (i : ℕ) (name d : Option (List ℕ)) (old new all : Fields) (part : List ℕ) → i < length names → name ≡ get_or names i d
    → part ≡ [] → old ++ header_from (i + 1) (drop i names) ≡ all → new ≡ old ++ (part ++ column_text (i + 1) name) ∷ [] → new ++ header_from (i + 1 + 1) (drop (i + 1) names) ≡ all
unfolding header_from
header-more names i name d old new all part p is whole e n =
    let next : drop i names ≡ name ∷ drop (i + 1) names = drop-cons names i d p ∙ rw (is, add-one i) refl in
    rw (n, whole) (append_assoc old (column_text (i + 1) name ∷ []) (header_from (i + 1 + 1) (drop (i + 1) names)) ∙ (rw next at e))

pub header-all : (names : List (Option (List ℕ))) (i : ℕ) (fields all : Fields) → length names ≤ i → fields ++ header_from (i + 1) (drop i names) ≡ all → fields ≡ all
unfolding header_from
header-all names i fields all p e = sym (append-nil fields) ∙ (rw (drop_of_length-le names p) at e)

rows-last : (rows : List Fields) (r : Fields) → rows_text (rows ++ r ∷ []) ≡ rows_text rows ++ row_text row_writer r
rows-last rows r = flat_map-append (row_text row_writer) rows (r ∷ []) ∙ ap (λ (x : List ℕ). rows_text rows ++ x) (append-nil (row_text row_writer r))

printed-last : (names : List (Option (List ℕ))) (done : List (Row (List Cell))) (row : Row (List Cell)) → printed_rows names (done ++ row ∷ []) ≡ printed_rows names done ++ row_text row_writer (row_fields row)
printed-last names done row = rw (map-append row_fields done (row ∷ [])) (rows-last (header_from 1 names ∷ map row_fields done) (row_fields row))

pub text-more : (old new : Option (List ℕ)) (names : List (Option (List ℕ))) (done : List (Row (List Cell))) (row : Row (List Cell)) (fields : Fields) → old ≡ Some (printed_rows names done)
    → fields ≡ row_fields row → Appends old new (row_text row_writer fields) → new ≡ Some (printed_rows names (done ++ row ∷ []))
text-more None new names done row fields e f h = cc e
text-more (Some w) None names done row fields e f h = absurd h
text-more (Some w) (Some v) names done row fields e f h =
    let same : w ≡ printed_rows names done = cc e in
    ap (λ (x : List ℕ). Some x) (h ∙ rw (printed-last names done row, f, same) refl)
