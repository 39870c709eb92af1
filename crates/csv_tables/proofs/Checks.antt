-- Rows that are loaded before their keys are checked.
use Rattle.std.proofs.Common.{ℕ, ◌+◌, ◌<◌, ◌≤◌, ◌≡◌, ◌∙◌, ◌==◌, List, [], ◌∷◌, ◌++◌, drop, take, length, map, nat_le, get_or, Bool, true, false, if◌then◌else◌, Option, Some, None, Result, Ok, Err, refl, sym, inl, inr, arith, append_assoc, add-one, drop-cons}
use Rattle.std.proofs.Math.ListN.{drop_of_length-le}
use Rattle.std.proofs.lemmas.Bool.{cases_Bool, lt-leb}
use Rattle.std.proofs.lemmas.List.{append-nil, length-take-le, take_more}
use Rattle.std.specs.List.{list_any}
use Rattle.row_bag.specs.declared.row.Row.{Row}
use Rattle.sql_value.specs.declared.cell.Cell.{Cell}
use Rattle.sql_catalog.specs.declared.descriptor.KeyDescriptor.{KeyDescriptor}
use Rattle.sql_catalog.specs.declared.descriptor.TableDescriptor.{TableDescriptor}
use Rattle.csv_tables.specs.declared.content.Content.{Content}
use Rattle.csv_tables.specs.declared.rule.Rule.{Rule}
use Rattle.csv_tables.specs.declared.rule.Rule.TheVariants.{DuplicateKey}
use Rattle.csv_tables.specs.declared.seen.SeenKey.{SeenKey}
use Rattle.csv_tables.specs.Checked.{checked, keys_checked, repeated, with_keys}
use Rattle.csv_tables.specs.KeyCells.{contents_in, repeats}
use Rattle.csv_tables.specs.Records.{Fields}
use Rattle.csv_tables.specs.Rules.{Fault}
use Rattle.csv_tables.specs.Seen.{has_seen, seen_in, seen_with}
use Rattle.csv_tables.specs.Tables.{◌>>=◌, broken_by, cells_of, contents_of, row_after, row_unless, rows_after, table_row}
use Rattle.csv_tables.proofs.Rows.{Unbroken, unbroken-of}
use Rattle.csv_tables.proofs.SeenSteps.{contents-back, row-push, seen-none}

-- a record that has a row
ok-unless : (n : ℕ) (cells : List Cell) (broken : Option Rule) (row : Row (List Cell)) → row_unless n cells broken ≡ Ok row → (broken ≡ None) × (table_row cells ≡ row)
ok-unless n cells None row e = (refl, cc e)
ok-unless n cells (Some rule) row e = absurd (cc e)

unless-if : (b : Bool) (before : List (Row (List Cell))) (cells : List Cell)
    → row_unless (length before) cells (if b then Some DuplicateKey else None) ≡ (if b then Err (repeated before) else Ok (table_row cells))
unless-if true before cells = refl
unless-if false before cells = refl

few-than : (n : ℕ) → n < 1000000 → nat_le 1000000 n ≡ false
few-than n p = lt-leb 1000000 n p

broken-with : (t : TableDescriptor) (ks : List KeyDescriptor) (before : List (Row (List Cell))) (xs : List Content) → Unbroken t before xs
    → broken_by (with_keys t ks) before xs ≡ (if list_any (repeats before xs) ks then Some DuplicateKey else None)
unfolding broken_by
broken-with t ks before xs u = rw (u.sound.integers, u.sound.texts, u.nulls, u.sound.bytes, few-than (length before) u.few) refl

contents-checked : (t : TableDescriptor) (ks : List KeyDescriptor) (before : List (Row (List Cell))) (xs : List Content) (row : Row (List Cell)) → row_unless (length before) (cells_of xs) (broken_by t before xs) ≡ Ok row
    → row_unless (length before) (cells_of xs) (broken_by (with_keys t ks) before xs) ≡ (if list_any (repeats before (contents_in row)) ks then Err (repeated before) else Ok row)
contents-checked t ks before xs row e =
    let p = ok-unless (length before) (cells_of xs) (broken_by t before xs) row e in
    let u = unbroken-of t before xs p.0 in
    rw (← p.1, contents-back xs u.sound, broken-with t ks before xs u) (unless-if (list_any (repeats before xs) ks) before (cells_of xs))

-- a row without these keys is a row with them, unless it repeats one
pub row-checked : (t : TableDescriptor) (ks : List KeyDescriptor) (before : List (Row (List Cell))) (fs : Fields) (row : Row (List Cell)) → row_after t before fs ≡ Ok row
    → row_after (with_keys t ks) before fs ≡ (if list_any (repeats before (contents_in row)) ks then Err (repeated before) else Ok row)
unfolding row_after
row-checked t ks before fs row e = elim (cases_Bool (length fs == length t.columns)) [
  | inl same ↦ rw same (contents-checked t ks before (contents_of t.columns fs) row (rw same at e))
  | inr not ↦ absurd (cc (rw not at e))
]

stays : (t : TableDescriptor) (ks none : List KeyDescriptor) (before : List (Row (List Cell))) (fs : Fields) (row : Row (List Cell)) → none ≡ [] → row_after (with_keys t ks) before fs ≡ Ok row → row_after (with_keys t none) before fs ≡ Ok row
stays t ks none before fs row is e = row-checked (with_keys t ks) none before fs row e ∙ rw is refl

-- a row with keys is one without them
pub row-stays : (t : TableDescriptor) (ks : List KeyDescriptor) (before : List (Row (List Cell))) (fs : Fields) (row : Row (List Cell)) → t.keys ≡ [] → row_after (with_keys t ks) before fs ≡ Ok row → row_after t before fs ≡ Ok row
row-stays t ks before fs row is e = stays t ks t.keys before fs row is e

next-if : (b : Bool) (ks : List KeyDescriptor) (before : List (Row (List Cell))) (row : Row (List Cell)) (go : Row (List Cell) → Result (List (Row (List Cell))) Fault)
    → ((if b then Err (repeated before) else Ok row) >>= go) ≡ ((if b then Err (repeated before) else Ok (map (seen_in (before ++ row ∷ [])) ks)) >>= λ seen. go row)
next-if true ks before row go = refl
next-if false ks before row go = refl

step-if : (b : Bool) (fault : Fault) (xs ys : Result (List SeenKey) Fault) (f g : List SeenKey → Result (List (Row (List Cell))) Fault) → (xs >>= f) ≡ (ys >>= g)
    → ((if b then Err fault else xs) >>= f) ≡ ((if b then Err fault else ys) >>= g)
step-if true fault xs ys f g e = refl
step-if false fault xs ys f g e = e

-- one more record, whose row stands last among those whose keys are to be checked
pub checked-step : (t : TableDescriptor) (ks : List KeyDescriptor) (r : Fields) (rs : List Fields) (row : Row (List Cell)) (whole before rows : List (Row (List Cell))) → whole ≡ before ++ rows → row_after t whole r ≡ Ok row
    → (keys_checked ks before rows >>= λ seen. rows_after (with_keys t ks) whole (r ∷ rs)) ≡ (keys_checked ks before (rows ++ row ∷ []) >>= λ seen. rows_after (with_keys t ks) (whole ++ row ∷ []) rs)
unfolding keys_checked rows_after
checked-step t ks r rs row whole before [] is e =
    let same = is ∙ append-nil before in
    let here = rw same at (row-checked t ks whole r row e) in
    rw (same, here) (next-if (list_any (repeats before (contents_in row)) ks) ks before row (λ made. rows_after (with_keys t ks) (before ++ made ∷ []) rs))
checked-step t ks r rs row whole before (x ∷ rows) is e =
    step-if (list_any (repeats before (contents_in x)) ks) (repeated before) _ _ _ _ (checked-step t ks r rs row whole (before ++ x ∷ []) rows (is ∙ sym (append_assoc before (x ∷ []) rows)) e)

pub taken-none : (t : TableDescriptor) (ks : List KeyDescriptor) (rs : List Fields) → rows_after (with_keys t ks) [] rs ≡ checked (with_keys t ks) [] rs
unfolding keys_checked
taken-none t ks rs = refl

pub taken-more : (t : TableDescriptor) (ks : List KeyDescriptor) (r : Fields) (rs : List Fields) (row : Row (List Cell)) (rows : List (Row (List Cell))) (all : Result (List (Row (List Cell))) Fault) → row_after t rows r ≡ Ok row
    → all ≡ checked (with_keys t ks) rows (r ∷ rs) → all ≡ checked (with_keys t ks) (rows ++ row ∷ []) rs
taken-more t ks r rs row rows all e is = is ∙ checked-step t ks r rs row rows [] rows refl e

-- the loop over the rows whose keys are checked
pub check-more : (ks : List KeyDescriptor) (rows : List (Row (List Cell))) (i : ℕ) (d : Row (List Cell)) (all : Result (List SeenKey) Fault) → i < length rows → list_any (repeats (take i rows) (contents_in (get_or rows i d))) ks ≡ false
    → all ≡ keys_checked ks (take i rows) (drop i rows) → all ≡ keys_checked ks (take (i + 1) rows) (drop (i + 1) rows)
unfolding keys_checked
check-more ks rows i d all within free e = rw (take_more rows i d within, add-one i) (rw (drop-cons rows i d within, free) at e)

pub check-stop : (ks : List KeyDescriptor) (rows : List (Row (List Cell))) (i : ℕ) (d : Row (List Cell)) (all : Result (List SeenKey) Fault) → i < length rows → list_any (repeats (take i rows) (contents_in (get_or rows i d))) ks ≡ true
    → all ≡ keys_checked ks (take i rows) (drop i rows) → all ≡ Err (record { rule = DuplicateKey; record_number = i + 1 })
unfolding keys_checked
check-stop ks rows i d all within found e = rw (length-take-le i rows (omega (arith, within))) at (rw (drop-cons rows i d within, found) at e)

check-end : (ks : List KeyDescriptor) (rows : List (Row (List Cell))) (i : ℕ) (all : Result (List SeenKey) Fault) → length rows ≤ i → all ≡ keys_checked ks (take i rows) (drop i rows) → all ≡ Ok (map (seen_in (take i rows)) ks)
unfolding keys_checked
check-end ks rows i all past e = rw (drop_of_length-le rows {i = i} past) at e

checked-if : (b : Bool) (fault : Fault) (xs : Result (List SeenKey) Fault) (v : List SeenKey) → (if b then Err fault else xs) ≡ Ok v → xs ≡ Ok v
checked-if true fault xs v e = absurd (cc e)
checked-if false fault xs v e = e

seen-from : (ks : List KeyDescriptor) (before rows : List (Row (List Cell))) (v : List SeenKey) → keys_checked ks before rows ≡ Ok v → v ≡ map (seen_in (before ++ rows)) ks
unfolding keys_checked
seen-from ks before [] v e = rw (append-nil before) (cc e)
seen-from ks before (row ∷ rows) v e = rw (← append_assoc before (row ∷ []) rows) (seen-from ks (before ++ row ∷ []) rows v (checked-if _ _ _ v e))

-- what the keys so far tell of the row
pub found-here : (ks : List KeyDescriptor) (rows : List (Row (List Cell))) (i : ℕ) (row : Row (List Cell)) (seen : List SeenKey) (found b : Bool) → row ≡ get_or rows i row → seen ≡ map (seen_in (take i rows)) ks
    → found ≡ list_any (has_seen (contents_in row)) seen → found ≡ b → list_any (repeats (take i rows) (contents_in (get_or rows i row))) ks ≡ b
found-here ks rows i row seen found b here is tells at = rw (← here) (sym (seen-none ks (take i rows) (contents_in row)) ∙ (rw is at (sym tells)) ∙ at)

pub seen-next : (ks : List KeyDescriptor) (rows : List (Row (List Cell))) (i : ℕ) (row : Row (List Cell)) (seen now : List SeenKey) → i < length rows → row ≡ get_or rows i row → seen ≡ map (seen_in (take i rows)) ks
    → now ≡ map (seen_with (contents_in row)) seen → now ≡ map (seen_in (take (i + 1) rows)) ks
seen-next ks rows i row seen now within here is next = rw (next, is, take_more rows i row within, ← here) (row-push ks (take i rows) row)

-- the loop has checked all rows
pub check-all : (ks : List KeyDescriptor) (rows : List (Row (List Cell))) (i : ℕ) (seen : List SeenKey) (all : Result (List SeenKey) Fault) → length rows ≤ i → seen ≡ map (seen_in (take i rows)) ks
    → all ≡ keys_checked ks (take i rows) (drop i rows) → all ≡ Ok seen
check-all ks rows i seen all past is e = rw is (check-end ks rows i all past e)

-- no row repeats a key: the keys are seen with all of them
pub seen-all : (ks : List KeyDescriptor) (rows : List (Row (List Cell))) (v : List SeenKey) → keys_checked ks [] rows ≡ Ok v → v ≡ map (seen_in rows) ks
seen-all ks rows v e = seen-from ks [] rows v e

-- the rows, once their keys are checked
pub all-checked : (t : TableDescriptor) (rows : List (Row (List Cell))) (rs : List Fields) (v : List SeenKey) (all : Result (List (Row (List Cell))) Fault) → keys_checked t.keys [] rows ≡ Ok v → all ≡ checked t rows rs → all ≡ rows_after t rows rs
all-checked t rows rs v all is e = rw is at e

pub all-refused : (t : TableDescriptor) (rows : List (Row (List Cell))) (rs : List Fields) (fault : Fault) (all : Result (List (Row (List Cell))) Fault) → keys_checked t.keys [] rows ≡ Err fault → all ≡ checked t rows rs → all ≡ Err fault
all-refused t rows rs fault all is e = rw is at e
