-- The tables are of their declarations.
use Rattle.std.proofs.Common.{ℕ, zero, suc, ◌+◌, ◌^◌, ◌<◌, ◌≡◌, ◌∙◌, ◌==◌, List, [], ◌∷◌, ◌++◌, Option, Some, None, Result, Ok, Err, IfOk, drop, get_or, length, slice_index, take, refl, subst, arith, inl, inr, Bool, true, false, ◌||◌, ◌&&◌, if◌then◌else◌, ℤ, pos}
use Rattle.std.specs.Prelude.{nat_le, nat_lt}
use Rattle.std.proofs.lemmas.Bool.{and_parts, cases_Bool, eqb-true, lt-ltb}
use Rattle.std.proofs.lemmas.List.{take_more}
use Rattle.std.proofs.lemmas.List.Elements.{All-append, All-cons, All-nil}
use Rattle.std.proofs.lemmas.List.Folds.{list_any-append}
use Rattle.std.specs.Cmp.{IsEquivalence}
use Rattle.std.specs.Cmp.Lexicographic.{pointwise}
use Rattle.std.specs.List.{All, AllZip, list_any}
use Rattle.std.specs.Str.{bytes_eq, chars, is_utf8}
use Rattle.std.specs.Str.Parse.{digits_value}
use lib.IntN.{neg_ℤ}
use Rattle.row_bag.specs.declared.row.Row.{Row}
use Rattle.row_bag.specs.declared.tables.Table.{Table}
use Rattle.sql_ast.specs.declared.schema.TableDecl.{TableDecl}
use Rattle.sql_ast.specs.declared.word.DataType.{DataType}
use Rattle.sql_ast.specs.declared.word.DataType.TheVariants as types
use Rattle.sql_value.specs.Arithmetic.{fits_i64}
use Rattle.sql_value.specs.declared.cell.Cell.{Cell}
use Rattle.sql_value.specs.declared.cell.Cell.TheVariants as cell
use Rattle.csv_tables.specs.declared.content.Content.{Content}
use Rattle.csv_tables.specs.declared.content.Content.TheVariants.{Holds, BadInteger, TooLong, BadUtf8}
use Rattle.csv_tables.specs.declared.refusal.DataRefusal.{DataRefusal}
use Rattle.csv_tables.specs.declared.rule.Rule.{Rule}
use Rattle.sql_catalog.specs.Descriptor.{describe}
use Rattle.sql_catalog.specs.declared.descriptor.ColumnDescriptor.{ColumnDescriptor}
use Rattle.sql_catalog.specs.declared.descriptor.KeyDescriptor.{KeyDescriptor}
use Rattle.sql_catalog.specs.declared.descriptor.TableDescriptor.{TableDescriptor}
use Rattle.csv_tables.specs.Cells.{integer_of, is_null, is_number, negative, null_text, positive}
use Rattle.csv_tables.specs.Contents.{content_of, integer_content, is_longer, number_content, text_content, unescaped}
use Rattle.csv_tables.specs.Fits.{Distinct, FitsColumn, FitsRow, FitsRows, FitsSchema, FitsTable, OfType}
use Rattle.csv_tables.specs.KeyCells.{is_among, is_null_cell, key_cells, keys_in, repeats, same_cells}
use Rattle.csv_tables.specs.Loaded.{Answers, loaded}
use Rattle.csv_tables.specs.Records.{Fields, records_of}
use Rattle.csv_tables.specs.Rules.{Fault}
use Rattle.csv_tables.specs.Seen.{and_some}
use Rattle.csv_tables.specs.Ties.{cells_equiv}
use Rattle.csv_tables.specs.TableFile.{table_of, table_with}
use Rattle.csv_tables.specs.Tables.{◌>>=◌, broken_by, cells_of, contents_of, fits_column, has_refused_null, row_after, row_unless, rows_after, table_row, table_rows, under_header}
use Rattle.csv_tables.proofs.Rows.{unbroken-of}
use Rattle.csv_tables.proofs.SeenSteps.{Sound, contents-back, keys-push}

-- the cell of a content, where it is one
abbrev HoldsOfType : DataType → Content → Type 0
HoldsOfType t (Holds c) = OfType t c
HoldsOfType t BadInteger = Unit {0}
HoldsOfType t TooLong = Unit {0}
HoldsOfType t BadUtf8 = Unit {0}

-- a number is of 64 bits
abbrev Fits64 : Option ℤ → Type 0
Fits64 None = Unit {0}
Fits64 (Some z) = fits_i64 z ≡ true

negated-fits : (n : ℕ) → nat_le n (2 ^ 63) ≡ true → fits_i64 (neg_ℤ (pos n)) ≡ true
negated-fits zero h = lt-ltb 0 (2 ^ 63) (omega arith)
negated-fits (suc n) h = lt-ltb n (2 ^ 63) (grind (arith, h))

positive-fits : (ds : List ℕ) → Fits64 (positive ds)
unfolding positive
positive-fits ds = elim (cases_Bool (is_number ds && nat_lt (digits_value 10 ds) (2 ^ 63))) [
  | inl e ↦ rw e (and_parts (is_number ds) (nat_lt (digits_value 10 ds) (2 ^ 63)) e).1
  | inr e ↦ rw e tt
]

negative-fits : (ds : List ℕ) → Fits64 (negative ds)
unfolding negative
negative-fits ds = elim (cases_Bool (is_number ds && nat_le (digits_value 10 ds) (2 ^ 63))) [
  | inl e ↦ rw e (negated-fits (digits_value 10 ds) (and_parts (is_number ds) (nat_le (digits_value 10 ds) (2 ^ 63)) e).1)
  | inr e ↦ rw e tt
]

number-fits : (bs : List ℕ) → Fits64 (integer_of bs)
unfolding integer_of
number-fits bs = elim (cases_Bool (slice_index bs 0 == 45)) [
  | inl minus ↦ rw minus (negative-fits (drop 1 bs))
  | inr other ↦ rw other (elim (cases_Bool (slice_index bs 0 == 43)) [
    | inl plus ↦ rw plus (positive-fits (drop 1 bs))
    | inr digit ↦ rw digit (positive-fits bs)
  ])
]

integer-fits : (bs : List ℕ) → HoldsOfType types.Integer (integer_content bs)
integer-fits bs = elim (cases_Bool (is_null bs)) [
  | inl null ↦ rw null tt
  | inr other ↦ rw other (number (integer_of bs) (number-fits bs))
]
  where
    number : (o : Option ℤ) → Fits64 o → HoldsOfType types.Integer (number_content o)
    number None h = tt
    number (Some z) h = h

int-fits : (bs : List ℕ) → HoldsOfType types.Int (integer_content bs)
int-fits bs = elim (cases_Bool (is_null bs)) [
  | inl null ↦ rw null tt
  | inr other ↦ rw other (number (integer_of bs) (number-fits bs))
]
  where
    number : (o : Option ℤ) → Fits64 o → HoldsOfType types.Int (number_content o)
    number None h = tt
    number (Some z) h = h

sized-fits : (n : ℤ) (text : List ℕ) (long : Bool) → is_longer text n ≡ long → HoldsOfType (types.Varchar n) (if long then TooLong else Holds (cell.Text text))
sized-fits n text true e = tt
sized-fits n text false e = e

text-fits : (n : ℤ) (bs : List ℕ) → HoldsOfType (types.Varchar n) (text_content n bs)
unfolding text_content
text-fits n bs = elim (cases_Bool (bytes_eq bs null_text)) [
  | inl null ↦ rw null tt
  | inr other ↦ rw other (elim (cases_Bool (is_utf8 bs)) [
    | inl valid ↦ rw valid (sized-fits n (unescaped (chars bs)) (is_longer (unescaped (chars bs)) n) refl)
    | inr not ↦ rw not tt
  ])
]

content-fits : (t : DataType) (bs : List ℕ) → HoldsOfType t (content_of t bs)
content-fits types.Integer bs = integer-fits bs
content-fits types.Int bs = int-fits bs
content-fits (types.Varchar n) bs = text-fits n bs

both-false : (a b : Bool) → (a || b) ≡ false → (a ≡ false) × (b ≡ false)
both-false true b e = absurd (cc e)
both-false false b e = (refl, e)

allowed-of : (r : Bool) (x : Cell) → (r && is_null_cell x) ≡ false → r ≡ true → x ≡ cell.Null → ⊥
allowed-of r x e required null = let h : (true && is_null_cell cell.Null) ≡ false = rw (required, null) at e in absurd (cc h)

cells-first : (c : ColumnDescriptor) (cs : List ColumnDescriptor) (x : Content) (xs : List Content) → HoldsOfType c.data_type x → Sound (x ∷ xs) → has_refused_null (c ∷ cs) (x ∷ xs) ≡ false
    → (Sound xs → has_refused_null cs xs ≡ false → AllZip FitsColumn cs (cells_of xs)) → AllZip FitsColumn (c ∷ cs) (cells_of (x ∷ xs))
cells-first c cs (Holds y) xs fits sound e others =
    let h = both-false (c.not_null && is_null_cell y) (has_refused_null cs xs) e in
    (record { of_type = fits; allowed = allowed-of c.not_null y h.0 }, others (record { integers = sound.integers; texts = sound.texts; bytes = sound.bytes }) h.1)
cells-first c cs BadInteger xs fits sound e others = absurd (cc sound.integers)
cells-first c cs TooLong xs fits sound e others = absurd (cc sound.texts)
cells-first c cs BadUtf8 xs fits sound e others = absurd (cc sound.bytes)

cells-fit : (cs : List ColumnDescriptor) (fs : Fields) → length fs ≡ length cs → Sound (contents_of cs fs) → has_refused_null cs (contents_of cs fs) ≡ false → AllZip FitsColumn cs (cells_of (contents_of cs fs))
unfolding contents_of
cells-fit [] [] same sound e = tt
cells-fit [] (f ∷ fs) same sound e = absurd (omega (arith, same))
cells-fit (c ∷ cs) [] same sound e = absurd (omega (arith, same))
cells-fit (c ∷ cs) (f ∷ fs) same sound e = cells-first c cs (content_of c.data_type f) (contents_of cs fs) (content-fits c.data_type f) sound e (cells-fit cs fs (omega (arith, same)))

-- a row that a record has
pub record Made (s : TableDescriptor) (before : List (Row (List Cell))) (fs : Fields) (row : Row (List Cell)) : Type 0 where
  pub same : length fs ≡ length s.columns
  pub unbroken : broken_by s before (contents_of s.columns fs) ≡ None
  pub is : table_row (cells_of (contents_of s.columns fs)) ≡ row

made-of : (s : TableDescriptor) (before : List (Row (List Cell))) (fs : Fields) (row : Row (List Cell)) (broken : Option Rule) → length fs ≡ length s.columns → broken_by s before (contents_of s.columns fs) ≡ broken
    → row_unless (length before) (cells_of (contents_of s.columns fs)) broken ≡ Ok row → Made s before fs row
made-of s before fs row None same by e = record { same = same; unbroken = by; is = cc e }
made-of s before fs row (Some r) same by e = absurd (cc e)

pub row-made : (s : TableDescriptor) (before : List (Row (List Cell))) (fs : Fields) (row : Row (List Cell)) → row_after s before fs ≡ Ok row → Made s before fs row
unfolding row_after
row-made s before fs row e = elim (cases_Bool (length fs == length s.columns)) [
  | inl same ↦ made-of s before fs row (broken_by s before (contents_of s.columns fs)) (eqb-true (length fs) (length s.columns) same) refl (rw same at e)
  | inr other ↦ let h = rw other at e in absurd (cc h)
]

made-fits : (s : TableDescriptor) (before : List (Row (List Cell))) (fs : Fields) (row : Row (List Cell)) → Made s before fs row → FitsRow s row
made-fits s before fs row made =
    let all = unbroken-of s before (contents_of s.columns fs) made.unbroken in
    subst (λ (r : Row (List Cell)). FitsRow s r) made.is (record { level = refl; cells = cells-fit s.columns fs made.same all.sound all.nulls })

distinct-push : (ts : List (List Cell)) (t : List Cell) → Distinct ts → list_any (same_cells t) ts ≡ false → Distinct (ts ++ t ∷ [])
distinct-push [] t all e = (refl, tt)
distinct-push (u ∷ ts) t all e =
    let h = both-false (same_cells t u) (list_any (same_cells t) ts) e in
    let last : same_cells u t ≡ false = IsEquivalence.symm cells_equiv u t ∙ h.0 in
    (rw (list_any-append (same_cells u) ts (t ∷ []), all.0, last) refl, distinct-push ts t all.1 h.1)

distinct-more : (ts : List (List Cell)) (o : Option (List Cell)) → Distinct ts → is_among ts o ≡ false → Distinct (and_some ts o)
distinct-more ts None all e = all
distinct-more ts (Some t) all e = distinct-push ts t all e

none-true : (p : KeyDescriptor → Bool) (ks : List KeyDescriptor) → list_any p ks ≡ false → All (λ k. p k ≡ false) ks
none-true p [] e = All-nil (λ k. p k ≡ false)
none-true p (k ∷ ks) e = let h = both-false (p k) (list_any p ks) e in All-cons (λ k. p k ≡ false) k ks h.0 (none-true p ks h.1)

key-more : (k : KeyDescriptor) (before : List (Row (List Cell))) (xs : List Content) → Sound xs → Distinct (keys_in k before) → repeats before xs k ≡ false → Distinct (keys_in k (before ++ table_row (cells_of xs) ∷ []))
key-more k before xs sound all e = rw (keys-push k before (table_row (cells_of xs)), contents-back xs sound) (distinct-more (keys_in k before) (key_cells k xs) all e)

rows-step : (s : TableDescriptor) (before : List (Row (List Cell))) (fs : Fields) (row : Row (List Cell)) → FitsRows s before → Made s before fs row → FitsRows s (before ++ row ∷ [])
rows-step s before fs row all made =
    let xs = contents_of s.columns fs in
    let good = unbroken-of s before xs made.unbroken in
    let apart = none-true (repeats before xs) s.keys good.keys in
    record {
      rows = All-append (FitsRow s) before (row ∷ []) all.rows (All-cons (FitsRow s) row [] (made-fits s before fs row made) (All-nil (FitsRow s)));
      keys = subst (λ (r : Row (List Cell)). All (λ k. Distinct (keys_in k (before ++ r ∷ []))) s.keys) made.is (λ i d low. key-more (get_or s.keys i d) before xs good.sound (all.keys i d low) (apart i d low));
    }

rows-next : (s : TableDescriptor) (before : List (Row (List Cell))) (r : Fields) (rs : List Fields) (rows : List (Row (List Cell))) (made : Result (Row (List Cell)) Fault) → FitsRows s before → row_after s before r ≡ made
    → (made >>= (λ row. rows_after s (before ++ row ∷ []) rs)) ≡ Ok rows → ((row : Row (List Cell)) → FitsRows s (before ++ row ∷ []) → rows_after s (before ++ row ∷ []) rs ≡ Ok rows → FitsRows s rows) → FitsRows s rows
rows-next s before r rs rows (Ok row) all is e others = others row (rows-step s before r row all (row-made s before r row is)) e
rows-next s before r rs rows (Err fault) all is e others = absurd (cc e)

rows-fit : (s : TableDescriptor) (before : List (Row (List Cell))) (rs : List Fields) (rows : List (Row (List Cell))) → FitsRows s before → rows_after s before rs ≡ Ok rows → FitsRows s rows
unfolding rows_after
rows-fit s before [] rows all e = let is : before ≡ rows = cc e in subst (λ (x : List (Row (List Cell))). FitsRows s x) is all
rows-fit s before (r ∷ rs) rows all e = rows-next s before r rs rows (row_after s before r) all refl e (λ row others rest. rows-fit s (before ++ row ∷ []) rs rows others rest)

none-fit : (s : TableDescriptor) → FitsRows s []
none-fit s = record { rows = All-nil (FitsRow s); keys = λ i d low. tt }

under-fits : (s : TableDescriptor) (rs : List Fields) (rows : List (Row (List Cell))) → under_header s rs ≡ Ok rows → FitsRows s rows
under-fits s [] rows e = absurd (cc e)
under-fits s (header ∷ rs) rows e = elim (cases_Bool (pointwise fits_column s.columns header)) [
  | inl same ↦ rows-fit s [] rs rows (none-fit s) (rw same at e)
  | inr other ↦ let h = rw other at e in absurd (cc h)
]

table-rows-fit : (s : TableDescriptor) (bytes : List ℕ) (rows : List (Row (List Cell))) → table_rows s bytes ≡ Ok rows → FitsRows s rows
unfolding table_rows
table-rows-fit s bytes rows e = under-fits s (records_of bytes) rows e

with-fits : (d : TableDecl) (bytes : List ℕ) (r : Result (List (Row (List Cell))) Fault) (t : Table) → table_rows (describe d.elements) bytes ≡ r → Ok t ≡ table_with d r → FitsTable d t
with-fits d bytes (Err fault) t is e = absurd (cc e)
with-fits d bytes (Ok rows) t is e =
    let made : record { name = d.name; bag = rows } ≡ t = cc e in
    subst (λ (x : Table). FitsTable d x) made (record { name = refl; rows = table-rows-fit (describe d.elements) bytes rows is })

table-fits : (d : TableDecl) (bytes : Option (List ℕ)) (t : Table) → Ok t ≡ table_of d bytes → FitsTable d t
table-fits d None t e = absurd (cc e)
table-fits d (Some bytes) t e = with-fits d bytes (table_rows (describe d.elements) bytes) t refl e

-- a table that its bytes hold
pub answer-fits : (d : TableDecl) (bytes : Option (List ℕ)) (r : Result Table DataRefusal) → Answers (table_of d bytes) (loaded r) → IfOk r (λ t. FitsTable d t)
answer-fits d bytes (Ok t) h = table-fits d bytes t h
answer-fits d bytes (Err e) h = tt

fits-push : (ds : List TableDecl) (ts : List Table) (d : TableDecl) (t : Table) → FitsSchema ds ts → FitsTable d t → FitsSchema (ds ++ d ∷ []) (ts ++ t ∷ [])
fits-push [] [] d t all one = (one, tt)
fits-push [] (y ∷ ys) d t all one = absurd all
fits-push (x ∷ xs) [] d t all one = absurd all
fits-push (x ∷ xs) (y ∷ ys) d t all one = (all.0, fits-push xs ys d t all.1 one)

-- one more table
pub fits-more : (ds : List TableDecl) (i : ℕ) (ts : List Table) (d : TableDecl) (t : Table) → i < length ds → d ≡ get_or ds i d → FitsSchema (take i ds) ts → FitsTable d t
    → FitsSchema (take (i + 1) ds) (ts ++ t ∷ [])
fits-more ds i ts d t p is all one = rw (take_more ds i d p, ← is) (fits-push (take i ds) ts d t all one)
