-- Steps from record to record.
use Rattle.std.proofs.Common.{ℕ, ◌<◌, ◌≡◌, ◌∙◌, ◌==◌, List, [], ◌∷◌, ◌++◌, length, map, nat_le, Bool, true, false, if◌then◌else◌, Option, Some, None, Result, Ok, Err, refl, inl, inr}
use Rattle.std.proofs.lemmas.Bool.{cases_Bool, eq-eqb, eqb-true, leb-false}
use Rattle.std.specs.Prelude.{IfOk}
use Rattle.std.specs.Bool.{MatchBool}
use Rattle.std.specs.List.{list_any}
use Rattle.std.specs.Cmp.Lexicographic.{pointwise}
use Rattle.row_bag.specs.declared.row.Row.{Row}
use Rattle.shared_types.specs.declared.memory.OutOfMemory.{OutOfMemory}
use Rattle.sql_value.specs.declared.cell.Cell.{Cell}
use Rattle.csv_tables.specs.declared.content.Content.{Content}
use Rattle.csv_tables.specs.declared.rule.Rule.{Rule}
use Rattle.csv_tables.specs.declared.rule.Rule.TheVariants.{Header, FieldCount, BadInteger, TooLong, NullInNotNull, DuplicateKey, BadUtf8, TooManyRows}
use Rattle.csv_tables.specs.declared.refusal.TableRefusal.{TableRefusal}
use Rattle.csv_tables.specs.declared.refusal.TableRefusal.TheVariants.{Broken, Memory}
use Rattle.csv_tables.specs.Loaded.{Gives}
use Rattle.sql_catalog.specs.declared.descriptor.TableDescriptor.{TableDescriptor}
use Rattle.csv_tables.specs.declared.seen.SeenKey.{SeenKey}
use Rattle.csv_tables.specs.KeyCells.{repeats}
use Rattle.csv_tables.specs.Seen.{seen_in, seen_with}
use Rattle.csv_tables.proofs.SeenSteps.{Sound, seen-push}
use Rattle.csv_tables.specs.Records.{Fields, records_of}
use Rattle.csv_tables.specs.Rules.{Fault}
use Rattle.csv_tables.specs.Tables.{at_header, broken_by, fits_column, cells_of, contents_of, has_refused_null, is_bad_integer, is_bad_utf8, is_too_long, row_after, row_unless, rows_after, table_row, table_rows, under_header}

-- a record with another number of fields
pub row-count : (s : TableDescriptor) (before : List (Row (List Cell))) (fs : Fields) → (length fs ≡ length s.columns → ⊥) → row_after s before fs ≡ row_unless (length before) [] (Some FieldCount)
unfolding row_after
row-count s before fs other = elim (cases_Bool (length fs == length s.columns)) [
  | inl same ↦ absurd (other (eqb-true (length fs) (length s.columns) same))
  | inr not ↦ rw not refl
]

-- a record with a field for each column
pub row-of : (s : TableDescriptor) (before : List (Row (List Cell))) (fs : Fields) (xs : List Content) (broken : Option Rule) → length fs ≡ length s.columns → xs ≡ contents_of s.columns fs → broken_by s before xs ≡ broken
    → row_after s before fs ≡ row_unless (length before) (cells_of xs) broken
unfolding row_after
row-of s before fs xs broken same is by = rw (eq-eqb (length fs) (length s.columns) same, ← is, by) refl

-- a rule that is not broken
pub unbroken : (b : Bool) (rule : Rule) (others : Option Rule) → (if b then Some rule else others) ≡ None → (b ≡ false) × (others ≡ None)
unbroken true rule others e = absurd (cc e)
unbroken false rule others e = (refl, e)

-- a record that breaks no rule
pub record Unbroken (s : TableDescriptor) (before : List (Row (List Cell))) (xs : List Content) : Type 0 where
  pub sound : Sound xs
  pub nulls : has_refused_null s.columns xs ≡ false
  pub keys : list_any (repeats before xs) s.keys ≡ false
  pub few : length before < 1000000

pub unbroken-of : (s : TableDescriptor) (before : List (Row (List Cell))) (xs : List Content) → broken_by s before xs ≡ None → Unbroken s before xs
unfolding broken_by
unbroken-of s before xs e =
    let integers = unbroken (list_any is_bad_integer xs) BadInteger _ e in
    let texts = unbroken (list_any is_too_long xs) TooLong _ integers.1 in
    let nulls = unbroken (has_refused_null s.columns xs) NullInNotNull _ texts.1 in
    let keys = unbroken (list_any (repeats before xs) s.keys) DuplicateKey _ nulls.1 in
    let bytes = unbroken (list_any is_bad_utf8 xs) BadUtf8 _ keys.1 in
    let many = unbroken (nat_le 1000000 (length before)) TooManyRows None bytes.1 in
    record { sound = record { integers = integers.0; texts = texts.0; bytes = bytes.0 }; nulls = nulls.0; keys = keys.0; few = leb-false 1000000 (length before) many.0 }

-- the keys are seen with the row that the record has
pub seen-more : (s : TableDescriptor) (before : List (Row (List Cell))) (xs : List Content) (seen : List SeenKey) → broken_by s before xs ≡ None → seen ≡ map (seen_with xs) (map (seen_in before) s.keys)
    → seen ≡ map (seen_in (before ++ table_row (cells_of xs) ∷ [])) s.keys
seen-more s before xs seen e is = is ∙ seen-push s.keys before xs (Unbroken.sound (unbroken-of s before xs e))

-- one more row
pub rows-more : (s : TableDescriptor) (before : List (Row (List Cell))) (r : Fields) (rs : List Fields) (row : Row (List Cell)) (all : Result (List (Row (List Cell))) Fault) → row_after s before r ≡ Ok row
    → all ≡ rows_after s before (r ∷ rs) → all ≡ rows_after s (before ++ row ∷ []) rs
unfolding rows_after
rows-more s before r rs row all is e = rw is at e

-- a record that breaks a rule
pub rows-stop : (s : TableDescriptor) (before : List (Row (List Cell))) (r : Fields) (rs : List Fields) (fault : Fault) (all : Result (List (Row (List Cell))) Fault) → row_after s before r ≡ Err fault
    → all ≡ rows_after s before (r ∷ rs) → all ≡ Err fault
unfolding rows_after
rows-stop s before r rs fault all is e = rw is at e

-- the same, as the code tells it
pub rows-refused : (s : TableDescriptor) (before : List (Row (List Cell))) (r : Fields) (rs : List Fields) (e : TableRefusal) (all : Result (List (Row (List Cell))) Fault) → Gives {X = Row (List Cell)} (row_after s before r) (Err e)
    → all ≡ rows_after s before (r ∷ rs) → Gives {X = List (Row (List Cell))} all (Err e)
rows-refused s before r rs (Broken rule number) all is e = rows-stop s before r rs (record { rule = rule; record_number = number }) all is e
rows-refused s before r rs Memory all is e = tt

pub rows-end : (s : TableDescriptor) (before : List (Row (List Cell))) (all : Result (List (Row (List Cell))) Fault) → all ≡ rows_after s before [] → all ≡ Ok before
unfolding rows_after
rows-end s before all e = e

pub table-rows : (s : TableDescriptor) (bytes : List ℕ) → table_rows s bytes ≡ under_header s (records_of bytes)
unfolding table_rows
table-rows s bytes = refl

-- the rows under a header, by whether it is for the columns
pub header-under : (r : Result Bool OutOfMemory) (s : TableDescriptor) (all : List Fields) (header : Fields) (rs : List Fields) → all ≡ header ∷ rs → IfOk r (λ b. b ≡ pointwise fits_column s.columns header)
    → IfOk r (λ b. MatchBool b (under_header s all ≡ rows_after s [] rs) (under_header s all ≡ Err (at_header Header)))
header-under (Ok true) s all header rs e fits = rw (e, ← fits) refl
header-under (Ok false) s all header rs e fits = rw (e, ← fits) refl
header-under (Err why) s all header rs e fits = tt
