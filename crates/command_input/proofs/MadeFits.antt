-- The tables that are made fit the fixed schema.
use Rattle.std.proofs.Common.{ℕ, lt-ltb, subst, true≢false, Option, None, ◌≡◌, ◌∙◌, ◌+◌, ◌*◌, ◌^◌, ◌<◌, ◌≤◌, ◌==◌, ◌%◌, ◌++◌, Bool, true, false, refl, sym, ap, zero, suc, pos, List, [], ◌∷◌, Some, length, inl, inr, arith}
use Rattle.std.specs.List.{All, list_any}
use Rattle.std.proofs.lemmas.Bool.{cases_Bool, le-ltb}
use Rattle.std.proofs.lemmas.List.Elements.{All-cons, All-head, All-nil, All-push, All-tail}
use Rattle.std.proofs.lemmas.List.Folds.{list_any-append}
use Rattle.std.proofs.lemmas.Fmt.{length-decimal-le}
use Rattle.std.proofs.Math.Nat.{mod-lt}
use Rattle.row_bag.specs.declared.row.Row.{Row}
use Rattle.sql_value.specs.declared.cell.Cell.{Cell}
use Rattle.sql_value.specs.declared.cell.Cell.TheVariants as cell
use Rattle.sql_ast.specs.declared.word.DataType.TheVariants as types
use Rattle.sql_catalog.specs.Descriptor.{describe}
use Rattle.sql_catalog.specs.declared.descriptor.ColumnDescriptor.{ColumnDescriptor}
use Rattle.sql_catalog.specs.declared.descriptor.KeyDescriptor.{KeyDescriptor}
use Rattle.generated_input.specs.Made.{building, dept, dept_of, depts, draw, emp, emp_of, made, name_of, rows_at}
use Rattle.sql_catalog.specs.declared.descriptor.TableDescriptor.{TableDescriptor}
use Rattle.csv_tables.specs.Contents.{is_longer}
use Rattle.csv_tables.specs.Fits.{Distinct, FitsColumn, FitsRow, FitsRows, FitsSchema, OfType}
use Rattle.csv_tables.specs.KeyCells.{cells_at, with_some, contents_in, key_cells, keys_in, same_cells}
use Rattle.command_input.proofs.FixedTables.{dept_table, emp_table}

-- a name has three characters at most
short : (n : ℕ) → is_longer (name_of (n % 50)) (pos 4) ≡ false
short n =
    let small : n % 50 < 50 = omega arith in
    let few : n % 50 < 10 ^ 2 = omega arith in
    let wide : n % 50 < 2 ^ 64 = omega arith in
    let most = length-decimal-le 2 (n % 50) (omega arith) few wide in
    le-ltb 4 (length (name_of (n % 50))) (omega (arith, most))

-- a building is null, or a short name
built : (v : ℕ) → OfType (types.Varchar (pos 4)) (building v)
built v = elim (cases_Bool (v % 10 == 0)) [ inl e ↦ rw e tt | inr e ↦ rw e (short v) ]

-- ---- keys

-- the numbers from 1 on, so many
ups : ℕ → List (List Cell)
ups zero = []
ups (suc n) = ups n ++ (cell.Int (pos (n + 1)) ∷ []) ∷ []

lower : (a b : ℕ) → a < b → same_cells (cell.Int (pos a) ∷ []) (cell.Int (pos b) ∷ []) ≡ false
lower a b lt = rw (lt-ltb a b lt) refl

any-more : (p : List Cell → Bool) (xs : List (List Cell)) (t : List Cell) → list_any p xs ≡ false → p t ≡ false → list_any p (xs ++ t ∷ []) ≡ false
any-more p xs t h e = list_any-append p xs (t ∷ []) ∙ rw (h, e) refl

distinct-more : (ts : List (List Cell)) (t : List Cell) → Distinct ts → All (λ (s : List Cell). same_cells s t ≡ false) ts → Distinct (ts ++ t ∷ [])
distinct-more [] t d h = (refl, tt)
distinct-more (s ∷ ts) t d h = (
  any-more (same_cells s) ts t d.0 (All-head (λ (s : List Cell). same_cells s t ≡ false) s ts h),
  distinct-more ts t d.1 (All-tail (λ (s : List Cell). same_cells s t ≡ false) s ts h),
)

all-lower : (n m : ℕ) → n ≤ m → All (λ (s : List Cell). same_cells s (cell.Int (pos (m + 1)) ∷ []) ≡ false) (ups n)
unfolding ups
all-lower zero m le = All-nil (λ (s : List Cell). same_cells s (cell.Int (pos (m + 1)) ∷ []) ≡ false)
all-lower (suc n) m le =
    All-push (λ (s : List Cell). same_cells s (cell.Int (pos (m + 1)) ∷ []) ≡ false) (ups n) (cell.Int (pos (n + 1)) ∷ [])
    (all-lower n m (omega (arith, le))) (lower (n + 1) (m + 1) (omega (arith, le)))

distinct-ups : (n : ℕ) → Distinct (ups n)
unfolding ups
distinct-ups zero = tt
distinct-ups (suc n) = distinct-more (ups n) (cell.Int (pos (n + 1)) ∷ []) (distinct-ups n) (all-lower n n (omega arith))

some-append : (o : Option (List Cell)) (ts : List (List Cell)) (c : List Cell) → with_some o (ts ++ c ∷ []) ≡ with_some o ts ++ c ∷ []
some-append None ts c = refl
some-append (Some t) ts c = refl

-- the cells of a key that is the first column
module _ (k : KeyDescriptor) (f : ℕ → Row (List Cell)) (has : (i : ℕ) → key_cells k (contents_in (f i)) ≡ Some (cell.Int (pos (i + 1)) ∷ [])) where
  keys-append : (xs : List (Row (List Cell))) (r : Row (List Cell)) (c : List Cell) → key_cells k (contents_in r) ≡ Some c → keys_in k (xs ++ r ∷ []) ≡ keys_in k xs ++ c ∷ []
  keys-append [] r c e = rw e refl
  keys-append (x ∷ xs) r c e = rw (keys-append xs r c e) (some-append (key_cells k (contents_in x)) (keys_in k xs) c)

  keys-at : (n : ℕ) → keys_in k (rows_at f n) ≡ ups n
  unfolding rows_at ups
  keys-at zero = refl
  keys-at (suc n) = keys-append (rows_at f n) (f n) _ (has n) ∙ ap (λ (ts : List (List Cell)). ts ++ (cell.Int (pos (n + 1)) ∷ []) ∷ []) (keys-at n)

-- each of the rows, so many at most
all-rows : (P : Row (List Cell) → Type 0) (f : ℕ → Row (List Cell)) (m : ℕ) → ((i : ℕ) → i < m → P (f i)) → (n : ℕ) → n ≤ m → All P (rows_at f n)
unfolding rows_at
all-rows P f m h zero le = All-nil P
all-rows P f m h (suc n) le = All-push P (rows_at f n) (f n) (all-rows P f m h n (omega (arith, le))) (h n (omega (arith, le)))

-- a number of 64 bits in a column
some-number : (c : ColumnDescriptor) (n : ℕ) → n < 2 ^ 63 → c.data_type ≡ types.Integer → FitsColumn c (cell.Int (pos n))
some-number c n small is = record { of_type = rw is (lt-ltb n (2 ^ 63) small); allowed = λ h e. absurd (cc) }

-- a place, from 1
place : (i : ℕ) → i < 2 ^ 60 → i + 1 < 2 ^ 63
place i small = omega (arith, small)

thousands : (w : ℕ) → w % 1000 < 2 ^ 63
thousands w = let below : w % 1000 < 1000 = mod-lt w (omega arith) in omega (arith, below)

within-places : (u d : ℕ) → 0 < d → d < 2 ^ 61 → u % d + 1 < 2 ^ 63
within-places u d some small = let below = mod-lt u some in omega (arith, below, small)

building-in : (c : ColumnDescriptor) (v : ℕ) → c.data_type ≡ types.Varchar (pos 4) → c.not_null ≡ false → FitsColumn c (building v)
building-in c v is free = record { of_type = rw is (built v); allowed = λ h e. absurd (true≢false (sym h ∙ free)) }

dept-row : (seed i : ℕ) → i < 2 ^ 60 → FitsRow (describe dept_table.elements) (dept seed i)
unfolding dept_of
dept-row seed i small = record {
  level = refl;
  cells = (some-number _ (i + 1) (place i small) refl, (building-in _ _ refl refl, (some-number _ _ (thousands (draw seed (2 * i + 1))) refl, tt)));
}

emp-row : (seed d i : ℕ) → 0 < d → d < 2 ^ 61 → i < 2 ^ 60 → FitsRow (describe emp_table.elements) (emp seed d i)
unfolding emp_of
emp-row seed d i some few small = record {
  level = refl;
  cells = (
    some-number _ (i + 1) (place i small) refl,
    (some-number _ _ (within-places (draw seed (2 * d + 3 * i)) d some few) refl, (building-in _ _ refl refl, (some-number _ _ (thousands (draw seed (2 * d + 3 * i + 2))) refl, tt))),
  );
}

first-key : KeyDescriptor
first-key = record { primary = true; places = 0 ∷ [] }

dept-key : (seed i : ℕ) → key_cells first-key (contents_in (dept seed i)) ≡ Some (cell.Int (pos (i + 1)) ∷ [])
unfolding dept_of cells_at first-key
dept-key seed i = refl

emp-key : (seed d i : ℕ) → key_cells first-key (contents_in (emp seed d i)) ≡ Some (cell.Int (pos (i + 1)) ∷ [])
unfolding emp_of cells_at first-key
emp-key seed d i = refl

distinct-keys : (f : ℕ → Row (List Cell)) → ((i : ℕ) → key_cells first-key (contents_in (f i)) ≡ Some (cell.Int (pos (i + 1)) ∷ [])) → (n : ℕ) → Distinct (keys_in first-key (rows_at f n))
distinct-keys f has n = subst Distinct (sym (keys-at first-key f has n)) (distinct-ups n)

fits-rows : (t : TableDescriptor) (f : ℕ → Row (List Cell)) → t.keys ≡ first-key ∷ [] → ((i : ℕ) → i < 2 ^ 60 → FitsRow t (f i))
    → ((i : ℕ) → key_cells first-key (contents_in (f i)) ≡ Some (cell.Int (pos (i + 1)) ∷ [])) → (n : ℕ) → n ≤ 2 ^ 60 → FitsRows t (rows_at f n)
fits-rows t f keys row has n few = record {
  rows = all-rows (FitsRow t) f (2 ^ 60) row n few;
  keys = rw keys (All-cons (λ (k : KeyDescriptor). Distinct (keys_in k (rows_at f n))) first-key [] (distinct-keys f has n) (All-nil (λ (k : KeyDescriptor). Distinct (keys_in k (rows_at f n)))));
}

tenth : (rows : ℕ) → rows < 2 ^ 60 → depts rows ≤ 2 ^ 60
tenth rows few = omega (arith, few)

-- the tables that are made fit the fixed schema
pub made-fits : (seed rows : ℕ) → rows < 2 ^ 60 → FitsSchema (dept_table ∷ emp_table ∷ []) (made seed rows)
unfolding first-key
made-fits seed rows few =
    let d = tenth rows few in (
      record { name = refl; rows = fits-rows (describe dept_table.elements) (dept seed) refl (dept-row seed) (dept-key seed) (depts rows) d },
      (
        record {
          name = refl;
          rows =
              fits-rows (describe emp_table.elements) (emp seed (depts rows)) refl (λ i small. emp-row seed (depts rows) i (omega arith) (omega (arith, d)) small)
              (emp-key seed (depts rows)) rows (omega (arith, few));
        },
        tt,
      ),
    )
