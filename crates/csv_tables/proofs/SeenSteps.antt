-- Keys from row to row.
use Rattle.std.proofs.Common.{ℕ, zero, suc, min, ◌+◌, ◌<◌, ◌≤◌, ◌≡◌, ◌∙◌, List, [], ◌∷◌, ◌++◌, drop, length, map, Option, Some, None, Bool, true, false, ◌&&◌, ◌||◌, refl, sym, ap, arith, add-one, get_or, drop-cons}
use Rattle.std.proofs.Math.Seq.{drop-nil}
use Rattle.std.specs.List.{list_any}
use Rattle.row_bag.specs.declared.row.Row.{Row}
use Rattle.sql_value.specs.declared.cell.Cell.{Cell}
use Rattle.csv_tables.specs.declared.content.Content.{Content}
use Rattle.csv_tables.specs.declared.content.Content.TheVariants.{Holds, BadInteger, TooLong, BadUtf8}
use Rattle.sql_catalog.specs.declared.descriptor.ColumnDescriptor.{ColumnDescriptor}
use Rattle.sql_catalog.specs.declared.descriptor.KeyDescriptor.{KeyDescriptor}
use Rattle.csv_tables.specs.KeyCells.{contents_in, key_cells, keys_in, repeats, with_some}
use Rattle.csv_tables.specs.Seen.{and_some, has_seen, seen_in, seen_with}
use Rattle.csv_tables.specs.Tables.{cells_of, has_refused_null, holds_null, is_bad_integer, is_bad_utf8, is_too_long, table_row}

-- a record that breaks no rule of its fields
pub record Sound (xs : List Content) : Type 0 where
  pub integers : list_any is_bad_integer xs ≡ false
  pub texts : list_any is_too_long xs ≡ false
  pub bytes : list_any is_bad_utf8 xs ≡ false

contents-first : (x : Content) (xs : List Content) → Sound (x ∷ xs) → (Sound xs → map (λ (c : Cell). Holds c) (cells_of xs) ≡ xs) → map (λ (c : Cell). Holds c) (cells_of (x ∷ xs)) ≡ x ∷ xs
contents-first (Holds c) xs sound others = ap (λ (ys : List Content). Holds c ∷ ys) (others (record { integers = sound.integers; texts = sound.texts; bytes = sound.bytes }))
contents-first BadInteger xs sound others = absurd (cc sound.integers)
contents-first TooLong xs sound others = absurd (cc sound.texts)
contents-first BadUtf8 xs sound others = absurd (cc sound.bytes)

-- the row of such a record holds what its fields held
pub contents-back : (xs : List Content) → Sound xs → contents_in (table_row (cells_of xs)) ≡ xs
contents-back [] sound = refl
contents-back (x ∷ xs) sound = contents-first x xs sound (contents-back xs)

swap : (first last : Option (List Cell)) (tuples : List (List Cell)) → with_some first (and_some tuples last) ≡ and_some (with_some first tuples) last
swap None last tuples = refl
swap (Some c) None tuples = refl
swap (Some c) (Some d) tuples = refl

alone : (last : Option (List Cell)) → with_some last [] ≡ and_some [] last
alone None = refl
alone (Some c) = refl

-- one more row
pub keys-push : (k : KeyDescriptor) (rows : List (Row (List Cell))) (row : Row (List Cell)) → keys_in k (rows ++ row ∷ []) ≡ and_some (keys_in k rows) (key_cells k (contents_in row))
keys-push k [] row = alone (key_cells k (contents_in row))
keys-push k (r ∷ rows) row = rw (keys-push k rows row) (swap (key_cells k (contents_in r)) (key_cells k (contents_in row)) (keys_in k rows))

pub row-push : (ks : List KeyDescriptor) (rows : List (Row (List Cell))) (row : Row (List Cell)) → map (seen_with (contents_in row)) (map (seen_in rows) ks) ≡ map (seen_in (rows ++ row ∷ [])) ks
row-push [] rows row = refl
row-push (k ∷ ks) rows row = rw (row-push ks rows row, keys-push k rows row) refl

pub seen-push : (ks : List KeyDescriptor) (rows : List (Row (List Cell))) (xs : List Content) → Sound xs → map (seen_with xs) (map (seen_in rows) ks) ≡ map (seen_in (rows ++ table_row (cells_of xs) ∷ [])) ks
seen-push ks rows xs sound = rw (contents-back xs sound) at (row-push ks rows (table_row (cells_of xs)))

pub seen-none : (ks : List KeyDescriptor) (rows : List (Row (List Cell))) (xs : List Content) → list_any (has_seen xs) (map (seen_in rows) ks) ≡ list_any (repeats rows xs) ks
seen-none [] rows xs = refl
seen-none (k ∷ ks) rows xs = ap (λ b. repeats rows xs k || b) (seen-none ks rows xs)

-- one more field
null-here : (cs : List ColumnDescriptor) (xs : List Content) (i : ℕ) (c : ColumnDescriptor) (x : Content) → i < length cs → i < length xs
    → has_refused_null (drop i cs) (drop i xs) ≡ (((get_or cs i c).not_null && holds_null (get_or xs i x)) || has_refused_null (drop (i + 1) cs) (drop (i + 1) xs))
null-here cs xs i c x p q = rw (drop-cons cs i c p, drop-cons xs i x q, add-one i) refl

pub null-more : (cs : List ColumnDescriptor) (xs : List Content) (i : ℕ) (c : ColumnDescriptor) (x : Content) (all : Bool) → i < length cs → i < length xs → ((get_or cs i c).not_null && holds_null (get_or xs i x)) ≡ false
    → all ≡ has_refused_null (drop i cs) (drop i xs) → all ≡ has_refused_null (drop (i + 1) cs) (drop (i + 1) xs)
null-more cs xs i c x all p q here e = rw (null-here cs xs i c x p q, here) at e

pub null-found : (cs : List ColumnDescriptor) (xs : List Content) (i : ℕ) (c : ColumnDescriptor) (x : Content) (all : Bool) → i < length cs → i < length xs → ((get_or cs i c).not_null && holds_null (get_or xs i x)) ≡ true
    → all ≡ has_refused_null (drop i cs) (drop i xs) → true ≡ all
null-found cs xs i c x all p q here e = sym (rw (null-here cs xs i c x p q, here) at e)

null-none : (cs : List ColumnDescriptor) → has_refused_null cs [] ≡ false
null-none [] = refl
null-none (c ∷ cs) = refl

null-end : (cs : List ColumnDescriptor) (xs : List Content) (i : ℕ) → min (length cs) (length xs) ≤ i → has_refused_null (drop i cs) (drop i xs) ≡ false
null-end [] xs i p = rw (drop-nil i) refl
null-end (c ∷ cs) [] i p = rw (drop-nil i) (null-none (drop i (c ∷ cs)))
null-end (c ∷ cs) (x ∷ xs) zero p = absurd (omega (arith, p))
null-end (c ∷ cs) (x ∷ xs) (suc i) p = null-end cs xs i (omega (arith, p))

pub null-all : (cs : List ColumnDescriptor) (xs : List Content) (i : ℕ) (all : Bool) → min (length cs) (length xs) ≤ i → all ≡ has_refused_null (drop i cs) (drop i xs) → false ≡ all
null-all cs xs i all p e = sym (e ∙ null-end cs xs i p)
