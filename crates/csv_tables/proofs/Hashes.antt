-- Steps of the loops that hash the cells of a key, and what hashes tell of rows.
use Rattle.std.proofs.Common.{ℕ, suc, ◌+◌, ◌<◌, ◌≤◌, ◌≡◌, ◌∙◌, List, [], ◌∷◌, ◌++◌, drop, take, length, map, get_or, Bool, true, false, ◌||◌, not, if◌then◌else◌, Option, Some, None, refl, sym, ap, inl, inr, append_assoc, add-one, drop-cons}
use Rattle.std.specs.Prelude.{fold, option_and_then, option_map, slice_get}
use Rattle.std.proofs.Math.ListN.{drop_of_length-le}
use Rattle.std.proofs.lemmas.Bool.{cases_Bool}
use Rattle.std.proofs.lemmas.Cmp.{eq_by_cmp_equiv, nat_cmp_total}
use Rattle.std.proofs.lemmas.List.{map-append, take_more}
use Rattle.std.proofs.lemmas.List.Sorted.{IsPermutation-sym}
use Rattle.std.proofs.lemmas.Map.Keys.{IsDistinct-from_sorted, IsDistinct-head, IsDistinct-tail, sorted_from_strictly_increasing}
use Rattle.std.proofs.lemmas.Slice.Eq.{slice_eq-Decides}
use Rattle.std.specs.Cmp.{IsEquivalence}
use Rattle.std.specs.Hash.FoldHasher.{finish}
use Rattle.std.specs.List.{AllByRecursion, IsDistinct, list_any}
use Rattle.std.specs.List.Sorted.{IsPermutation, IsStrictlyIncreasing}
use Rattle.std.specs.Ordering.{eq_by_cmp, nat_cmp}
use Rattle.std.specs.declared.hash.FoldHasher.{FoldHasher}
use Rattle.indexmap.proofs.MapLemmas.{distinct_permutation}
use Rattle.row_bag.specs.declared.row.Row.{Row}
use Rattle.sql_value.specs.declared.cell.Cell.{Cell}
use Rattle.sql_catalog.specs.declared.descriptor.KeyDescriptor.{KeyDescriptor}
use Rattle.csv_tables.specs.declared.content.Content.{Content}
use Rattle.csv_tables.specs.Differ.{fed_with, hash_of, rows_differ}
use Rattle.csv_tables.specs.KeyCells.{cells_at, contents_in, held, if_counted, is_among, is_null_cell, key_cells, keys_in, same_cells, with_some}
use Rattle.csv_tables.specs.Seen.{and_some}
use Rattle.csv_tables.specs.Ties.{cell_decides}
use Rattle.csv_tables.proofs.SeenSteps.{keys-push}

-- the hash of the cells at these places, where they count, from a hasher on
abbrev pub hashed : FoldHasher → Bool → List ℕ → List Content → Option ℕ
hashed h primary ps xs = option_map (λ cells. finish (fold fed_with h cells)) (option_and_then (if_counted primary) (cells_at ps xs))

if-same : (b : Bool) (f g : List Cell → ℕ) (xs ys : List Cell) → f xs ≡ g ys → option_map f (if b then None else Some xs) ≡ option_map g (if b then None else Some ys)
if-same true f g xs ys e = refl
if-same false f g xs ys e = ap (λ (n : ℕ). Some n) e

null-not : (b : Bool) → not b ≡ true → b ≡ false
null-not true e = absurd (cc e)
null-not false e = refl

null-is : (b : Bool) → not b ≡ false → b ≡ true
null-is true e = refl
null-is false e = absurd (cc e)

first-counts : (primary : Bool) (c : Cell) (h : FoldHasher) (cs : List Cell) → (primary || not (is_null_cell c)) ≡ true
    → option_map (λ cells. finish (fold fed_with h cells)) (if_counted primary (c ∷ cs)) ≡ option_map (λ cells. finish (fold fed_with (fed_with h c) cells)) (if_counted primary cs)
first-counts true c h cs e = refl
first-counts false c h cs e = rw (null-not (is_null_cell c) e) (if-same (list_any is_null_cell cs) _ _ (c ∷ cs) cs refl)

first-null : (primary : Bool) (c : Cell) (f : List Cell → ℕ) (cs : List Cell) → (primary || not (is_null_cell c)) ≡ false → option_map f (if_counted primary (c ∷ cs)) ≡ None
first-null true c f cs e = absurd (cc e)
first-null false c f cs e = rw (null-is (is_null_cell c) e) refl

pub hashed-more : (primary : Bool) (ps : List ℕ) (xs : List Content) (i : ℕ) (c : Cell) (h : FoldHasher) (all : Option ℕ) → i < length ps → held (slice_get xs (get_or ps i 0)) ≡ Some c → (primary || not (is_null_cell c)) ≡ true
    → all ≡ hashed h primary (drop i ps) xs → all ≡ hashed (fed_with h c) primary (drop (i + 1) ps) xs
unfolding cells_at
hashed-more primary ps xs i c h all within at counts e = (rw (drop-cons ps i 0 within, at) at e) ∙ rw (add-one i) (elim (cells_at (drop (suc i) ps) xs) as (λ o. option_map (λ cells. finish (fold fed_with h cells)) (option_and_then (if_counted primary) (option_and_then (λ (cs : List Cell). Some (c ∷ cs)) o))
    ≡ option_map (λ cells. finish (fold fed_with (fed_with h c) cells)) (option_and_then (if_counted primary) o)) [
      | None ↦ refl
      | Some cs ↦ first-counts primary c h cs counts
    ])

pub hashed-null : (primary : Bool) (ps : List ℕ) (xs : List Content) (i : ℕ) (c : Cell) (h : FoldHasher) (all : Option ℕ) → i < length ps → held (slice_get xs (get_or ps i 0)) ≡ Some c → (primary || not (is_null_cell c)) ≡ false
    → all ≡ hashed h primary (drop i ps) xs → all ≡ None
unfolding cells_at
hashed-null primary ps xs i c h all within at counts e = (rw (drop-cons ps i 0 within, at) at e) ∙ (elim (cells_at (drop (suc i) ps) xs) as (λ o. option_map (λ cells. finish (fold fed_with h cells)) (option_and_then (if_counted primary) (option_and_then (λ (cs : List Cell). Some (c ∷ cs)) o)) ≡ None) [
  | None ↦ refl
  | Some cs ↦ first-null primary c _ cs counts
])

pub hashed-none : (primary : Bool) (ps : List ℕ) (xs : List Content) (i : ℕ) (h : FoldHasher) (all : Option ℕ) → i < length ps → held (slice_get xs (get_or ps i 0)) ≡ None → all ≡ hashed h primary (drop i ps) xs → all ≡ None
unfolding cells_at
hashed-none primary ps xs i h all within at e = rw (drop-cons ps i 0 within, at) at e

counted-none : (primary : Bool) → if_counted primary [] ≡ Some []
counted-none true = refl
counted-none false = refl

pub hashed-all : (primary : Bool) (ps : List ℕ) (xs : List Content) (i : ℕ) (h : FoldHasher) (all : Option ℕ) → length ps ≤ i → all ≡ hashed h primary (drop i ps) xs → all ≡ Some (finish h)
unfolding cells_at
hashed-all primary ps xs i h all past e = rw (counted-none primary) at (rw (drop_of_length-le ps {i = i} past) at e)

some-last : (tuples : List (List Cell)) (o : Option (List Cell)) (hash : ℕ) → option_map hash_of o ≡ Some hash → map hash_of (and_some tuples o) ≡ map hash_of tuples ++ hash ∷ []
some-last tuples None hash e = absurd (cc e)
some-last tuples (Some cells) hash e = rw (map-append hash_of tuples (cells ∷ [])) (ap (λ (x : ℕ). map hash_of tuples ++ x ∷ []) (cc e))

none-last : (tuples : List (List Cell)) (o : Option (List Cell)) → option_map hash_of o ≡ None → and_some tuples o ≡ tuples
none-last tuples None e = refl
none-last tuples (Some cells) e = absurd (cc e)

-- one more row, whose cells of the key count
pub hash-more : (k : KeyDescriptor) (rows : List (Row (List Cell))) (i : ℕ) (row : Row (List Cell)) (hash : ℕ) (hashes : List ℕ) → i < length rows → row ≡ get_or rows i row → option_map hash_of (key_cells k (contents_in row)) ≡ Some hash
    → hashes ≡ map hash_of (keys_in k (take i rows)) → hashes ++ hash ∷ [] ≡ map hash_of (keys_in k (take (i + 1) rows))
hash-more k rows i row hash hashes within here is e = rw (take_more rows i row within, ← here, keys-push k (take i rows) row, e) (sym (some-last (keys_in k (take i rows)) (key_cells k (contents_in row)) hash is))

-- one more row, whose cells don't count
pub hash-none : (k : KeyDescriptor) (rows : List (Row (List Cell))) (i : ℕ) (row : Row (List Cell)) (hashes : List ℕ) → i < length rows → row ≡ get_or rows i row → option_map hash_of (key_cells k (contents_in row)) ≡ None
    → hashes ≡ map hash_of (keys_in k (take i rows)) → hashes ≡ map hash_of (keys_in k (take (i + 1) rows))
hash-none k rows i row hashes within here is e = rw (take_more rows i row within, ← here, keys-push k (take i rows) row, none-last (keys_in k (take i rows)) (key_cells k (contents_in row)) is) e

-- the test by which numbers are told apart
abbrev pub same_number : ℕ → ℕ → Bool
same_number = eq_by_cmp nat_cmp

same-is : (xs ys : List Cell) → same_cells xs ys ≡ true → xs ≡ ys
same-is xs ys = (slice_eq-Decides cell_decides xs ys (same_cells xs ys) refl).0

-- cells of other hashes are other cells
apart : (xs ys : List Cell) → same_number (hash_of xs) (hash_of ys) ≡ false → same_cells ys xs ≡ false
apart xs ys other = elim (cases_Bool (same_cells ys xs)) [
  | inl ties ↦ absurd (cc (sym other ∙ ap (same_number (hash_of xs)) (ap hash_of (same-is ys xs ties)) ∙ IsEquivalence.refl (eq_by_cmp_equiv nat_cmp_total) (hash_of xs)))
  | inr not ↦ not
]

amid : (hash : ℕ) (xs : List (List Cell)) (y : List Cell) (ys : List (List Cell)) → AllByRecursion (λ z. same_number hash z ≡ false) (map hash_of (xs ++ y ∷ ys)) → same_number hash (hash_of y) ≡ false
amid hash [] y ys d = d.0
amid hash (x ∷ xs) y ys d = amid hash xs y ys d.1

none-before : (xs : List (List Cell)) (y : List Cell) (ys : List (List Cell)) → IsDistinct same_number (map hash_of (xs ++ y ∷ ys)) → list_any (same_cells y) xs ≡ false
none-before [] y ys d = refl
none-before (x ∷ xs) y ys d =
    let here = apart x y (amid (hash_of x) xs y ys (IsDistinct-head same_number (hash_of x) (map hash_of (xs ++ y ∷ ys)) d)) in
    rw here (none-before xs y ys (IsDistinct-tail same_number (hash_of x) (map hash_of (xs ++ y ∷ ys)) d))

over : (o : Option (List Cell)) (xs ys : List (List Cell)) → with_some o (xs ++ ys) ≡ with_some o xs ++ ys
over None xs ys = refl
over (Some cells) xs ys = refl

keys-over : (k : KeyDescriptor) (before rows : List (Row (List Cell))) → keys_in k (before ++ rows) ≡ keys_in k before ++ keys_in k rows
keys-over k [] rows = refl
keys-over k (row ∷ before) rows = rw (keys-over k before rows) (over (key_cells k (contents_in row)) (keys_in k before) (keys_in k rows))

not-among : (o : Option (List Cell)) (xs ys : List (List Cell)) → IsDistinct same_number (map hash_of (xs ++ with_some o ys)) → is_among xs o ≡ false
not-among None xs ys d = refl
not-among (Some cells) xs ys d = none-before xs cells ys d

differ-from : (k : KeyDescriptor) (before rows : List (Row (List Cell))) → IsDistinct same_number (map hash_of (keys_in k (before ++ rows))) → rows_differ k before rows ≡ true
unfolding rows_differ
differ-from k before [] d = refl
differ-from k before (row ∷ rows) d =
    let free = not-among (key_cells k (contents_in row)) (keys_in k before) (keys_in k rows) (rw (keys-over k before (row ∷ rows)) at d) in
    rw free (differ-from k (before ++ row ∷ []) rows (rw (append_assoc before (row ∷ []) rows) d))

-- rows whose hashes rise, once sorted, differ in the key
pub differ-risen : (k : KeyDescriptor) (rows : List (Row (List Cell))) (hashes sorted : List ℕ) → hashes ≡ map hash_of (keys_in k rows) → IsPermutation hashes sorted → IsStrictlyIncreasing sorted → rows_differ k [] rows ≡ true
differ-risen k rows hashes sorted is moves rise =
    let distinct = IsDistinct-from_sorted nat_cmp sorted (sorted_from_strictly_increasing sorted rise) in
    let unsorted = distinct_permutation (eq_by_cmp_equiv nat_cmp_total) sorted hashes (IsPermutation-sym hashes sorted moves) distinct in
    differ-from k [] rows (rw is at unsorted)
