-- Ranks keep the order of rows by keys.
use Rattle.std.proofs.Common.{ℕ, ◌+◌, ◌<◌, ◌≡◌, ℤ, pos, neg_ℤ, ◌<ℤ◌, Bool, true, false, if◌then◌else◌, All, List, [], ◌∷◌, ◌++◌, get_or, length, length-append, map, nat_eq, refl, sym, ap, ap₂, ◌∙◌, arith, inl, inr}
use Rattle.std.proofs.Math.Seq.{get_or-append_seam}
use Rattle.std.proofs.lemmas.Bool.{cases_eq, cases_lt}
use Rattle.std.proofs.lemmas.Int.{clamps, ints}
use Rattle.std.proofs.lemmas.Cmp.{int_cmp_total}
use Rattle.std.proofs.lemmas.List.{ext_get_or, get_or-map, get_or_append_left, get_or_default, length-map}
use Rattle.std.proofs.lemmas.List.Sorted.{All-permutation, IsPermutation-map, ranks_by}
use Rattle.std.specs.Cmp.{IsStrictWeakOrder, IsTotalOrder, int_cmp_is, int_ranks, on_total, then_total}
use Rattle.std.specs.List.Sorted.{IsPermutation, IsSortedBy}
use Rattle.std.specs.Cmp.Lexicographic.{slice_cmp}
use Rattle.std.specs.Ordering.{MatchOrdering, int_cmp, is_lt, nat_cmp, ordering_reverse, ordering_then}
use Rattle.std.specs.declared.cmp.Ordering.{Ordering}
use Rattle.std.specs.declared.cmp.Ordering.TheVariants.{Less, Equal, Greater}
use Rattle.sql_value.specs.Cells.{cell_compare}
use Rattle.sql_value.specs.Level.{rank as level_rank}
use Rattle.sql_value.specs.declared.cell.Cell.{Cell}
use Rattle.sql_value.specs.declared.cell.Cell.TheVariants.{Int, Text, Null, Err}
use Rattle.sql_value.specs.declared.order_key.OrderKey.{OrderKey}
use Rattle.row_bag.specs.Order.{cell_of, compare_by, row_less}
use Rattle.row_bag.specs.Places.{row_at, rows_at}
use Rattle.row_bag.specs.Ranks.{AreRanks, compare_ranked, key_rank, places_of, rank}
use Rattle.row_bag.specs.declared.row.Row.{Row}
use Rattle.row_bag.specs.declared.sort.Ranked.{Ranked}
use Rattle.sql_value.specs.declared.level.Level.TheVariants.{Yes}
use Rattle.row_bag.specs.Bags.{row}
use Rattle.row_bag.proofs.Digits.{leading-less, leading-low}
use Rattle.row_bag.proofs.Order.{by-total}

pub rank-less : (a b : Cell) → rank a <ℤ rank b → cell_compare a b ≡ Less
rank-less Null Null low = absurd (omega (arith, ints, clamps, low))
rank-less Null (Int y) low = refl
rank-less Null (Text t) low = refl
rank-less Null (Err k) low = refl
rank-less (Int x) Null low = absurd (omega (arith, ints, clamps, low))
rank-less (Int x) (Int y) low = sym (int_cmp_is x y Less (omega (arith, ints, clamps, low)))
rank-less (Int x) (Text t) low = refl
rank-less (Int x) (Err k) low = refl
rank-less (Text s) Null low = absurd (omega (arith, ints, clamps, low))
rank-less (Text s) (Int y) low = absurd (omega (arith, ints, clamps, low))
rank-less (Text s) (Text t) low = leading-less 8 s t (omega (arith, ints, clamps, low))
rank-less (Text s) (Err k) low = refl
rank-less (Err j) Null low = absurd (omega (arith, ints, clamps, low))
rank-less (Err j) (Int y) low = absurd (omega (arith, ints, clamps, low))
rank-less (Err j) (Text t) low = let few = leading-low 8 t in absurd (omega (arith, ints, clamps, low, few))
rank-less (Err j) (Err k) low = absurd (omega (arith, ints, clamps, low))

not-below-null : (a : Cell) → cell_compare a Null ≡ Less → ⊥
not-below-null Null e = cc e
not-below-null (Int x) e = cc e
not-below-null (Text t) e = cc e
not-below-null (Err k) e = cc e

cells-less : (a b : List Cell) → rank (cell_of 1 a) <ℤ rank (cell_of 1 b) → slice_cmp cell_compare a b ≡ Less
cells-less [] [] low = absurd (not-below-null Null (rank-less Null Null low))
cells-less [] (y ∷ b) low = refl
cells-less (x ∷ a) [] low = absurd (not-below-null x (rank-less x Null low))
cells-less (x ∷ a) (y ∷ b) low = ap (λ o. ordering_then o (slice_cmp cell_compare a b)) (rank-less x y low)

either-less : (back : Bool) (x y : Cell) → (if back then neg_ℤ (rank x) else rank x) <ℤ (if back then neg_ℤ (rank y) else rank y) → (if back then cell_compare y x else cell_compare x y) ≡ Less
either-less true x y low = rank-less y x (omega (arith, ints, low))
either-less false x y low = rank-less x y low

-- a row of a lower rank stands before
pub ranked-less : (keys : List OrderKey) (a b : Row (List Cell)) → key_rank keys a <ℤ key_rank keys b → compare_by keys a b ≡ Less
ranked-less [] a b low = ap (λ o. ordering_then o (nat_cmp (level_rank a.level) (level_rank b.level))) (cells-less a.cells b.cells low)
ranked-less (key ∷ keys) a b low = ap (λ o. ordering_then o (compare_by keys a b)) (either-less key.descending (cell_of key.column a.cells) (cell_of key.column b.cells) low)

settled : (o : Ordering) (x y : ℤ) (rest : Ordering) → MatchOrdering o (x <ℤ y) (x ≡ y) (y <ℤ x) → (x <ℤ y → rest ≡ Less) → (y <ℤ x → rest ≡ Greater) → ordering_then o rest ≡ rest
settled Less x y rest is less greater = sym (less is)
settled Equal x y rest is less greater = refl
settled Greater x y rest is less greater = sym (greater is)

-- rows compared by their ranks first
pub ranked-compare : (keys : List OrderKey) (a b : Row (List Cell)) → ordering_then (int_cmp (key_rank keys a) (key_rank keys b)) (compare_by keys a b) ≡ compare_by keys a b
ranked-compare keys a b =
    settled (int_cmp (key_rank keys a) (key_rank keys b)) (key_rank keys a) (key_rank keys b) (compare_by keys a b) (int_ranks (key_rank keys a) (key_rank keys b)) (ranked-less keys a b)
    (λ above. (by-total keys).antisymm a b ∙ ap ordering_reverse (ranked-less keys b a above))

-- ---- places

pub places-total : (keys : List OrderKey) (rows : List (Row (List Cell))) → IsTotalOrder (compare_ranked keys rows)
places-total keys rows = then_total (on_total (λ (p : Ranked). p.rank) int_cmp_total) (on_total (λ (p : Ranked). row_at rows p.place) (by-total keys))

abbrev pub place_less : List OrderKey → List (Row (List Cell)) → Ranked → Ranked → Bool
place_less keys rows a b = is_lt (compare_ranked keys rows a b)

pub places-rank : (keys : List OrderKey) (rows : List (Row (List Cell))) → IsStrictWeakOrder (place_less keys rows)
places-rank keys rows = ranks_by (places-total keys rows) (λ (p : Ranked). p)

as-ranked : (keys : List OrderKey) (rows : List (Row (List Cell))) (a b : Ranked) → a.rank ≡ key_rank keys (row_at rows a.place) → b.rank ≡ key_rank keys (row_at rows b.place)
    → compare_ranked keys rows a b ≡ compare_by keys (row_at rows a.place) (row_at rows b.place)
as-ranked keys rows a b one other =
    ap₂ (λ x y. ordering_then (int_cmp x y) (compare_by keys (row_at rows a.place) (row_at rows b.place))) one other ∙ ranked-compare keys (row_at rows a.place) (row_at rows b.place)

rows-ranked : (rows : List (Row (List Cell))) (ranked : List Ranked) → rows_at rows (places_of ranked) ≡ map (λ p. row_at rows p.place) ranked
rows-ranked rows [] = refl
rows-ranked rows (p ∷ ranked) = ap (λ t. row_at rows p.place ∷ t) (rows-ranked rows ranked)

-- the rows at places that ascend
pub places-ascend : (keys : List OrderKey) (rows : List (Row (List Cell))) (ranked : List Ranked) → AreRanks keys rows ranked → IsSortedBy (place_less keys rows) ranked → IsSortedBy (row_less keys) (rows_at rows (places_of ranked))
places-ascend keys rows ranked ranks up = rw rows-ranked ascend
  where
    ascend : IsSortedBy (row_less keys) (map (λ p. row_at rows p.place) ranked)
    ascend k d low within =
        let none : Ranked = record { rank = pos 0; place = 0 } in
        let at = λ (p : Ranked). row_at rows p.place in
        let size = length-map ranked at in
        let here : k + 1 < length ranked = omega (arith, size, within) in
        let first = get_or-map at ranked k none d (omega (arith, here)) in
        let second = get_or-map at ranked (k + 1) none d here in
        let same = as-ranked keys rows (get_or ranked (k + 1) none) (get_or ranked k none) (ranks (k + 1) none here) (ranks k none (omega (arith, here))) in
        ap₂ (row_less keys) second first ∙ ap is_lt (sym same) ∙ up k none low here

-- ---- the places of all rows

abbrev pub AreOwn : List Ranked → Type 0
AreOwn ranked = (k : ℕ) (d : Ranked) → k < length ranked → (get_or ranked k d).place ≡ k

pub own-push : (ranked : List Ranked) (p : Ranked) → AreOwn ranked → p.place ≡ length ranked → AreOwn (ranked ++ p ∷ [])
own-push ranked p own last k d low = elim (cases_lt k (length ranked)) [
  | inl before ↦ ap (λ (q : Ranked). q.place) (get_or_append_left ranked (p ∷ []) d k before) ∙ own k d before
  | inr past ↦
      let more = length-append ranked (p ∷ []) in
      let is : k ≡ length ranked = omega (arith, low, past, more) in
      ap (λ (n : ℕ). (get_or (ranked ++ p ∷ []) n d).place) is ∙ ap (λ (q : Ranked). q.place) (get_or-append_seam ranked p [] d) ∙ last ∙ sym is
]

own-at : (ranked : List Ranked) (k : ℕ) → AreOwn ranked → k < length ranked → get_or (places_of ranked) k 0 ≡ k
own-at ranked k own low = let none : Ranked = record { rank = pos 0; place = 0 } in get_or-map (λ (p : Ranked). p.place) ranked k none 0 low ∙ own k none low

-- the rows at their own places
pub own-rows : (rows : List (Row (List Cell))) (ranked : List Ranked) → AreOwn ranked → length ranked ≡ length rows → rows_at rows (places_of ranked) ≡ rows
own-rows rows ranked own count =
    let size = length-map ranked (λ (p : Ranked). p.place) in
    ext_get_or (row [] Yes) (rows_at rows (places_of ranked)) rows (length-map (places_of ranked) (row_at rows) ∙ size ∙ count) (λ k low.
    let many = length-map (places_of ranked) (row_at rows) in
    let inside : k < length ranked = omega (arith, low, many, size) in
    get_or-map (row_at rows) (places_of ranked) k 0 (row [] Yes) (omega (arith, low, many)) ∙ ap (row_at rows) (own-at ranked k own inside))

pub own-moved : (rows : List (Row (List Cell))) (ranked moved : List Ranked) → AreOwn ranked → length ranked ≡ length rows → IsPermutation ranked moved → IsPermutation rows (rows_at rows (places_of moved))
own-moved rows ranked moved own count permuted =
    let changed = IsPermutation-map (row_at rows) (places_of ranked) (places_of moved) (IsPermutation-map (λ (p : Ranked). p.place) ranked moved permuted) in
    rw (own-rows rows ranked own count) at changed

-- places that are moved stay within
pub own-within : (n : ℕ) (ranked moved : List Ranked) → AreOwn ranked → length ranked ≡ n → IsPermutation ranked moved → All (λ p. p < n) (places_of moved)
own-within n ranked moved own count permuted =
    All-permutation (λ p. p < n) (places_of ranked) (places_of moved) (IsPermutation-map (λ (p : Ranked). p.place) ranked moved permuted) (λ k d low.
    let size = length-map ranked (λ (p : Ranked). p.place) in
    let inside : k < length ranked = omega (arith, low, size) in
    let is : get_or (places_of ranked) k d ≡ k = get_or_default (places_of ranked) k d 0 low ∙ own-at ranked k own inside in
    omega (arith, is, inside, count))
