-- Ranks of rows: numbers that keep the order of their first key.
use Rattle.std.specs.Prelude.{◌≡◌, All, map, ℕ, zero, suc, ◌+◌, ◌*◌, ◌-◌, ◌^◌, min, nat_lt, ℤ, pos, negsuc, neg_ℤ, List, [], ◌∷◌, if◌then◌else◌}
use Rattle.std.specs.Int.{int_max, int_min}
use Rattle.std.specs.Ordering.{int_cmp, ordering_then}
use Rattle.std.specs.declared.cmp.Ordering.{Ordering}
use Rattle.sql_value.specs.declared.cell.Cell.{Cell}
use Rattle.sql_value.specs.declared.cell.Cell.TheVariants.{Int, Text, Null, Err}
use Rattle.sql_value.specs.declared.order_key.OrderKey.{OrderKey}
use Rattle.row_bag.specs.Order.{cell_of, compare_by}
use Rattle.row_bag.specs.Places.{row_at}
use Rattle.row_bag.specs.declared.row.Row.{Row}
use Rattle.row_bag.specs.declared.sort.Ranked.{Ranked}

-- the digit of the first character of a text: its number and 1, and 129 for all that aren't ASCII; 0 where there is none
abbrev pub first : List ℕ → ℕ
first [] = 0
first (c ∷ t) = min c 128 + 1

-- what follows the first character, if that is ASCII; nothing else
abbrev pub behind : List ℕ → List ℕ
behind [] = []
behind (c ∷ t) = if nat_lt c 128 then t else []

-- so many digits of a text, as one number
unfoldable pub leading : ℕ → List ℕ → ℕ
leading zero t = 0
leading (suc n) t = first t * 130 ^ n + leading n (behind t)

-- a number that keeps the order of cells, though different ones may have the same: null below numbers, these below texts, by their first eight characters, and these below errors
abbrev pub rank : Cell → ℤ
rank Null = negsuc (2 ^ 62)
rank (Int n) = int_max (negsuc (2 ^ 62 - 1)) (int_min n (pos (2 ^ 62)))
rank (Text t) = pos (2 ^ 62 + 1 + leading 8 t)
rank (Err k) = pos (2 ^ 63 - 1)

-- that of the cell of the first key, or where there is no key of the first cell
abbrev pub key_rank : List OrderKey → Row (List Cell) → ℤ
key_rank [] r = rank (cell_of 1 r.cells)
key_rank (key ∷ keys) r = if key.descending then neg_ℤ (rank (cell_of key.column r.cells)) else rank (cell_of key.column r.cells)

-- the places
abbrev pub places_of : List Ranked → List ℕ
places_of ranked = map (λ p. p.place) ranked

-- by ranks, and where these tie by the keys
abbrev pub compare_ranked : List OrderKey → List (Row (List Cell)) → Ranked → Ranked → Ordering
compare_ranked keys rows a b = ordering_then (int_cmp a.rank b.rank) (compare_by keys (row_at rows a.place) (row_at rows b.place))

-- the ranks are those of the rows
abbrev pub AreRanks : List OrderKey → List (Row (List Cell)) → List Ranked → Type 0
AreRanks keys rows places = All (λ p. p.rank ≡ key_rank keys (row_at rows p.place)) places
