-- The order of rows is total, and its ties are equal.
use Rattle.std.proofs.Common.{ℕ, zero, suc, ◌<◌, ◌≡◌, ◌∙◌, Bool, true, false, if◌then◌else◌, List, [], ◌∷◌, drop, length, min, refl, ap, arith}
use Rattle.std.proofs.lemmas.List.Sorted.{ranks_by}
use Rattle.std.proofs.lemmas.Cmp.{tied_itself}
use Rattle.std.specs.Cmp.{IsStrictWeakOrder, IsTotalOrder, nat_cmp_is, back_total, nat_cmp_total, on_total, then_total}
use Rattle.std.specs.Cmp.Lexicographic.{lists_total, slice_cmp}
use Rattle.std.specs.Ordering.{is_eq, is_gt, is_lt, MatchOrdering, nat_cmp, ordering_reverse, ordering_then}
use Rattle.std.specs.declared.cmp.Ordering.{Ordering}
use Rattle.std.specs.declared.cmp.Ordering.TheVariants.{Less, Equal, Greater}
use Rattle.sql_value.specs.Cells.{cell_compare}
use Rattle.sql_value.specs.declared.cell.Cell.{Cell}
use Rattle.sql_value.proofs.Total.{cell-ties, cell-total}
use Rattle.sql_value.specs.declared.order_key.OrderKey.{OrderKey}
use Rattle.row_bag.specs.Order.{cell_of, compare_by, key_compare, row_compare, row_less}
use Rattle.sql_value.specs.Level.{rank}
use Rattle.sql_value.specs.declared.level.Level.{Level}
use Rattle.sql_value.specs.declared.level.Level.TheVariants.{No, Cardinality, Division, Overflow, Yes}
use Rattle.row_bag.specs.declared.row.Row.{Row}

one-more : (o : Ordering) (m n : ℕ) → MatchOrdering o (m < n) (m ≡ n) (n < m) → MatchOrdering o (suc m < suc n) (suc m ≡ suc n) (suc n < suc m)
one-more Less m n h = omega arith
one-more Equal m n h = omega arith
one-more Greater m n h = omega arith

-- where one list ends, the lengths decide
lengths-decide : {X : Type 0} (R : X → X → Ordering) (xs ys : List X) (i : ℕ) → i ≡ min (length xs) (length ys)
    → MatchOrdering (slice_cmp R (drop i xs) (drop i ys)) (length xs < length ys) (length xs ≡ length ys) (length ys < length xs)
lengths-decide R [] [] zero is = refl
lengths-decide R [] [] (suc i) is = absurd (omega arith)
lengths-decide R [] (y ∷ ys) zero is = omega arith
lengths-decide R [] (y ∷ ys) (suc i) is = absurd (omega arith)
lengths-decide R (x ∷ xs) [] zero is = omega arith
lengths-decide R (x ∷ xs) [] (suc i) is = absurd (omega arith)
lengths-decide R (x ∷ xs) (y ∷ ys) zero is = absurd (omega arith)
lengths-decide R (x ∷ xs) (y ∷ ys) (suc i) is = one-more (slice_cmp R (drop i xs) (drop i ys)) (length xs) (length ys) (lengths-decide R xs ys i (omega arith))

pub compare-ends : {X : Type 0} (R : X → X → Ordering) (xs ys : List X) (i : ℕ) (whole : Ordering) → i ≡ min (length xs) (length ys)
    → whole ≡ slice_cmp R (drop i xs) (drop i ys) → whole ≡ nat_cmp (length xs) (length ys)
compare-ends R xs ys i whole is w = w ∙ nat_cmp_is (length xs) (length ys) (slice_cmp R (drop i xs) (drop i ys)) (lengths-decide R xs ys i is)

pub cells-total : IsTotalOrder (slice_cmp cell_compare)
cells-total = lists_total cell-total

both-tie : (o rest : Ordering) → ordering_then o rest ≡ Equal → (o ≡ Equal) × (rest ≡ Equal)
both-tie Less rest e = cc e
both-tie Equal rest e = (refl, e)
both-tie Greater rest e = cc e

pub cells-tie : (xs ys : List Cell) → slice_cmp cell_compare xs ys ≡ Equal → xs ≡ ys
cells-tie [] [] e = refl
cells-tie [] (y ∷ ys) e = cc e
cells-tie (x ∷ xs) [] e = cc e
cells-tie (x ∷ xs) (y ∷ ys) e =
    let (first, rest) = both-tie (cell_compare x y) (slice_cmp cell_compare xs ys) e in
    rw (cell-ties x y first) (ap (λ (t : List Cell). y ∷ t) (cells-tie xs ys rest))

levels-tie : (l m : Level) → nat_cmp (rank l) (rank m) ≡ Equal → l ≡ m
levels-tie No No e = refl
levels-tie No Cardinality e = cc e
levels-tie No Division e = cc e
levels-tie No Overflow e = cc e
levels-tie No Yes e = cc e
levels-tie Cardinality No e = cc e
levels-tie Cardinality Cardinality e = refl
levels-tie Cardinality Division e = cc e
levels-tie Cardinality Overflow e = cc e
levels-tie Cardinality Yes e = cc e
levels-tie Division No e = cc e
levels-tie Division Cardinality e = cc e
levels-tie Division Division e = refl
levels-tie Division Overflow e = cc e
levels-tie Division Yes e = cc e
levels-tie Overflow No e = cc e
levels-tie Overflow Cardinality e = cc e
levels-tie Overflow Division e = cc e
levels-tie Overflow Overflow e = refl
levels-tie Overflow Yes e = cc e
levels-tie Yes No e = cc e
levels-tie Yes Cardinality e = cc e
levels-tie Yes Division e = cc e
levels-tie Yes Overflow e = cc e
levels-tie Yes Yes e = refl

-- rows that tie are equal
pub row-ties : (a b : Row (List Cell)) → row_compare a b ≡ Equal → a ≡ b
row-ties a b e =
    let (cells, level) = both-tie (slice_cmp cell_compare a.cells b.cells) (nat_cmp (rank a.level) (rank b.level)) e in
    λ i. record { cells = cells-tie a.cells b.cells cells i; level = levels-tie a.level b.level level i }

pub row-total : IsTotalOrder row_compare
row-total = then_total (on_total (λ (r : Row (List Cell)). r.cells) cells-total) (on_total (λ (r : Row (List Cell)). rank r.level) nat_cmp_total)

either-way : {X : Type 0} {R : X → X → Ordering} → IsTotalOrder R → (back : Bool) → IsTotalOrder (λ x y. if back then R y x else R x y)
either-way o true = back_total o
either-way o false = o

key-total : (key : OrderKey) → IsTotalOrder (key_compare key)
key-total key = either-way (on_total (λ (r : Row (List Cell)). cell_of key.column r.cells) cell-total) key.descending

-- the order by keys is total
pub by-total : (keys : List OrderKey) → IsTotalOrder (compare_by keys)
by-total [] = row-total
by-total (key ∷ keys) = then_total (key-total key) (by-total keys)

-- rows that tie are equal
pub by-ties : (keys : List OrderKey) (a b : Row (List Cell)) → compare_by keys a b ≡ Equal → a ≡ b
by-ties [] a b e = row-ties a b e
by-ties (key ∷ keys) a b e = by-ties keys a b (both-tie (key_compare key a b) (compare_by keys a b) e).1

abbrev pub row_same : List OrderKey → Row (List Cell) → Row (List Cell) → Bool
row_same keys a b = is_eq (compare_by keys a b)

pub less-ranks : (keys : List OrderKey) → IsStrictWeakOrder (row_less keys)
less-ranks keys = ranks_by (by-total keys) (λ (r : Row (List Cell)). r)

pub level : (o : Ordering) → is_eq o ≡ true → o ≡ Equal
level Less e = cc e
level Equal e = refl
level Greater e = cc e

pub same-equal : (keys : List OrderKey) (a b : Row (List Cell)) → row_same keys a b ≡ true → a ≡ b
same-equal keys a b e = by-ties keys a b (level (compare_by keys a b) e)

pub same-itself : (keys : List OrderKey) (a : Row (List Cell)) → row_same keys a a ≡ true
same-itself keys a = rw (tied_itself (by-total keys) a) refl

neither : (o : Ordering) → is_lt o ≡ false → is_lt (ordering_reverse o) ≡ false → o ≡ Equal
neither Less p q = cc p
neither Equal p q = refl
neither Greater p q = cc q

-- of two rows that are not equal one is less
pub less-apart : (keys : List OrderKey) (a b : Row (List Cell)) → row_less keys a b ≡ false → row_less keys b a ≡ false → a ≡ b
less-apart keys a b p q = by-ties keys a b (neither (compare_by keys a b) p (rw ((by-total keys).antisymm b a) at q))

above : (o : Ordering) → is_gt o ≡ true → is_lt o ≡ false
above Less e = cc e
above Equal e = refl
above Greater e = refl

pub above-not-less : (keys : List OrderKey) (a b : Row (List Cell)) → is_gt (compare_by keys a b) ≡ true → row_less keys a b ≡ false
above-not-less keys a b e = above (compare_by keys a b) e

upto : (o : Ordering) → is_gt o ≡ false → is_lt (ordering_reverse o) ≡ false
upto Less e = refl
upto Equal e = refl
upto Greater e = cc e

pub not-above-upto : (keys : List OrderKey) (a b : Row (List Cell)) → is_gt (compare_by keys a b) ≡ false → row_less keys b a ≡ false
not-above-upto keys a b e = rw ((by-total keys).antisymm b a) (upto (compare_by keys a b) e)
