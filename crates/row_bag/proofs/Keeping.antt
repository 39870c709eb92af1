-- Rows of different tuples, to which rows are added: an equal tuple is raised, another is kept too.
use Rattle.std.proofs.Common.{◌≡◌, ℕ, zero, suc, ◌+◌, ◌<◌, ◌≤◌, add-zero, zero-add, add_assoc, append_assoc, append-nil, Bool, true, false, cond, List, [], ◌∷◌, ◌++◌, length, get_or, set, Some, refl, sym, ap, ap₂, ◌∙◌, arith, inl, inr}
use Rattle.std.specs.Prelude.{slice_get}
use Rattle.std.proofs.Math.Seq.{map-set_same}
use Rattle.std.proofs.lemmas.Bool.{cases_Bool}
use Rattle.std.proofs.lemmas.List.{length-map}
use Rattle.std.proofs.lemmas.Option.{get_or_from_slice_get, slice_get-get_or, slice_get_within}
use Rattle.sql_value.specs.Level.{greatest}
use Rattle.sql_value.specs.declared.cell.Cell.{Cell}
use Rattle.sql_value.specs.declared.level.Level.{Level}
use Rattle.sql_value.specs.declared.level.Level.TheVariants.{No, Cardinality, Division, Overflow, Yes}
use Rattle.row_bag.specs.Bags.{Agree, if_there, row}
use Rattle.row_bag.specs.Hashes.{AreDifferent, tuples_of}
use Rattle.row_bag.specs.Matched.{often}
use Rattle.row_bag.specs.Sets.{SameLevels, distinct, level_in, multiplicity, same_cells}
use Rattle.row_bag.specs.Verdict.{those_there}
use Rattle.row_bag.specs.declared.row.Row.{Row}
use Rattle.row_bag.proofs.Agreement.{alike-sym, alike-trans}
use Rattle.row_bag.proofs.Answered.{alike-there}
use Rattle.row_bag.proofs.Counts.{agree-from_alike}
use Rattle.row_bag.proofs.GreatestLevels.{distinct-levels, distinct-once, level_in-append}
use Rattle.row_bag.proofs.Indexed.{past-end, some-same}
use Rattle.row_bag.proofs.Levels.{greatest-associative, greatest-commutative, greatest-no}
use Rattle.row_bag.proofs.TupleBags.{same_cells-decides}

abbrev pub Tuple : Type 0
Tuple = List Cell

-- ---- how often tuples stand

pub often-push : (c : Tuple) (ts : List Tuple) (t : Tuple) → often c (ts ++ t ∷ []) ≡ often c ts + cond (same_cells t c) 1 0
often-push c [] t = add-zero (cond (same_cells t c) 1 0) ∙ sym (zero-add (cond (same_cells t c) 1 0))
often-push c (u ∷ ts) t =
    ap (λ m. cond (same_cells u c) 1 0 + m) (often-push c ts t) ∙ sym (add_assoc (cond (same_cells u c) 1 0) (often c ts) (cond (same_cells t c) 1 0))

-- a tuple that stood nowhere among different ones
pub different-push : (ts : List Tuple) (t : Tuple) → often t ts ≡ 0 → AreDifferent ts → AreDifferent (ts ++ t ∷ [])
different-push ts t none once c = elim (cases_Bool (same_cells t c)) [
  | inl is ↦
      let e : t ≡ c = (same_cells-decides t c).0 is in
      let zero : often c ts ≡ 0 = ap (λ u. often u ts) (sym e) ∙ none in
      let more : often c (ts ++ t ∷ []) ≡ often c ts + 1 = often-push c ts t ∙ ap (λ b. often c ts + cond b 1 0) is in
      omega (arith, zero, more)
  | inr other ↦
      let low = once c in
      let more : often c (ts ++ t ∷ []) ≡ often c ts + 0 = often-push c ts t ∙ ap (λ b. often c ts + cond b 1 0) other in
      omega (arith, low, more)
]

counts-once : (c k : Tuple) (l : Level) → if_there 0 (λ k l. cond (same_cells k c) 1 0) k l ≤ cond (same_cells k c) 1 0
counts-once c k No = omega arith
counts-once c k Cardinality = omega arith
counts-once c k Division = omega arith
counts-once c k Overflow = omega arith
counts-once c k Yes = omega arith

there-at_most : (c : Tuple) (rows : List (Row Tuple)) → multiplicity same_cells c rows ≤ often c (tuples_of rows)
there-at_most c [] = omega arith
there-at_most c (r ∷ rows) =
    let rest = there-at_most c rows in
    let first = counts-once c r.cells r.level in
    omega (arith, rest, first)

-- ---- a row that is raised

-- a row's part of the greatest level of the tuple c
abbrev part : Tuple → Tuple → Level → Level
part c k l = if_there No (λ k m. cond (same_cells k c) m No) k l

part-is : (c k : Tuple) (l : Level) → part c k l ≡ cond (same_cells k c) l No
part-is c k No = elim (same_cells k c) as (λ b. No ≡ cond b No No) [ true ↦ refl | false ↦ refl ]
part-is c k Cardinality = refl
part-is c k Division = refl
part-is c k Overflow = refl
part-is c k Yes = refl

part-greatest : (c k : Tuple) (l m : Level) → part c k (greatest l m) ≡ greatest (part c k l) (part c k m)
part-greatest c k l m = part-is c k (greatest l m) ∙ both (same_cells k c) ∙ sym (ap₂ greatest (part-is c k l) (part-is c k m))
  where
    both : (b : Bool) → cond b (greatest l m) No ≡ greatest (cond b l No) (cond b m No)
    both true = refl
    both false = refl

pub raised : (rows : List (Row Tuple)) (k : ℕ) (r old : Row Tuple) → slice_get (tuples_of rows) k ≡ Some r.cells → old ≡ get_or rows k old → (c : Tuple)
    → level_in same_cells c (set rows k (row old.cells (greatest old.level r.level))) ≡ greatest (level_in same_cells c rows) (part c r.cells r.level)
raised [] k r old found is c = absurd (cc found)
raised (x ∷ rows) zero r old found is c =
    let same : x.cells ≡ r.cells = some-same x.cells r.cells found in
    let rest = level_in same_cells c rows in
    ap (λ p. greatest p rest) (part-greatest c old.cells old.level r.level ∙ ap₂ greatest (ap (λ (y : Row Tuple). part c y.cells y.level) is) (ap (λ (y : Row Tuple). part c y.cells r.level) is ∙ ap (λ t. part c t r.level) same))
    ∙ greatest-associative (part c x.cells x.level) (part c r.cells r.level) rest
    ∙ ap (greatest (part c x.cells x.level)) (greatest-commutative (part c r.cells r.level) rest)
    ∙ sym (greatest-associative (part c x.cells x.level) rest (part c r.cells r.level))
raised (x ∷ rows) (suc k) r old found is c =
    ap (greatest (part c x.cells x.level)) (raised rows k r old found is c) ∙ sym (greatest-associative (part c x.cells x.level) (level_in same_cells c rows) (part c r.cells r.level))

pub raised-levels : (rows new : List (Row Tuple)) (k : ℕ) (r old : Row Tuple) → slice_get (tuples_of rows) k ≡ Some r.cells → old ≡ get_or rows k old → new ≡ set rows k (row old.cells (greatest old.level r.level))
    → SameLevels same_cells new (rows ++ r ∷ [])
raised-levels rows new k r old found is made = record {
  levels = λ c.
      ap (level_in same_cells c) made
      ∙ raised rows k r old found is c
      ∙ ap (greatest (level_in same_cells c rows)) (sym (greatest-no (part c r.cells r.level)))
      ∙ sym (level_in-append same_cells c rows (r ∷ []));
}

-- a row that is raised at the place of a tuple
abbrev pub IsRaised : List (Row Tuple) → List (Row Tuple) → ℕ → Level → Type 0
IsRaised rows new k l = (x : Row Tuple) → slice_get rows k ≡ Some x → new ≡ set rows k (row x.cells (greatest x.level l))

read : (rows : List (Row Tuple)) (k : ℕ) (r : Row Tuple) → slice_get (tuples_of rows) k ≡ Some r.cells → (x : Row Tuple) × (slice_get rows k ≡ Some x) × (x ≡ get_or rows k x)
read rows k r found =
    let size = length-map rows (λ (x : Row Tuple). x.cells) in
    let within = past-end (tuples_of rows) k r.cells found in
    let there = slice_get-get_or rows k r (omega (arith, size, within)) in
    (get_or rows k r, there, sym (get_or_from_slice_get rows k (get_or rows k r) (get_or rows k r) there))

pub raised-within : (rows : List (Row Tuple)) (k : ℕ) (r : Row Tuple) → slice_get (tuples_of rows) k ≡ Some r.cells → k < length rows
raised-within rows k r found =
    let (x, there, is) = read rows k r found in
    slice_get_within rows k x there

pub raised-tuples : (rows new : List (Row Tuple)) (k : ℕ) (r : Row Tuple) → slice_get (tuples_of rows) k ≡ Some r.cells → IsRaised rows new k r.level → tuples_of new ≡ tuples_of rows
raised-tuples rows new k r found made =
    let (x, there, is) = read rows k r found in
    ap tuples_of (made x there) ∙ map-set_same (λ (y : Row Tuple). y.cells) rows k (row x.cells (greatest x.level r.level)) x (ap (λ (y : Row Tuple). y.cells) is)

pub raised-at : (rows new : List (Row Tuple)) (k : ℕ) (r : Row Tuple) → slice_get (tuples_of rows) k ≡ Some r.cells → IsRaised rows new k r.level → SameLevels same_cells new (rows ++ r ∷ [])
raised-at rows new k r found made =
    let (x, there, is) = read rows k r found in
    raised-levels rows new k r x found is (made x there)

-- ---- row by row

pub keep-more : (kept new from rest bag : List (Row Tuple)) (r : Row Tuple) → from ≡ r ∷ rest → SameLevels same_cells new (kept ++ r ∷ []) → SameLevels same_cells (kept ++ from) bag
    → SameLevels same_cells (new ++ rest) bag
keep-more kept new from rest bag r first now so = record {
  levels = λ c.
      level_in-append same_cells c new rest
      ∙ ap (λ l. greatest l (level_in same_cells c rest)) (now.levels c)
      ∙ sym (level_in-append same_cells c (kept ++ r ∷ []) rest)
      ∙ ap (level_in same_cells c) (append_assoc kept (r ∷ []) rest ∙ ap (λ t. kept ++ t) (sym first))
      ∙ so.levels c;
}

pub levels-end : (kept none bag : List (Row Tuple)) → none ≡ [] → SameLevels same_cells (kept ++ none) bag → SameLevels same_cells kept bag
levels-end kept none bag is so = record { levels = λ c. ap (level_in same_cells c) (sym (append-nil kept) ∙ ap (λ t. kept ++ t) (sym is)) ∙ so.levels c }

-- those of one operand, and then those of the other
pub levels-both : (kept both xs ys : List (Row Tuple)) → SameLevels same_cells kept xs → SameLevels same_cells both (kept ++ ys) → SameLevels same_cells both (xs ++ ys)
levels-both kept both xs ys one two = record {
  levels = λ c.
      two.levels c
      ∙ level_in-append same_cells c kept ys
      ∙ ap (λ l. greatest l (level_in same_cells c ys)) (one.levels c)
      ∙ sym (level_in-append same_cells c xs ys);
}

-- what is kept at the end
pub kept-whole : (kept bag : List (Row Tuple)) → SameLevels same_cells kept bag → AreDifferent (tuples_of kept) → Agree same_cells (those_there kept) (distinct same_cells bag)
kept-whole kept bag levels once =
    agree-from_alike same_cells
    (alike-trans (alike-sym (alike-there kept))
    (alike-trans (alike-sym (distinct-once same_cells same_cells-decides kept (λ c. let low = there-at_most c kept in let one = once c in omega (arith, low, one))))
    (distinct-levels same_cells same_cells-decides levels)))

-- ---- what is to come

pub one_less : {X : Type 0} (x : X) (from rest : List X) (m n : ℕ) → from ≡ x ∷ rest → n + 1 ≡ m → m ≡ length from → n ≡ length rest
one_less x from rest m n first less is = let k = rw first at is in omega (arith, k, less)

pub none_left : {X : Type 0} (xs : List X) → length xs ≡ 0 → xs ≡ []
none_left [] is = refl
none_left (x ∷ xs) is = absurd (omega (arith, is))
