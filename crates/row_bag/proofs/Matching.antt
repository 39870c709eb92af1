-- Of tuples those that others match, step by step.
use Rattle.std.proofs.Common.{◌≡◌, ℕ, ◌+◌, ◌<◌, ◌≤◌, min, zero-add, add-zero, Bool, true, false, cond, ◌&&◌, List, [], ◌∷◌, ◌++◌, drop, get_or, length, Some, refl, sym, ap, ◌∙◌, arith, inl, inr}
use Rattle.std.specs.Prelude.{slice_get}
use Rattle.std.proofs.lemmas.Bool.{cases_Bool}
use Rattle.std.proofs.lemmas.List.{drop_all, drop_more}
use mathlib.Core.Bool.{beq}
use Rattle.sql_value.specs.declared.cell.Cell.{Cell}
use Rattle.sql_value.specs.declared.level.Level.{Level}
use Rattle.sql_value.specs.declared.level.Level.TheVariants.{No, Cardinality, Division, Overflow, Yes}
use Rattle.row_bag.specs.Bags.{count, row, same_level}
use Rattle.row_bag.specs.Hashes.{AreDifferent}
use Rattle.row_bag.specs.Matched.{often, part}
use Rattle.row_bag.specs.Sets.{multiplicity, same_cells}
use Rattle.row_bag.specs.Verdict.{is_there}
use Rattle.row_bag.specs.declared.row.Row.{Row}
use Rattle.row_bag.proofs.Agreement.{sum-monoid}
use Rattle.row_bag.proofs.Entering.{often-some}
use Rattle.row_bag.proofs.Folds.{fold_map-append}
use Rattle.row_bag.proofs.TupleBags.{same_cells-decides}

abbrev pub Tuple : Type 0
Tuple = List Cell

-- one tuple of the first and what it matches
parts : (w f s p : Bool) (a m n : ℕ) → m ≡ cond (f && s) 1 0 + n → (f ≡ false → s ≡ true → n ≡ 0)
    → cond p (part w (cond s 1 0 + a) m) 0 ≡ cond (beq f w) (cond (s && p) 1 0) 0 + cond p (part w a n) 0
parts true true true false a m n e z = refl
parts true true false false a m n e z = refl
parts true false true false a m n e z = refl
parts true false false false a m n e z = refl
parts false true true false a m n e z = refl
parts false true false false a m n e z = refl
parts false false true false a m n e z = refl
parts false false false false a m n e z = refl
parts true true true true a m n e z = omega (arith, e)
parts true true false true a m n e z = omega (arith, e)
parts true false true true a m n e z = let k = z refl refl in omega (arith, e, k)
parts true false false true a m n e z = omega (arith, e)
parts false true true true a m n e z = omega (arith, e)
parts false true false true a m n e z = omega (arith, e)
parts false false true true a m n e z = let k = z refl refl in omega (arith, e, k)
parts false false false true a m n e z = omega (arith, e)

-- what is kept and what is to come, where x is next
pub turn : (w f : Bool) (x : Tuple) (from rest : List Tuple) (ys zs : Tuple → ℕ) (kept more : List (Row Tuple)) → from ≡ x ∷ rest
    → ((c : Tuple) → ys c ≡ cond (f && same_cells x c) 1 0 + zs c)
    → (f ≡ false → zs x ≡ 0)
    → more ≡ cond (beq f w) (kept ++ row x Yes ∷ []) kept
    → (c : Tuple) (m : Level)
    → count same_cells c m more + cond (same_level Yes m) (part w (often c rest) (zs c)) 0 ≡ count same_cells c m kept + cond (same_level Yes m) (part w (often c from) (ys c)) 0
turn w f x from rest ys zs kept more first found left is c m =
    let now = parts w f (same_cells x c) (same_level Yes m) (often c rest) (ys c) (zs c) (found c) (λ e same. ap zs (sym ((same_cells-decides x c).0 same)) ∙ left e) in
    let pushed : count same_cells c m more ≡ count same_cells c m kept + cond (beq f w) (cond (same_cells x c && same_level Yes m) 1 0) 0 = ap (count same_cells c m) is ∙ either (beq f w) in
    rw first (omega (arith, now, pushed))
  where
    either : (b : Bool) → count same_cells c m (cond b (kept ++ row x Yes ∷ []) kept) ≡ count same_cells c m kept + cond b (cond (same_cells x c && same_level Yes m) 1 0) 0
    either true =
        fold_map-append sum-monoid (λ r. cond (same_cells r.cells c && same_level r.level m) 1 0) kept (row x Yes ∷ [])
        ∙ ap (λ n. count same_cells c m kept + n) (add-zero (cond (same_cells x c && same_level Yes m) 1 0))
    either false = sym (add-zero (count same_cells c m kept))

-- what is kept at the end
pub at_end : (w : Bool) (c : Tuple) (m : Level) (none : List Tuple) (n : ℕ) → none ≡ [] → cond (same_level Yes m) (part w (often c none) n) 0 ≡ 0
at_end w c m none n is = rw is (nothing (same_level Yes m) w)
  where
    nothing : (p w : Bool) → cond p (part w 0 n) 0 ≡ 0
    nothing true true = omega arith
    nothing true false = omega arith
    nothing false true = refl
    nothing false false = refl

-- ---- row by row

first-counts : (c k : Tuple) (l : Level) (rows : List (Row Tuple)) → multiplicity same_cells c (row k l ∷ rows) ≡ cond (is_there (row k l)) (cond (same_cells k c) 1 0) 0 + multiplicity same_cells c rows
first-counts c k No rows = refl
first-counts c k Cardinality rows = refl
first-counts c k Division rows = refl
first-counts c k Overflow rows = refl
first-counts c k Yes rows = refl

-- a row counts where it is there
pub counts-there : (c : Tuple) (r : Row Tuple) (rows : List (Row Tuple)) → is_there r ≡ true → multiplicity same_cells c (r ∷ rows) ≡ cond (same_cells r.cells c) 1 0 + multiplicity same_cells c rows
counts-there c r rows is = first-counts c r.cells r.level rows ∙ ap (λ b. cond b (cond (same_cells r.cells c) 1 0) 0 + multiplicity same_cells c rows) is

pub counts-not_there : (c : Tuple) (r : Row Tuple) (rows : List (Row Tuple)) → is_there r ≡ false → multiplicity same_cells c (r ∷ rows) ≡ multiplicity same_cells c rows
counts-not_there c r rows is = first-counts c r.cells r.level rows ∙ ap (λ b. cond b (cond (same_cells r.cells c) 1 0) 0 + multiplicity same_cells c rows) is ∙ zero-add (multiplicity same_cells c rows)

-- a tuple occurs at most as often as there are rows
pub counts-long : (c : Tuple) (rows : List (Row Tuple)) → multiplicity same_cells c rows ≤ length rows
counts-long c [] = omega arith
counts-long c (r ∷ rows) =
    let rest = counts-long c rows in
    let first = first-counts c r.cells r.level rows in
    let one = each (is_there r) (same_cells r.cells c) in
    omega (arith, rest, first, one)
  where
    each : (a b : Bool) → cond a (cond b 1 0) 0 ≤ 1
    each true true = omega arith
    each true false = omega arith
    each false b = omega arith

pub one-there : (c : Tuple) (r : Row Tuple) → is_there r ≡ true → multiplicity same_cells c (r ∷ []) ≡ cond (same_cells r.cells c) 1 0
one-there c r is = counts-there c r [] is ∙ add-zero (cond (same_cells r.cells c) 1 0)

pub own-there : (r : Row Tuple) → is_there r ≡ true → multiplicity same_cells r.cells (r ∷ []) ≡ 1
own-there r is = one-there r.cells r is ∙ ap (λ b. cond b 1 0) ((same_cells-decides r.cells r.cells).1 refl)

pub one-not_there : (c : Tuple) (r : Row Tuple) → is_there r ≡ false → multiplicity same_cells c (r ∷ []) ≡ 0
one-not_there c r is = counts-not_there c r [] is

pub here : {X : Type 0} (xs : List X) (i : ℕ) (x : X) → x ≡ get_or xs i x → i < length xs → drop i xs ≡ x ∷ drop (i + 1) xs
here {X} xs i x is low = drop_more xs i x low ∙ ap (λ (y : X). y ∷ drop (i + 1) xs) (sym is)

next-counts : (c : Tuple) (rows : List (Row Tuple)) (i : ℕ) (r : Row Tuple) → r ≡ get_or rows i r → i < length rows
    → multiplicity same_cells c (drop i rows) ≡ multiplicity same_cells c (r ∷ []) + multiplicity same_cells c (drop (i + 1) rows)
next-counts c rows i r is low =
    let first = first-counts c r.cells r.level (drop (i + 1) rows) in
    let one = first-counts c r.cells r.level [] in
    let whole = ap (multiplicity same_cells c) (here rows i r is low) in
    omega (arith, first, one, whole)

-- so many of a tuple, and those of the rows to come
pub counts-more : (c : Tuple) (rows : List (Row Tuple)) (i : ℕ) (r : Row Tuple) (m n : ℕ) → r ≡ get_or rows i r → i < length rows → n ≡ m + multiplicity same_cells c (r ∷ [])
    → m + multiplicity same_cells c (drop i rows) ≡ multiplicity same_cells c rows → n + multiplicity same_cells c (drop (i + 1) rows) ≡ multiplicity same_cells c rows
counts-more c rows i r m n is low one so = let next = next-counts c rows i r is low in omega (arith, next, one, so)

pub counts-once : (c : Tuple) (rows : List (Row Tuple)) (i : ℕ) (r : Row Tuple) (m n : ℕ) → r ≡ get_or rows i r → i < length rows → min 1 n ≡ min 1 (m + multiplicity same_cells c (r ∷ []))
    → min 1 (m + multiplicity same_cells c (drop i rows)) ≡ min 1 (multiplicity same_cells c rows) → min 1 (n + multiplicity same_cells c (drop (i + 1) rows)) ≡ min 1 (multiplicity same_cells c rows)
counts-once c rows i r m n is low one so = let next = next-counts c rows i r is low in omega (arith, next, one, so)

-- so many of a row's tuple fit
pub counts-fit : (rows : List (Row Tuple)) (i : ℕ) (r : Row Tuple) (m n : ℕ) → r ≡ get_or rows i r → i < length rows → m + multiplicity same_cells r.cells (drop i rows) ≡ multiplicity same_cells r.cells rows
    → n ≡ length rows → n < 18446744073709551616 → m + multiplicity same_cells r.cells (r ∷ []) < 18446744073709551616
counts-fit rows i r m n is low so size fits =
    let next = next-counts r.cells rows i r is low in
    let most = counts-long r.cells rows in
    omega (arith, next, most, so, size, fits)

-- none is to come
pub counts-all : (c : Tuple) (rows : List (Row Tuple)) (i m : ℕ) → length rows ≤ i → m + multiplicity same_cells c (drop i rows) ≡ multiplicity same_cells c rows → m ≡ multiplicity same_cells c rows
counts-all c rows i m past so = let none = ap (multiplicity same_cells c) (drop_all i rows past) in omega (arith, none, so)

-- ---- different tuples

pub added-found : (cells : Tuple) (ts : List Tuple) (k : ℕ) → slice_get ts k ≡ Some cells → (c : Tuple) → min 1 (often c ts) ≡ min 1 (often c ts + cond (same_cells cells c) 1 0)
added-found cells ts k found c = elim (cases_Bool (same_cells cells c)) [
  | inl is ↦
      let e : cells ≡ c = (same_cells-decides cells c).0 is in
      let some : 0 < often c ts = rw (sym e) (often-some cells ts k found) in
      let one : ◌≡◌ {A = ℕ} (cond (same_cells cells c) 1 0) 1 = ap (λ b. cond b 1 0) is in
      omega (arith, some, one)
  | inr other ↦
      let one : ◌≡◌ {A = ℕ} (cond (same_cells cells c) 1 0) 0 = ap (λ b. cond b 1 0) other in
      omega (arith, one)
]

-- a tuple of different ones stands there as often as is counted at most once
pub once-each : (ts : List Tuple) (c : Tuple) (m n : ℕ) → AreDifferent ts → min 1 (often c ts + m) ≡ min 1 n → m ≡ 0 → often c ts ≡ min 1 n
once-each ts c m n once so none = let low = once c in omega (arith, low, so, none)
