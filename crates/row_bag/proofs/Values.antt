-- Cells that aren't null, and cells taken once.
use Rattle.std.proofs.Common.{◌≡◌, ℕ, suc, ◌+◌, ◌-◌, ◌<◌, ◌≤◌, zero-add, Bool, true, false, not, cond, nat_eq, eqb-true, List, [], ◌∷◌, ◌++◌, append-nil, map, drop, length, get_or, reverse, filter, Option, Some, None, refl, sym, ap, ap₂, ◌∙◌, arith, inl, inr}
use Rattle.std.specs.Prelude.{IfSome, is_some, slice_get}
use Rattle.std.proofs.Math.Seq.{drop-cons}
use Rattle.std.proofs.lemmas.Bool.{cases_Bool}
use Rattle.std.proofs.lemmas.List.{reverse-append}
use Rattle.std.specs.Ordering.{is_eq, ordering_then}
use Rattle.std.specs.declared.cmp.Ordering.{Ordering}
use Rattle.std.specs.declared.cmp.Ordering.TheVariants.{Less, Equal, Greater}
use Rattle.sql_value.specs.Cells.{cell_compare}
use Rattle.row_bag.specs.Bags.{bind, if_there, row, unit}
use Rattle.row_bag.specs.declared.row.Row.{Row}
use Rattle.row_bag.specs.Aggregates.{same_cell, unless_null}
use Rattle.row_bag.specs.Matched.{often}
use Rattle.row_bag.specs.Sets.{multiplicity, once, same_cells}
use Rattle.sql_value.specs.declared.cell.Cell.{Cell}
use Rattle.sql_value.specs.declared.cell.Cell.TheVariants.{Int, Text, Null, Err}
use Rattle.sql_value.specs.declared.level.Level.{Level}
use Rattle.sql_value.specs.declared.level.Level.TheVariants.{No, Cardinality, Division, Overflow, Yes}
use Rattle.row_bag.proofs.Entering.{often-some}
use Rattle.row_bag.proofs.Levels.{least-yes}
use Rattle.row_bag.proofs.TupleBags.{same_cells-decides}
use Rattle.row_bag.specs.Arguments.{is_value}

-- ---- cells that aren't null

one : (c : Cell) (l : Level) (rows : List (Row Cell)) → bind rows unless_null ≡ filter is_value rows → bind (row c l ∷ rows) unless_null ≡ filter is_value (row c l ∷ rows)
one Null l rows h = h
one (Int n) l rows h = ap₂ (λ m rs. row (Int n) m ∷ rs) (least-yes l) h
one (Text x) l rows h = ap₂ (λ m rs. row (Text x) m ∷ rs) (least-yes l) h
one (Err k) l rows h = ap₂ (λ m rs. row (Err k) m ∷ rs) (least-yes l) h

pub values_bound : (rows : List (Row Cell)) → bind rows unless_null ≡ filter is_value rows
values_bound [] = refl
values_bound (r ∷ rows) = one r.cells r.level rows (values_bound rows)

-- ---- cells taken once

-- cells are the same data where the tuples of each alone are
single : (a b : Cell) → same_cells (a ∷ []) (b ∷ []) ≡ same_cell a b
single a b = each (cell_compare a b)
  where
    each : (o : Ordering) → is_eq (ordering_then o Equal) ≡ is_eq o
    each Less = refl
    each Equal = refl
    each Greater = refl

same-one : (a b : Cell) → same_cell a b ≡ true → a ≡ b
same-one a b is = let e = (same_cells-decides (a ∷ []) (b ∷ [])).0 (single a b ∙ is) in cc e

-- how often a cell stands among these
abbrev pub stands : Cell → List (Row Cell) → ℕ
stands c rows = often (c ∷ []) (map (λ (r : Row Cell). r.cells ∷ []) rows)

-- in another order as often
stands-append : (c : Cell) (xs ys : List (Row Cell)) → stands c (xs ++ ys) ≡ stands c xs + stands c ys
stands-append c [] ys = sym (zero-add (stands c ys))
stands-append c (x ∷ xs) ys = let rest = stands-append c xs ys in omega (arith, rest)

stands-reverse : (c : Cell) (xs : List (Row Cell)) → stands c (reverse xs) ≡ stands c xs
stands-reverse c [] = refl
stands-reverse c (x ∷ xs) =
    let more = ap (stands c) (reverse-append (x ∷ []) xs) ∙ stands-append c (reverse xs) (x ∷ []) in
    let rest = stands-reverse c xs in
    omega (arith, more, rest)

one-some : (m : ℕ) → nat_eq (1 + m) 0 ≡ false
one-some m = elim (cases_Bool (nat_eq (1 + m) 0)) [
  | inl is ↦ let e = eqb-true (1 + m) 0 is in absurd (omega (arith, e))
  | inr other ↦ other
]

-- one more is none where neither it nor the others are
both-none : (b : Bool) (m n : ℕ) → nat_eq m 0 ≡ nat_eq n 0 → nat_eq (cond b 1 0 + m) 0 ≡ nat_eq (cond b 1 0 + n) 0
both-none true m n e = one-some m ∙ sym (one-some n)
both-none false m n e = ap (λ k. nat_eq k 0) (zero-add m) ∙ e ∙ ap (λ k. nat_eq k 0) (sym (zero-add n))

-- a cell stands among those taken once where it stands among the rows
module _ (c : Cell) (rows : List (Row Cell)) (same : nat_eq (stands c (once same_cell rows)) 0 ≡ nat_eq (multiplicity same_cell c rows) 0) where
  none-new : (k : Cell) → nat_eq (stands c (unit k ++ once same_cell rows)) 0 ≡ nat_eq (cond (same_cell k c) 1 0 + multiplicity same_cell c rows) 0
  none-new k =
      ap (λ b. nat_eq (cond b 1 0 + stands c (once same_cell rows)) 0) (single k c)
      ∙ both-none (same_cell k c) (stands c (once same_cell rows)) (multiplicity same_cell c rows) same

  none-old : (k : Cell) → nat_eq (multiplicity same_cell k rows) 0 ≡ false → nat_eq (stands c (once same_cell rows)) 0 ≡ nat_eq (cond (same_cell k c) 1 0 + multiplicity same_cell c rows) 0
  none-old k some = elim (cases_Bool (same_cell k c)) [
    | inl is ↦
        same
        ∙ ap (λ d. nat_eq (multiplicity same_cell d rows) 0) (sym (same-one k c is))
        ∙ some
        ∙ sym (ap (λ b. nat_eq (cond b 1 0 + multiplicity same_cell c rows) 0) is ∙ one-some (multiplicity same_cell c rows))
    | inr other ↦
        same ∙ sym (ap (λ b. nat_eq (cond b 1 0 + multiplicity same_cell c rows) 0) other ∙ ap (λ n. nat_eq n 0) (zero-add (multiplicity same_cell c rows)))
  ]

  none-there : (k : Cell) (z : Bool) → nat_eq (multiplicity same_cell k rows) 0 ≡ z → nat_eq (stands c (cond z (unit k) [] ++ once same_cell rows)) 0 ≡ nat_eq (cond (same_cell k c) 1 0 + multiplicity same_cell c rows) 0
  none-there k true is = none-new k
  none-there k false is = none-old k is

  none-step : (k : Cell) (l : Level)
      → nat_eq (stands c (if_there [] (λ d m. cond (nat_eq (multiplicity same_cell d rows) 0) (unit d) []) k l ++ once same_cell rows)) 0
      ≡ nat_eq (if_there 0 (λ d m. cond (same_cell d c) 1 0) k l + multiplicity same_cell c rows) 0
  none-step k No = same ∙ sym (ap (λ n. nat_eq n 0) (zero-add (multiplicity same_cell c rows)))
  none-step k Cardinality = none-there k (nat_eq (multiplicity same_cell k rows) 0) refl
  none-step k Division = none-there k (nat_eq (multiplicity same_cell k rows) 0) refl
  none-step k Overflow = none-there k (nat_eq (multiplicity same_cell k rows) 0) refl
  none-step k Yes = none-there k (nat_eq (multiplicity same_cell k rows) 0) refl

once-none : (c : Cell) (rows : List (Row Cell)) → nat_eq (stands c (once same_cell rows)) 0 ≡ nat_eq (multiplicity same_cell c rows) 0
once-none c [] = refl
once-none c (r ∷ rows) = none-step c rows (once-none c rows) r.cells r.level

-- the cell of a row, where it is there and stands nowhere after it
abbrev last : (Cell → ℕ) → Cell → Level → List (Row Cell)
last often c l = if_there [] (λ d m. cond (nat_eq (often d) 0) (unit d) []) c l

last-same : (m n : Cell → ℕ) (c : Cell) (l : Level) → ((d : Cell) → nat_eq (m d) 0 ≡ nat_eq (n d) 0) → reverse (last m c l) ≡ last n c l
last-same m n c l e = at l
  where
    one-or-none : (b : Bool) → reverse (cond b (unit c) []) ≡ cond b (unit c) []
    one-or-none true = refl
    one-or-none false = refl

    there : reverse (cond (nat_eq (m c) 0) (unit c) []) ≡ cond (nat_eq (n c) 0) (unit c) []
    there = one-or-none (nat_eq (m c) 0) ∙ ap (λ b. cond b (unit c) []) (e c)

    at : (l : Level) → reverse (last m c l) ≡ last n c l
    at No = refl
    at Cardinality = there
    at Division = there
    at Overflow = there
    at Yes = there

-- the row before those whose cells are taken
pub once-more : (rows from kept more : List (Row Cell)) (r : Row Cell) → from ≡ r ∷ rows → reverse kept ≡ once same_cell rows
    → more ≡ kept ++ if_there [] (λ c l. cond (nat_eq (often (c ∷ []) (map (λ (q : Row Cell). q.cells ∷ []) kept)) 0) (unit c) []) r.cells r.level
    → reverse more ≡ once same_cell from
once-more rows from kept more r first so is =
    ap (λ (t : List (Row Cell)). reverse t) is
    ∙ reverse-append kept (last (λ d. stands d kept) r.cells r.level)
    ∙ ap₂ (λ (a b : List (Row Cell)). a ++ b) (last-same (λ d. stands d kept) (λ d. multiplicity same_cell d rows) r.cells r.level same) so
    ∙ ap (once same_cell) (sym first)
  where
    same : (d : Cell) → nat_eq (stands d kept) 0 ≡ nat_eq (multiplicity same_cell d rows) 0
    same d = ap (λ n. nat_eq n 0) (sym (stands-reverse d kept)) ∙ ap (λ (t : List (Row Cell)). nat_eq (stands d t) 0) so ∙ once-none d rows

-- a cell that is found stands among these
pub kept-already : (o : Option ℕ) (none : Bool) (c : Cell) (kept : List (Row Cell)) → is_some o ≡ not none → none ≡ false
    → IfSome o (λ k. slice_get (map (λ (r : Row Cell). r.cells ∷ []) kept) k ≡ Some (c ∷ []))
    → kept ≡ kept ++ cond (nat_eq (often (c ∷ []) (map (λ (r : Row Cell). r.cells ∷ []) kept)) 0) (unit c) []
kept-already None none c kept e is found = let k = ap not is in cc (e, k)
kept-already (Some k) none c kept e is found = elim (cases_Bool (nat_eq (stands c kept) 0)) [
  | inl nowhere ↦
      let some = often-some (c ∷ []) (map (λ (r : Row Cell). r.cells ∷ []) kept) k found in
      let zero = eqb-true (stands c kept) 0 nowhere in
      absurd (omega (arith, some, zero))
  | inr somewhere ↦ sym (append-nil kept) ∙ ap (λ b. kept ++ cond b (unit c) []) (sym somewhere)
]

-- one element back from the end
pub drop-back : {X : Type 0} (xs : List X) (i : ℕ) (x : X) → 0 < i → i ≤ length xs → x ≡ get_or xs (i - 1) x → drop (i - 1) xs ≡ x ∷ drop i xs
drop-back xs i x some within is =
    let next : suc (i - 1) ≡ i = omega (arith, some) in
    drop-cons xs (i - 1) x (omega (arith, some, within)) ∙ ap₂ (λ y n. y ∷ drop n xs) (sym is) next
