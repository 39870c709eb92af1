-- The cell that stands first in an order, of which null is none: its order doesn't count.
use Rattle.std.proofs.Common.{◌≡◌, cond, Bool, true, false, refl, sym, ap, subst, inl, inr}
use mathlib.Core.Path.{fun_ext}
use Rattle.std.proofs.lemmas.Bool.{cases_Bool}
use Rattle.std.proofs.lemmas.Cmp.{upto}
use Rattle.std.specs.Cmp.{IsTotalOrder, back_total}
use Rattle.std.specs.Ordering.{is_le, is_gt, ordering_reverse}
use Rattle.std.specs.declared.cmp.Ordering.{Ordering}
use Rattle.std.specs.declared.cmp.Ordering.TheVariants.{Less, Equal, Greater}
use Rattle.row_bag.specs.Aggregates.{greater_cell, lesser_cell}
use Rattle.row_bag.specs.Bags.{IsCommutativeMonoid}
use Rattle.sql_value.proofs.Total.{cell-ties, cell-total}
use Rattle.sql_value.specs.Cells.{cell_compare}
use Rattle.sql_value.specs.declared.cell.Cell.{Cell}
use Rattle.sql_value.specs.declared.cell.Cell.TheVariants.{Int, Text, Null, Err}

abbrev is_none : Cell → Bool
is_none Null = true
is_none (Int n) = false
is_none (Text s) = false
is_none (Err k) = false

-- the one that stands first in an order, where there is one
module _ (R : Cell → Cell → Ordering) (o : IsTotalOrder R) (ties : (x y : Cell) → R x y ≡ Equal → x ≡ y) where
  abbrev earlier : Cell → Cell → Cell
  earlier x y = cond (is_none x) y (cond (is_none y) x (cond (is_le (R x y)) x y))

  pub le-not : (x y : Cell) → is_le (R x y) ≡ false → is_le (R y x) ≡ true
  le-not x y h = step (R x y) (R y x) h (o.antisymm y x)
    where
      step : (a b : Ordering) → is_le a ≡ false → b ≡ ordering_reverse a → is_le b ≡ true
      step Less b h e = cc
      step Equal b h e = cc h
      step Greater b h e = ap is_le e

  pub both-le : (x y : Cell) → is_le (R x y) ≡ true → is_le (R y x) ≡ true → x ≡ y
  both-le x y h k = step (R x y) (R y x) h k (o.antisymm y x) (ties x y)
    where
      step : (a b : Ordering) → is_le a ≡ true → is_le b ≡ true → b ≡ ordering_reverse a → (a ≡ Equal → x ≡ y) → x ≡ y
      step Less b h k e f = absurd (let z : is_le b ≡ false = ap is_le e in let w : ⊥ = cc in w)
      step Equal b h k e f = f refl
      step Greater b h k e f = cc h

  le-trans : (x y z : Cell) → is_le (R x y) ≡ true → is_le (R y z) ≡ true → is_le (R x z) ≡ true
  le-trans x y z h k = up (R x z) (upto o x y z (down (R x y) h) (down (R y z) k))
    where
      down : (a : Ordering) → is_le a ≡ true → is_gt a ≡ false
      down Less h = refl
      down Equal h = refl
      down Greater h = cc h

      up : (a : Ordering) → is_gt a ≡ false → is_le a ≡ true
      up Less h = refl
      up Equal h = refl
      up Greater h = cc h

  abbrev lower : Cell → Cell → Cell
  lower x y = cond (is_le (R x y)) x y

  lower-commutative : (x y : Cell) → lower x y ≡ lower y x
  lower-commutative x y =
      elim (cases_Bool (is_le (R x y))) [
        | inl p ↦ elim (cases_Bool (is_le (R y x))) [
          | inl q ↦ rw (p, q) (both-le x y p q)
          | inr q ↦ rw (p, q) refl
        ]
        | inr p ↦ rw (p, le-not x y p) refl
      ]

  lower-associative : (x y z : Cell) → lower (lower x y) z ≡ lower x (lower y z)
  lower-associative x y z =
      elim (cases_Bool (is_le (R x y))) [
        | inl p ↦ elim (cases_Bool (is_le (R y z))) [
          | inl q ↦ rw (p, q) (rw (p, le-trans x y z p q) refl)
          | inr q ↦ rw (p, q) refl
        ]
        | inr p ↦ elim (cases_Bool (is_le (R y z))) [
          | inl q ↦ rw (p, q) (rw p refl)
          | inr q ↦ rw (p, q) (above x y z p q)
        ]
      ]
    where
      above : (x y z : Cell) → is_le (R x y) ≡ false → is_le (R y z) ≡ false → z ≡ cond (is_le (R x z)) x z
      above x y z p q = elim (cases_Bool (is_le (R x z))) [
        | inl r ↦ absurd (let w : is_le (R x y) ≡ true = le-trans x z y r (le-not y z q) in let v : ⊥ = cc in v)
        | inr r ↦ rw r refl
      ]

  lower-none : (x y : Cell) → is_none x ≡ false → is_none y ≡ false → is_none (lower x y) ≡ false
  lower-none x y h k = elim (is_le (R x y)) as (λ b. is_none (cond b x y) ≡ false) [ true ↦ h | false ↦ k ]

  null-is : (x y : Cell) → is_none x ≡ true → is_none y ≡ true → x ≡ y
  null-is Null Null h k = refl
  null-is Null (Int n) h k = cc k
  null-is Null (Text s) h k = cc k
  null-is Null (Err j) h k = cc k
  null-is (Int n) y h k = cc h
  null-is (Text s) y h k = cc h
  null-is (Err j) y h k = cc h

  pub earlier-monoid : IsCommutativeMonoid Cell earlier Null
  earlier-monoid = record { associative = associative; commutative = commutative; unit = λ a. refl }
    where
      commutative : (x y : Cell) → earlier x y ≡ earlier y x
      commutative x y = elim (cases_Bool (is_none x)) [
        | inl p ↦ elim (cases_Bool (is_none y)) [
          | inl q ↦ rw (p, q) (null-is y x q p)
          | inr q ↦ rw (p, q) refl
        ]
        | inr p ↦ elim (cases_Bool (is_none y)) [
          | inl q ↦ rw (p, q) refl
          | inr q ↦ rw (p, q) (lower-commutative x y)
        ]
      ]

      associative : (x y z : Cell) → earlier (earlier x y) z ≡ earlier x (earlier y z)
      associative x y z = elim (cases_Bool (is_none x)) [
        | inl p ↦ rw p refl
        | inr p ↦ elim (cases_Bool (is_none y)) [
          | inl q ↦ rw (p, q) (rw p refl)
          | inr q ↦ elim (cases_Bool (is_none z)) [
            | inl r ↦ rw (p, q, r) (rw (lower-none x y p q, q) refl)
            | inr r ↦ rw (p, q, r) (rw (lower-none x y p q, lower-none y z q r) (lower-associative x y z))
          ]
        ]
      ]

-- ---- the lesser and the greater cell

abbrev lower_by : (Cell → Cell → Ordering) → Cell → Cell → Cell
lower_by R x y = cond (is_none x) y (cond (is_none y) x (cond (is_le (R x y)) x y))

lesser-same : (x y : Cell) → lesser_cell x y ≡ lower_by cell_compare x y
lesser-same Null y = refl
lesser-same (Int n) Null = refl
lesser-same (Int n) (Int m) = refl
lesser-same (Int n) (Text s) = refl
lesser-same (Int n) (Err k) = refl
lesser-same (Text s) Null = refl
lesser-same (Text s) (Int m) = refl
lesser-same (Text s) (Text t) = refl
lesser-same (Text s) (Err k) = refl
lesser-same (Err k) Null = refl
lesser-same (Err k) (Int m) = refl
lesser-same (Err k) (Text t) = refl
lesser-same (Err k) (Err j) = refl

turned-greater : (x y : Cell) → cond (is_le (cell_compare x y)) y x ≡ cond (is_le (cell_compare y x)) x y
turned-greater x y = elim (cases_Bool (is_le (cell_compare x y))) [
  | inl p ↦ elim (cases_Bool (is_le (cell_compare y x))) [
    | inl q ↦ rw (p, q) (sym (both-le cell_compare cell-total cell-ties x y p q))
    | inr q ↦ rw (p, q) refl
  ]
  | inr p ↦ rw (p, le-not cell_compare cell-total cell-ties x y p) refl
]

greater-same : (x y : Cell) → greater_cell x y ≡ lower_by (λ a b. cell_compare b a) x y
greater-same Null y = refl
greater-same (Int n) Null = refl
greater-same (Int n) (Int m) = turned-greater (Int n) (Int m)
greater-same (Int n) (Text t) = turned-greater (Int n) (Text t)
greater-same (Int n) (Err j) = turned-greater (Int n) (Err j)
greater-same (Text s) Null = refl
greater-same (Text s) (Int m) = turned-greater (Text s) (Int m)
greater-same (Text s) (Text t) = turned-greater (Text s) (Text t)
greater-same (Text s) (Err j) = turned-greater (Text s) (Err j)
greater-same (Err k) Null = refl
greater-same (Err k) (Int m) = turned-greater (Err k) (Int m)
greater-same (Err k) (Text t) = turned-greater (Err k) (Text t)
greater-same (Err k) (Err j) = turned-greater (Err k) (Err j)

pub lesser-monoid : IsCommutativeMonoid Cell lesser_cell Null
lesser-monoid = subst (λ op. IsCommutativeMonoid Cell op Null) (sym (fun_ext (λ x. fun_ext (λ y. lesser-same x y)))) (earlier-monoid cell_compare cell-total cell-ties)

pub greater-monoid : IsCommutativeMonoid Cell greater_cell Null
greater-monoid =
    subst (λ op. IsCommutativeMonoid Cell op Null) (sym (fun_ext (λ x. fun_ext (λ y. greater-same x y))))
    (earlier-monoid (λ x y. cell_compare y x) (back_total cell-total) (λ x y e. sym (cell-ties y x e)))
