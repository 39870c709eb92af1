-- Rows without a column, and what is made of them.
use Rattle.std.proofs.Common.{ℕ, zero, suc, ◌==◌, ◌≡◌, ◌-◌, ◌≤◌, nat_lt, nat_eq, cond, get_or, Bool, true, false, List, ◌∷◌, ◌++◌, map, Some, None, refl, sym, ap, ap₂, ◌∙◌, eqb-true, inl, inr, arith, [], ◌+◌}
use Rattle.std.specs.List.{remove}
use Rattle.std.proofs.lemmas.Bool.{cases_Bool, eq-eqb, lt-ltb, ltb-false, ltb-true}
use mathlib.Core.Path.{fun_ext}
use Rattle.row_bag.specs.Bags.{bind, if_there, keep, row, total}
use Rattle.row_bag.specs.Joins.{how_many, or_else}
use Rattle.row_bag.specs.Order.{cell_of}
use Rattle.row_bag.specs.Subqueries.{only_cell, scalar, scalar_of_those}
use Rattle.row_bag.specs.Errors.{error_at}
use Rattle.row_bag.specs.Verdict.{is_there, those_there}
use Rattle.row_bag.specs.declared.row.Row.{Row}
use Rattle.sql_value.specs.Arithmetic.{error_or}
use Rattle.sql_value.specs.Cells.{worst_of}
use Rattle.sql_value.specs.Level.{least}
use Rattle.sql_value.specs.declared.cell.Cell.{Cell}
use Rattle.sql_value.specs.declared.cell.Cell.TheVariants.{Null}
use Rattle.sql_value.specs.declared.cell.Kind.TheVariants as kind
use Rattle.sql_value.specs.declared.level.Level.{Level}
use Rattle.sql_value.specs.declared.level.Level.TheVariants.{No, Cardinality, Division, Overflow, Yes}
use Rattle.qgm_core.specs.Kinds.{is_F}
use Rattle.qgm_core.specs.declared.owned.OwnedQuant.{OwnedQuant}
use Rattle.qgm_meaning.specs.Meaning.{Family, over_each}
use Rattle.qgm_meaning.specs.Values.{Bag, Environment, bound, row_of}
use Rattle.list_laws.proofs.Booleans.{clash}

-- ---- lists

pub remove-none : {X : Type 0} (i : ℕ) → remove {X = X} [] i ≡ []
remove-none zero = refl
remove-none (suc i) = refl

pub map-remove : {X Y : Type 0} (f : X → Y) (xs : List X) (i : ℕ) → map f (remove xs i) ≡ remove (map f xs) i
map-remove f [] i = ap (map f) (remove-none i) ∙ sym (remove-none i)
map-remove f (x ∷ xs) zero = refl
map-remove f (x ∷ xs) (suc i) = ap (λ z. f x ∷ z) (map-remove f xs i)

-- the element at another place than i stands at its own place, or one place before
pub get-remove : {X : Type 0} (xs : List X) (i j : ℕ) (d : X) → (j == i) ≡ false → get_or (remove xs i) (cond (nat_lt i j) (j - 1) j) d ≡ get_or xs j d
get-remove [] i j d n = ap (λ z. get_or z (cond (nat_lt i j) (j - 1) j) d) (remove-none i)
get-remove (x ∷ xs) zero zero d n = absurd (clash (0 == 0) refl n)
get-remove (x ∷ xs) zero (suc j) d n =
    let l : nat_lt 0 (suc j) ≡ true = lt-ltb 0 (suc j) (omega arith) in
    let e : suc j - 1 ≡ j = (omega arith) in
    ap (λ b. get_or xs (cond b (suc j - 1) (suc j)) d) l ∙ ap (λ m. get_or xs m d) e
get-remove (x ∷ xs) (suc i) zero d n = ap (λ b. get_or (x ∷ remove xs i) (cond b 0 0) d) (not-below i)
  where
    not-below : (i : ℕ) → nat_lt (suc i) 0 ≡ false
    not-below i = elim (cases_Bool (nat_lt (suc i) 0)) [ inr f ↦ f | inl t ↦ absurd (let l = ltb-true (suc i) 0 t in let z : ⊥ = omega arith in z) ]
get-remove (x ∷ xs) (suc i) (suc j) d n =
    let m : (j == i) ≡ false = (elim (cases_Bool (j == i)) [ inr f ↦ f | inl t ↦ absurd (clash (suc j == suc i) (eq-eqb (suc j) (suc i) (ap suc (eqb-true j i t))) n) ]) in
    let h = get-remove xs i j d m in
    elim (cases_Bool (nat_lt i j)) [
      | inl t ↦ (
          let l = ltb-true i j t in
          let u : nat_lt (suc i) (suc j) ≡ true = lt-ltb (suc i) (suc j) (omega arith) in
          let e : suc j - 1 ≡ suc (j - 1) = (omega arith) in
          ap (λ b. get_or (x ∷ remove xs i) (cond b (suc j - 1) (suc j)) d) u ∙ ap (λ m. get_or (x ∷ remove xs i) m d) e ∙ sym (ap (λ b. get_or (remove xs i) (cond b (j - 1) j) d) t) ∙ h)
      | inr f ↦ (
          let l = ltb-false i j f in
          let u : nat_lt (suc i) (suc j) ≡ false = (elim (cases_Bool (nat_lt (suc i) (suc j))) [ inr g ↦ g | inl t ↦ absurd (let k = ltb-true (suc i) (suc j) t in let z : ⊥ = omega arith in z) ]) in
          ap (λ b. get_or (x ∷ remove xs i) (cond b (suc j - 1) (suc j)) d) u ∙ sym (ap (λ b. get_or (remove xs i) (cond b (j - 1) j) d) f) ∙ h)
    ]

-- ---- a row without column k

module _ (k : ℕ) where
  abbrev pub narrow : List Cell → List Cell
  narrow cells = remove cells (k - 1)

  abbrev pub narrow_if : Bool → List Cell → List Cell
  narrow_if true cells = narrow cells
  narrow_if false cells = cells

  abbrev pub slim_row : Row (List Cell) → Row (List Cell)
  slim_row r = row (narrow r.cells) r.level

  -- rows without it
  abbrev pub slim : Bool → Bag → Bag
  slim true rows = map slim_row rows
  slim false rows = rows

  pub narrow-none : (t : Bool) → narrow_if t [] ≡ []
  narrow-none true = remove-none (k - 1)
  narrow-none false = refl

  pub slim-none : (t : Bool) → slim t [] ≡ []
  slim-none true = refl
  slim-none false = refl

  -- its cells
  pub cell-narrow : 1 ≤ k → (j : ℕ) (cells : List Cell) → (j == k) ≡ false → cell_of (cond (nat_lt k j) (j - 1) j) (narrow cells) ≡ cell_of j cells
  cell-narrow one j cells n = ap (λ z. get_or z (cond (nat_lt k j) (j - 1) j) Null) (step k one) ∙ get-remove (Null ∷ cells) k j Null n
    where
      step : (k : ℕ) → 1 ≤ k → Null ∷ remove cells (k - 1) ≡ remove (Null ∷ cells) k
      step zero l = absurd (let z : ⊥ = omega arith in z)
      step (suc k) l = let e : suc k - 1 ≡ k = (omega arith) in ap (λ i. Null ∷ remove cells i) e

  -- ---- bags

  pub bind-slim : {A : Type 0} (t : Bool) (rows : Bag) (f : List Cell → List (Row A)) → bind (slim t rows) f ≡ bind rows (λ c. f (narrow_if t c))
  bind-slim false rows f = refl
  bind-slim true [] f = refl
  bind-slim true (r ∷ rows) f = ap (λ z. keep r.level (f (narrow r.cells)) ++ z) (bind-slim true rows f)

  pub slim-append : (t : Bool) (xs ys : Bag) → slim t (xs ++ ys) ≡ slim t xs ++ slim t ys
  slim-append false xs ys = refl
  slim-append true [] ys = refl
  slim-append true (x ∷ xs) ys = ap (λ z. slim_row x ∷ z) (slim-append true xs ys)

  pub slim-keep : (t : Bool) (l : Level) (xs : Bag) → slim t (keep l xs) ≡ keep l (slim t xs)
  slim-keep false l xs = refl
  slim-keep true l [] = refl
  slim-keep true l (x ∷ xs) = ap (λ z. row (narrow x.cells) (least l x.level) ∷ z) (slim-keep true l xs)

  pub slim-bind : {A : Type 0} (t : Bool) (rows : List (Row A)) (f : A → Bag) → slim t (bind rows f) ≡ bind rows (λ c. slim t (f c))
  slim-bind t [] f = slim-none t
  slim-bind t (r ∷ rows) f = slim-append t (keep r.level (f r.cells)) (bind rows f) ∙ ap₂ (λ (xs ys : Bag). xs ++ ys) (slim-keep t r.level (f r.cells)) (slim-bind t rows f)

  pub total-slim : {M : Type 0} (op : M → M → M) (e : M) (f : List Cell → Level → M) (t : Bool) (rows : Bag) → total op e f (slim t rows) ≡ total op e (λ c l. f (narrow_if t c) l) rows
  total-slim op e f false rows = refl
  total-slim op e f true [] = refl
  total-slim {M} op e f true (r ∷ rows) = ap₂ op (at r.level) (total-slim op e f true rows)
    where
      at : (l : Level) → ◌≡◌ {A = M} (if_there e f (narrow r.cells) l) (if_there e (λ c l. f (narrow c) l) r.cells l)
      at No = refl
      at Cardinality = refl
      at Division = refl
      at Overflow = refl
      at Yes = refl

  pub many-slim : (t : Bool) (rows : Bag) → how_many (slim t rows) ≡ how_many rows
  many-slim t rows = total-slim ◌+◌ 0 (λ c l. 1) t rows

  pub else-slim : (t : Bool) (xs ys : Bag) → or_else (slim t xs) (slim t ys) ≡ slim t (or_else xs ys)
  else-slim t xs ys = ap (λ (n : ℕ). cond (nat_eq n 0) (slim t ys) (slim t xs)) (many-slim t xs) ∙ (elim (nat_eq (how_many xs) 0) as (λ b. cond b (slim t ys) (slim t xs) ≡ slim t (cond b ys xs)) [ true ↦ refl | false ↦ refl ])

  there-row : (r : Row (List Cell)) → is_there (slim_row r) ≡ is_there r
  there-row r = by r.level
    where
      by : (l : Level) → ◌≡◌ {A = Bool} (if_there false (λ (c : List Cell) (l : Level). true) (narrow r.cells) l) (if_there false (λ (c : List Cell) (l : Level). true) r.cells l)
      by No = refl
      by Cardinality = refl
      by Division = refl
      by Overflow = refl
      by Yes = refl

  there-slim : (rows : Bag) → those_there (map slim_row rows) ≡ map slim_row (those_there rows)
  there-slim [] = refl
  there-slim (r ∷ rows) =
      ap (λ b. cond b (slim_row r ∷ those_there (map slim_row rows)) (those_there (map slim_row rows))) (there-row r)
      ∙ (elim (is_there r) as (λ b. cond b (slim_row r ∷ those_there (map slim_row rows)) (those_there (map slim_row rows)) ≡ map slim_row (cond b (r ∷ those_there rows) (those_there rows))) [ true ↦ ap (λ z. slim_row r ∷ z) (there-slim rows) | false ↦ there-slim rows ])

  -- where another column than the first goes, the only cell stays
  only-narrow : 1 ≤ k → (1 == k) ≡ false → (cells : List Cell) → only_cell (narrow cells) ≡ only_cell cells
  only-narrow one n cells = let x = two k one n in ap (λ i. only_cell (remove cells i)) x.1 ∙ by x.0 cells
    where
      two : (k : ℕ) → 1 ≤ k → (1 == k) ≡ false → (i : ℕ) × (k - 1 ≡ suc i)
      two zero l n = absurd (let z : ⊥ = omega arith in z)
      two (suc zero) l n = absurd (clash (1 == 1) refl n)
      two (suc (suc i)) l n = (i, omega arith)

      by : (i : ℕ) (cells : List Cell) → only_cell (remove cells (suc i)) ≡ only_cell cells
      by i [] = refl
      by i (x ∷ xs) = refl

  pub scalar-slim : 1 ≤ k → (1 == k) ≡ false → (rows : Bag) → scalar (map slim_row rows) ≡ scalar rows
  scalar-slim one n rows = ap scalar_of_those (there-slim rows) ∙ of-those (those_there rows)
    where
      of-those : (rs : Bag) → scalar_of_those (map slim_row rs) ≡ scalar_of_those rs
      of-those [] = refl
      of-those (r ∷ []) = ap (error_or (error_at r.level)) (only-narrow one n r.cells)
      of-those (r ∷ q ∷ rs) = ap (λ z. error_or (worst_of (Some kind.Cardinality) z) Null) (total-slim worst_of None (λ c l. error_at l) true (r ∷ q ∷ rs))

  -- ---- environments, in which rows of some quantifiers lack it

  module _ (over : ℕ → Bool) where
    abbrev pub narrowed : Environment → Environment
    narrowed [] = []
    narrowed (b ∷ e) = (b.0, narrow_if (over b.0) b.1) ∷ narrowed e

    pub row-narrowed : (q : ℕ) (e : Environment) → row_of q (narrowed e) ≡ narrow_if (over q) (row_of q e)
    row-narrowed q [] = sym (narrow-none (over q))
    row-narrowed q (b ∷ e) = elim (cases_Bool (b.0 == q)) [
      | inl t ↦ ap (λ z. cond z (narrow_if (over b.0) b.1) (row_of q (narrowed e))) t ∙ ap (λ z. narrow_if (over z) b.1) (eqb-true b.0 q t) ∙ sym (ap (λ z. narrow_if (over q) (cond z b.1 (row_of q e))) t)
      | inr f ↦ ap (λ z. cond z (narrow_if (over b.0) b.1) (row_of q (narrowed e))) f ∙ row-narrowed q e ∙ sym (ap (λ z. narrow_if (over q) (cond z b.1 (row_of q e))) f)
    ]

    -- what is given for each combination of rows
    pub each-slim : (t : Bool) (s' s : Family) (give' give : Environment → Bag) → ((q : ℕ) (e : Environment) → s' q (narrowed e) ≡ slim (over q) (s q e)) → ((e : Environment) → give' (narrowed e) ≡ slim t (give e))
        → (rs : List OwnedQuant) (e : Environment) → over_each rs s' give' (narrowed e) ≡ slim t (over_each rs s give e)
    each-slim t s' s give' give same given [] e = given e
    each-slim t s' s give' give same given (r ∷ rs) e = elim (is_F r.kind) as (λ f. ◌≡◌ {A = Bag}
        (cond f (bind (s' r.id (narrowed e)) (λ c. over_each rs s' give' (bound r.id c (narrowed e)))) (over_each rs s' give' (narrowed e)))
        (slim t (cond f (bind (s r.id e) (λ c. over_each rs s give (bound r.id c e))) (over_each rs s give e)))) [
          | true ↦
              ap (λ z. bind z (λ c. over_each rs s' give' (bound r.id c (narrowed e)))) (same r.id e)
              ∙ bind-slim (over r.id) (s r.id e) (λ c. over_each rs s' give' (bound r.id c (narrowed e)))
              ∙ ap (λ (h : List Cell → Bag). bind (s r.id e) h) (fun_ext (λ c. each-slim t s' s give' give same given rs (bound r.id c e)))
              ∙ sym (slim-bind t (s r.id e) (λ c. over_each rs s give (bound r.id c e)))
          | false ↦ each-slim t s' s give' give same given rs e
        ]
