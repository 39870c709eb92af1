-- How many rows are there, through the operations on bags.
use Rattle.std.proofs.Common.{ℕ, ◌≡◌, ◌+◌, ◌≤◌, ◌&&◌, nat_eq, cond, ◌||◌, Bool, true, false, List, [], ◌∷◌, ◌++◌, refl, sym, ap, ◌∙◌, arith, inl, inr}
use Rattle.std.proofs.lemmas.Bool.{and_parts, cases_Bool, or_cases, or_left, or_right}
use Rattle.row_bag.specs.Bags.{bind, if_there, keep, row, unit}
use Rattle.row_bag.specs.Joins.{how_many}
use Rattle.row_bag.specs.Sets.{distinct, level_in, multiplicity, once, same_cells}
use Rattle.row_bag.specs.Verdict.{is_there}
use Rattle.row_bag.specs.declared.row.Row.{Row}
use Rattle.sql_value.specs.Level.{greatest, least}
use Rattle.sql_value.specs.declared.cell.Cell.{Cell}
use Rattle.sql_value.specs.declared.level.Level.{Level}
use Rattle.sql_value.specs.declared.level.Level.TheVariants.{No, Cardinality, Division, Overflow, Yes}
use Rattle.qgm_meaning.specs.Laws.{occurs}
use Rattle.qgm_meaning.specs.Meaning.{once_if}
use Rattle.qgm_meaning.specs.Values.{Bag}
use Rattle.qgm_props.specs.Facts.{HasAtMostOne, HasExactlyOne}
use Rattle.qgm_props.proofs.Rows.{least-there, occurs-here, occurs-more, there-is, there_at, each-occurs, each-once, occurs-each}

abbrev pub flag : Bool → ℕ
flag true = 1
flag false = 0

-- a row counts where it is there
pub counted : (r : Row (List Cell)) (rows : Bag) → how_many (r ∷ rows) ≡ flag (is_there r) + how_many rows
counted r rows = at r.level
  where
    at : (l : Level) → if_there 0 (λ (c : List Cell) (m : Level). 1) r.cells l + how_many rows ≡ flag (if_there false (λ (c : List Cell) (m : Level). true) r.cells l) + how_many rows
    at No = refl
    at Cardinality = refl
    at Division = refl
    at Overflow = refl
    at Yes = refl

pub many-append : (xs ys : Bag) → how_many (xs ++ ys) ≡ how_many xs + how_many ys
many-append [] ys = omega (arith)
many-append (x ∷ xs) ys = let h = many-append xs ys in let a = counted x (xs ++ ys) in let b = counted x xs in omega (arith, h, a, b)

pub kept-none : (l : Level) (rows : Bag) → there_at l ≡ false → how_many (keep l rows) ≡ 0
kept-none l [] h = refl
kept-none l (r ∷ rows) h =
    let k = kept-none l rows h in let a = counted (row r.cells (least l r.level)) (keep l rows) in
    let e : is_there (row r.cells (least l r.level)) ≡ false = there-is r.cells (least l r.level) ∙ least-there l r.level ∙ ap (λ b. b && there_at r.level) h in
    let z : flag (is_there (row r.cells (least l r.level))) ≡ 0 = ap flag e
    in omega (arith, a, k, z)

pub kept-many : (l : Level) (rows : Bag) → there_at l ≡ true → how_many (keep l rows) ≡ how_many rows
kept-many l [] h = refl
kept-many l (r ∷ rows) h =
    let k = kept-many l rows h in let a = counted (row r.cells (least l r.level)) (keep l rows) in let b = counted r rows in
    let e : is_there (row r.cells (least l r.level)) ≡ is_there r = there-is r.cells (least l r.level) ∙ least-there l r.level ∙ ap (λ b. b && there_at r.level) h ∙ sym (there-is r.cells r.level) in
    let z : flag (is_there (row r.cells (least l r.level))) ≡ flag (is_there r) = ap flag e
    in omega (arith, a, k, b, z)

-- no row is there where nothing is bound
pub bind-none : (xs : Bag) (f : List Cell → Bag) → how_many xs ≡ 0 → how_many (bind xs f) ≡ 0
bind-none [] f h = refl
bind-none (x ∷ xs) f h = elim (cases_Bool (is_there x)) [
  | inl t ↦ absurd (let a = counted x xs in let z : flag (is_there x) ≡ 1 = ap flag t in let w : ⊥ = omega (arith, a, z, h) in w)
  | inr t ↦ (
      let a = counted x xs in let m = many-append (keep x.level (f x.cells)) (bind xs f) in
      let z : flag (is_there x) ≡ 0 = ap flag t in
      let k = kept-none x.level (f x.cells) (sym (there-is x.cells x.level) ∙ t) in
      let r : how_many xs ≡ 0 = omega (arith, a, z, h) in
      let i = bind-none xs f r
      in omega (arith, m, k, i)
      )
]

-- so many rows for each of at most one
pub bind-one : (n : ℕ) (xs : Bag) (f : List Cell → Bag) → how_many xs ≤ 1 → ((c : List Cell) → occurs c xs ≡ true → how_many (f c) ≤ n) → how_many (bind xs f) ≤ n
bind-one n [] f h k = omega (arith)
bind-one n (x ∷ xs) f h k = elim (cases_Bool (is_there x)) [
  | inl t ↦ (
      let a = counted x xs in let m = many-append (keep x.level (f x.cells)) (bind xs f) in
      let z : flag (is_there x) ≡ 1 = ap flag t in
      let r : how_many xs ≡ 0 = omega (arith, a, z, h) in
      let e = kept-many x.level (f x.cells) (sym (there-is x.cells x.level) ∙ t) in
      let i = bind-none xs f r in
      let b = k x.cells (occurs-here x xs t)
      in omega (arith, m, e, i, b)
      )
  | inr t ↦ (
      let a = counted x xs in let m = many-append (keep x.level (f x.cells)) (bind xs f) in
      let z : flag (is_there x) ≡ 0 = ap flag t in
      let r : how_many xs ≤ 1 = omega (arith, a, z, h) in
      let e = kept-none x.level (f x.cells) (sym (there-is x.cells x.level) ∙ t) in
      let i = bind-one n xs f r (λ c o. k c (occurs-more c x xs o))
      in omega (arith, m, e, i)
      )
]

pub bind-exact : (n : ℕ) (xs : Bag) (f : List Cell → Bag) → how_many xs ≡ 1 → ((c : List Cell) → occurs c xs ≡ true → how_many (f c) ≡ n) → how_many (bind xs f) ≡ n
bind-exact n [] f h k = absurd (let z : ⊥ = omega (arith, h) in z)
bind-exact n (x ∷ xs) f h k = elim (cases_Bool (is_there x)) [
  | inl t ↦ (
      let a = counted x xs in let m = many-append (keep x.level (f x.cells)) (bind xs f) in
      let z : flag (is_there x) ≡ 1 = ap flag t in
      let r : how_many xs ≡ 0 = omega (arith, a, z, h) in
      let e = kept-many x.level (f x.cells) (sym (there-is x.cells x.level) ∙ t) in
      let i = bind-none xs f r in
      let b = k x.cells (occurs-here x xs t)
      in omega (arith, m, e, i, b)
      )
  | inr t ↦ (
      let a = counted x xs in let m = many-append (keep x.level (f x.cells)) (bind xs f) in
      let z : flag (is_there x) ≡ 0 = ap flag t in
      let r : how_many xs ≡ 1 = omega (arith, a, z, h) in
      let e = kept-none x.level (f x.cells) (sym (there-is x.cells x.level) ∙ t) in
      let i = bind-exact n xs f r (λ c o. k c (occurs-more c x xs o))
      in omega (arith, m, e, i)
      )
]

-- ---- each tuple once

-- a tuple is counted where rows of it are there
multiple-none : (c : List Cell) (xs : Bag) → how_many xs ≡ 0 → multiplicity same_cells c xs ≡ 0
multiple-none c [] h = refl
multiple-none c (x ∷ xs) h = at (λ e. multiple-none c xs e) x.level refl
  where
    one : (l : Level) → x.level ≡ l → there_at l ≡ true → ⊥
    one l e t = let a = counted x xs in let z : flag (is_there x) ≡ 1 = ap flag (there-is x.cells x.level ∙ ap there_at e ∙ t) in omega (arith, a, z, h)

    rest : x.level ≡ No → how_many xs ≡ 0
    rest e = let a = counted x xs in let z : flag (is_there x) ≡ 0 = ap flag (there-is x.cells x.level ∙ ap there_at e) in omega (arith, a, z, h)

    at : (how_many xs ≡ 0 → multiplicity same_cells c xs ≡ 0) → (l : Level) → x.level ≡ l → if_there 0 (λ k l. cond (same_cells k c) 1 0) x.cells l + multiplicity same_cells c xs ≡ 0
    at i No e = let j = i (rest e) in omega (arith, j)
    at i Cardinality e = absurd (one Cardinality e refl)
    at i Division e = absurd (one Division e refl)
    at i Overflow e = absurd (one Overflow e refl)
    at i Yes e = absurd (one Yes e refl)

once-many : (xs : Bag) → (how_many (once same_cells xs) ≤ how_many xs) × (how_many xs ≡ 1 → how_many (once same_cells xs) ≡ 1)
once-many [] = (omega (arith), λ h. absurd (let z : ⊥ = omega (arith, h) in z))
once-many (x ∷ xs) = at (once-many xs) x.level refl
  where
    Below : Type 0
    Below = (how_many (once same_cells xs) ≤ how_many xs) × (how_many xs ≡ 1 → how_many (once same_cells xs) ≡ 1)

    Goal : Bag → Type 0
    Goal front = (how_many (front ++ once same_cells xs) ≤ how_many (x ∷ xs)) × (how_many (x ∷ xs) ≡ 1 → how_many (front ++ once same_cells xs) ≡ 1)

    one : Below → (b : Bool) → nat_eq (multiplicity same_cells x.cells xs) 0 ≡ b → is_there x ≡ true → Goal (cond b (unit x.cells) [])
    one i true e t =
        let a = counted x xs in let z : flag (is_there x) ≡ 1 = ap flag t in
        let m = many-append (unit x.cells) (once same_cells xs) in let j = i.0 in let u : how_many (unit x.cells) ≡ 1 = refl
        in (omega (arith, a, z, m, j, u), λ h. omega (arith, a, z, m, j, u, h))
    one i false e t =
        let a = counted x xs in let z : flag (is_there x) ≡ 1 = ap flag t in let j = i.0
        in (
          omega (arith, a, z, j),
          λ h. absurd (
              let n : how_many xs ≡ 0 = omega (arith, a, z, h) in
              let w : true ≡ false = sym (ap (λ k. nat_eq k 0) (multiple-none x.cells xs n)) ∙ e in
              let v : ⊥ = cc
              in v
              ),
        )

    at : Below → (l : Level) → x.level ≡ l → Goal (if_there [] (λ c l. cond (nat_eq (multiplicity same_cells c xs) 0) (unit c) []) x.cells l)
    at i No e =
        let a = counted x xs in let z : flag (is_there x) ≡ 0 = ap flag (there-is x.cells x.level ∙ ap there_at e) in let j = i.0
        in (omega (arith, a, z, j), λ h. i.1 (omega (arith, a, z, h)))
    at i Cardinality e = one i (nat_eq (multiplicity same_cells x.cells xs) 0) refl (there-is x.cells x.level ∙ ap there_at e)
    at i Division e = one i (nat_eq (multiplicity same_cells x.cells xs) 0) refl (there-is x.cells x.level ∙ ap there_at e)
    at i Overflow e = one i (nat_eq (multiplicity same_cells x.cells xs) 0) refl (there-is x.cells x.level ∙ ap there_at e)
    at i Yes e = one i (nat_eq (multiplicity same_cells x.cells xs) 0) refl (there-is x.cells x.level ∙ ap there_at e)

greatest-there : (a b : Level) → there_at (greatest a b) ≡ (there_at a || there_at b)
greatest-there No No = refl
greatest-there No Cardinality = refl
greatest-there No Division = refl
greatest-there No Overflow = refl
greatest-there No Yes = refl
greatest-there Cardinality No = refl
greatest-there Cardinality Cardinality = refl
greatest-there Cardinality Division = refl
greatest-there Cardinality Overflow = refl
greatest-there Cardinality Yes = refl
greatest-there Division No = refl
greatest-there Division Cardinality = refl
greatest-there Division Division = refl
greatest-there Division Overflow = refl
greatest-there Division Yes = refl
greatest-there Overflow No = refl
greatest-there Overflow Cardinality = refl
greatest-there Overflow Division = refl
greatest-there Overflow Overflow = refl
greatest-there Overflow Yes = refl
greatest-there Yes No = refl
greatest-there Yes Cardinality = refl
greatest-there Yes Division = refl
greatest-there Yes Overflow = refl
greatest-there Yes Yes = refl

-- a tuple that occurs has a level at which it is there
pub level-there : (c : List Cell) (xs : Bag) → occurs c xs ≡ true → there_at (level_in same_cells c xs) ≡ true
level-there c [] o = absurd (let z : ⊥ = cc in z)
level-there c (x ∷ xs) o = greatest-there (if_there No (λ k l. cond (same_cells k c) l No) x.cells x.level) (level_in same_cells c xs) ∙ (elim (or_cases (same_cells x.cells c && is_there x) (occurs c xs) o) [
  | inl t ↦ or_left (there_at (if_there No (λ k l. cond (same_cells k c) l No) x.cells x.level)) (there_at (level_in same_cells c xs)) (let p = and_parts (same_cells x.cells c) (is_there x) t in at x.level (sym (there-is x.cells x.level) ∙ p.1) p.0)
  | inr t ↦ or_right (there_at (if_there No (λ k l. cond (same_cells k c) l No) x.cells x.level)) (there_at (level_in same_cells c xs)) (level-there c xs t)
])
  where
    one : (b : Bool) (l : Level) → there_at l ≡ true → b ≡ true → there_at (cond b l No) ≡ true
    one true l t e = t
    one false l t e = absurd (let z : ⊥ = cc in z)

    at : (l : Level) → there_at l ≡ true → same_cells x.cells c ≡ true → there_at (if_there No (λ k l. cond (same_cells k c) l No) x.cells l) ≡ true
    at No t e = absurd (let z : ⊥ = cc in z)
    at Cardinality t e = one (same_cells x.cells c) Cardinality t e
    at Division t e = one (same_cells x.cells c) Division t e
    at Overflow t e = one (same_cells x.cells c) Overflow t e
    at Yes t e = one (same_cells x.cells c) Yes t e

-- what occurs once occurs
pub occurs-once : (c : List Cell) (xs : Bag) → occurs c (once same_cells xs) ≡ true → occurs c xs ≡ true
occurs-once c xs o = occurs-each (λ c. occurs c xs ≡ true) (once same_cells xs) (each-once (λ c. occurs c xs ≡ true) xs (each-occurs (λ c. occurs c xs ≡ true) xs (λ c o. o))) c o

one-row : (c : List Cell) (l : Level) → (how_many (row c l ∷ []) ≤ 1) × (there_at l ≡ true → how_many (row c l ∷ []) ≡ 1)
one-row c No = (omega (arith), λ t. absurd (let z : ⊥ = cc in z))
one-row c Cardinality = (omega (arith), λ t. refl)
one-row c Division = (omega (arith), λ t. refl)
one-row c Overflow = (omega (arith), λ t. refl)
one-row c Yes = (omega (arith), λ t. refl)

pub single-distinct : (xs : Bag) → HasAtMostOne xs → HasAtMostOne (distinct same_cells xs)
single-distinct xs h = bind-one 1 (once same_cells xs) (λ c. row c (level_in same_cells c xs) ∷ []) (let m = (once-many xs).0 in omega (arith, m, h)) (λ c o. (one-row c (level_in same_cells c xs)).0)

pub exact-distinct : (xs : Bag) → HasExactlyOne xs → HasExactlyOne (distinct same_cells xs)
exact-distinct xs h = bind-exact 1 (once same_cells xs) (λ c. row c (level_in same_cells c xs) ∷ []) ((once-many xs).1 h) (λ c o. (one-row c (level_in same_cells c xs)).1 (level-there c xs (occurs-once c xs o)))

pub single-if : (b : Bool) (xs : Bag) → HasAtMostOne xs → HasAtMostOne (once_if b xs)
single-if true xs h = single-distinct xs h
single-if false xs h = h

pub exact-if : (b : Bool) (xs : Bag) → HasExactlyOne xs → HasExactlyOne (once_if b xs)
exact-if true xs h = exact-distinct xs h
exact-if false xs h = h
