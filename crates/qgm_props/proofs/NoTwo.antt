-- That no two rows pass a test, through the operations on bags.
use Rattle.std.proofs.Common.{ℕ, zero, suc, ◌≡◌, ◌≤◌, ◌+◌, nat_eq, ◌&&◌, ◌||◌, cond, Bool, true, false, List, [], ◌∷◌, ◌++◌, eqb-true, refl, sym, ap, subst, ◌∙◌, arith, inl, inr}
use Rattle.std.proofs.lemmas.Bool.{and_from, and_parts, cases_Bool, or_cases, or_left, or_right}
use Rattle.std.specs.List.{list_any}
use Rattle.row_bag.specs.Bags.{bind, if_there, keep, row, unit}
use Rattle.row_bag.specs.Joins.{how_many}
use Rattle.row_bag.specs.Sets.{copies, distinct, level_in, multiplicity, once, same_cells}
use Rattle.row_bag.specs.Verdict.{is_there}
use Rattle.row_bag.specs.declared.row.Row.{Row}
use Rattle.row_bag.proofs.TupleBags.{same_cells-decides}
use Rattle.sql_value.specs.Level.{least}
use Rattle.sql_value.specs.declared.cell.Cell.{Cell}
use Rattle.sql_value.specs.declared.level.Level.{Level}
use Rattle.sql_value.specs.declared.level.Level.TheVariants.{No, Cardinality, Division, Overflow, Yes}
use Rattle.qgm_meaning.specs.Laws.{occurs}
use Rattle.qgm_meaning.specs.Values.{Bag}
use Rattle.qgm_props.proofs.Counted.{counted, flag, occurs-once}
use Rattle.qgm_props.proofs.Rows.{occurs-here, occurs-more, there-is, there-kept, there_at}

abbrev pub Test : Type 0
Test = List Cell → List Cell → Bool

-- no two rows that are there pass
abbrev pub NoTwo : Test → Bag → Type 0
NoTwo test [] = Unit {0}
NoTwo test (r ∷ rows) = (is_there r ≡ true → list_any (λ s. is_there s && test r.cells s.cells) rows ≡ false) × NoTwo test rows

-- no tuple of these rows passes with this one
abbrev pub Apart : Test → List Cell → Bag → Type 0
Apart t a rows = (c : List Cell) → occurs c rows ≡ true → t a c ≡ false

any-passes : (t : Test) (a : List Cell) (rows : Bag) → list_any (λ s. is_there s && t a s.cells) rows ≡ false → Apart t a rows
any-passes t a [] h c o = absurd (let z : ⊥ = cc in z)
any-passes t a (r ∷ rows) h c o = elim (or_cases (same_cells r.cells c && is_there r) (occurs c rows) o) [
  | inl w ↦ (
      let p = and_parts (same_cells r.cells c) (is_there r) w in
      let e = (same_cells-decides r.cells c).0 p.0 in
      subst (λ c. t a c ≡ false) e (none (is_there r) (t a r.cells) (list_any (λ s. is_there s && t a s.cells) rows) h p.1)
      )
  | inr w ↦ any-passes t a rows (rest (is_there r && t a r.cells) (list_any (λ s. is_there s && t a s.cells) rows) h) c w
]
  where
    none : (x y z : Bool) → ((x && y) || z) ≡ false → x ≡ true → y ≡ false
    none true true z h e = absurd (let w : ⊥ = cc in w)
    none true false z h e = refl
    none false y z h e = absurd (let w : ⊥ = cc in w)

    rest : (x z : Bool) → (x || z) ≡ false → z ≡ false
    rest true z h = absurd (let w : ⊥ = cc in w)
    rest false z h = h

pub passes-none : (t : Test) (a : List Cell) (rows : Bag) → Apart t a rows → list_any (λ s. is_there s && t a s.cells) rows ≡ false
passes-none t a [] h = refl
passes-none t a (r ∷ rows) h = both (is_there r && t a r.cells) (list_any (λ s. is_there s && t a s.cells) rows) (one (is_there r) refl) (passes-none t a rows (λ c o. h c (occurs-more c r rows o)))
  where
    both : (x y : Bool) → x ≡ false → y ≡ false → (x || y) ≡ false
    both true y h k = absurd (let w : ⊥ = cc in w)
    both false y h k = k

    one : (b : Bool) → is_there r ≡ b → (b && t a r.cells) ≡ false
    one true w = h r.cells (occurs-here r rows w)
    one false w = refl

-- the same said by tuples
pub apart-from : (t : Test) (r : Row (List Cell)) (rows : Bag) → (is_there r ≡ true → list_any (λ s. is_there s && t r.cells s.cells) rows ≡ false) → is_there r ≡ true → Apart t r.cells rows
apart-from t r rows h w = any-passes t r.cells rows (h w)

pub none-two : (t : Test) (rows : Bag) → how_many rows ≤ 1 → NoTwo t rows
none-two t [] h = tt
none-two t (r ∷ rows) h = (
  (λ w. passes-none t r.cells rows (λ c o. absurd (some rows c o (let a = counted r rows in let f : flag (is_there r) ≡ 1 = ap flag w in omega (arith, a, f, h))))),
  none-two t rows (let a = counted r rows in omega (arith, a, h)),
)
  where
    some : (rows : Bag) (c : List Cell) → occurs c rows ≡ true → how_many rows ≡ 0 → ⊥
    some [] c o h = cc
    some (s ∷ rows) c o h = elim (or_cases (same_cells s.cells c && is_there s) (occurs c rows) o) [
      | inl w ↦ (let a = counted s rows in let f : flag (is_there s) ≡ 1 = ap flag (and_parts (same_cells s.cells c) (is_there s) w).1 in omega (arith, a, f, h))
      | inr w ↦ some rows c w (let a = counted s rows in omega (arith, a, h))
    ]

-- a test that passes where another one does, of tuples that are such
pub no-two-weaker : (P : List Cell → Type 0) (t u : Test) (rows : Bag) → ((c : List Cell) → occurs c rows ≡ true → P c) → ((a b : List Cell) → P a → P b → u a b ≡ true → t a b ≡ true) → NoTwo t rows → NoTwo u rows
no-two-weaker P t u [] p f h = tt
no-two-weaker P t u (r ∷ rows) p f h = (
  (λ w. passes-none u r.cells rows (λ c o. turn (u r.cells c) (t r.cells c) (f r.cells c (p r.cells (occurs-here r rows w)) (p c (occurs-more c r rows o))) (apart-from t r rows h.0 w c o))),
  no-two-weaker P t u rows (λ c o. p c (occurs-more c r rows o)) f h.1,
)
  where
    turn : (x y : Bool) → (x ≡ true → y ≡ true) → y ≡ false → x ≡ false
    turn true y g e = absurd (let k : true ≡ false = sym (g refl) ∙ e in let z : ⊥ = cc in z)
    turn false y g e = refl

occurs-append : (c : List Cell) (xs ys : Bag) → occurs c (xs ++ ys) ≡ true → (occurs c xs || occurs c ys) ≡ true
occurs-append c [] ys h = h
occurs-append c (x ∷ xs) ys h = elim (or_cases (same_cells x.cells c && is_there x) (occurs c (xs ++ ys)) h) [
  | inl w ↦ or_left (occurs c (x ∷ xs)) (occurs c ys) (or_left (same_cells x.cells c && is_there x) (occurs c xs) w)
  | inr w ↦ elim (or_cases (occurs c xs) (occurs c ys) (occurs-append c xs ys w)) [
    | inl v ↦ or_left (occurs c (x ∷ xs)) (occurs c ys) (occurs-more c x xs v)
    | inr v ↦ or_right (occurs c (x ∷ xs)) (occurs c ys) v
  ]
]

no-two-append : (t : Test) (xs ys : Bag) → NoTwo t xs → NoTwo t ys → ((a : List Cell) → occurs a xs ≡ true → Apart t a ys) → NoTwo t (xs ++ ys)
no-two-append t [] ys h k f = k
no-two-append t (x ∷ xs) ys h k f = (
  (λ w. passes-none t x.cells (xs ++ ys) (λ c o. elim (or_cases (occurs c xs) (occurs c ys) (occurs-append c xs ys o)) [
    | inl v ↦ apart-from t x xs h.0 w c v
    | inr v ↦ f x.cells (occurs-here x xs w) c v
  ])),
  no-two-append t xs ys h.1 k (λ a o. f a (occurs-more a x xs o)),
)

occurs-kept : (l : Level) (c : List Cell) (rows : Bag) → occurs c (keep l rows) ≡ true → (there_at l ≡ true) × (occurs c rows ≡ true)
occurs-kept l c [] o = absurd (let z : ⊥ = cc in z)
occurs-kept l c (r ∷ rows) o = elim (or_cases (same_cells r.cells c && is_there (row r.cells (least l r.level))) (occurs c (keep l rows)) o) [
  | inl w ↦ (
      let p = and_parts (same_cells r.cells c) (is_there (row r.cells (least l r.level))) w in let k = there-kept l r p.1 in
      (k.0, or_left (same_cells r.cells c && is_there r) (occurs c rows) (and_from (same_cells r.cells c) (is_there r) p.0 k.1))
      )
  | inr w ↦ (let i = occurs-kept l c rows w in (i.0, occurs-more c r rows i.1))
]

no-two-keep : (t : Test) (l : Level) (rows : Bag) → NoTwo t rows → NoTwo t (keep l rows)
no-two-keep t l [] h = tt
no-two-keep t l (r ∷ rows) h = (
  (λ w. passes-none t r.cells (keep l rows) (λ c o. apart-from t r rows h.0 (there-kept l r w).1 c (occurs-kept l c rows o).1)),
  no-two-keep t l rows h.1,
)

-- a tuple of what is bound
pub occurs-bind : (xs : Bag) (f : List Cell → Bag) (c : List Cell) → occurs c (bind xs f) ≡ true → (a : List Cell) × ((occurs a xs ≡ true) × (occurs c (f a) ≡ true))
occurs-bind [] f c o = absurd (let z : ⊥ = cc in z)
occurs-bind (x ∷ xs) f c o = elim (or_cases (occurs c (keep x.level (f x.cells))) (occurs c (bind xs f)) (occurs-append c (keep x.level (f x.cells)) (bind xs f) o)) [
  | inl w ↦ (let k = occurs-kept x.level c (f x.cells) w in (x.cells, (occurs-here x xs (there-is x.cells x.level ∙ k.0), k.1)))
  | inr w ↦ (let i = occurs-bind xs f c w in (i.0, (occurs-more i.0 x xs i.1.0, i.1.1)))
]

-- where tuples that pass come of tuples that pass another test
pub no-two-bind : (t u : Test) (xs : Bag) (f : List Cell → Bag) → NoTwo u xs → ((a : List Cell) → occurs a xs ≡ true → NoTwo t (f a))
    → ((a b c d : List Cell) → occurs a xs ≡ true → occurs b xs ≡ true → occurs c (f a) ≡ true → occurs d (f b) ≡ true → t c d ≡ true → u a b ≡ true) → NoTwo t (bind xs f)
no-two-bind t u [] f h k g = tt
no-two-bind t u (x ∷ xs) f h k g =
    no-two-append t (keep x.level (f x.cells)) (bind xs f) (at x.level refl)
    (no-two-bind t u xs f h.1 (λ a o. k a (occurs-more a x xs o)) (λ a b c d o w. g a b c d (occurs-more a x xs o) (occurs-more b x xs w)))
    (λ c o d w.
    let e = occurs-kept x.level c (f x.cells) o in let b = occurs-bind xs f d w in
    let there : is_there x ≡ true = there-is x.cells x.level ∙ e.0 in
    turn (t c d) (u x.cells b.0) (g x.cells b.0 c d (occurs-here x xs there) (occurs-more b.0 x xs b.1.0) e.1 b.1.1) (apart-from u x xs h.0 there b.0 b.1.0))
  where
    turn : (y z : Bool) → (y ≡ true → z ≡ true) → z ≡ false → y ≡ false
    turn true z g e = absurd (let k : true ≡ false = sym (g refl) ∙ e in let w : ⊥ = cc in w)
    turn false z g e = refl

    kept-no : (rows : Bag) → NoTwo t (keep No rows)
    kept-no [] = tt
    kept-no (r ∷ rows) = ((λ w. absurd (let k = there-kept No r w in let z : ⊥ = cc in z)), kept-no rows)

    at : (l : Level) → x.level ≡ l → NoTwo t (keep x.level (f x.cells))
    at No e = subst (λ (m : Level). NoTwo t (keep m (f x.cells))) (sym e) (kept-no (f x.cells))
    at Cardinality e = no-two-keep t x.level (f x.cells) (k x.cells (occurs-here x xs (there-is x.cells x.level ∙ ap there_at e)))
    at Division e = no-two-keep t x.level (f x.cells) (k x.cells (occurs-here x xs (there-is x.cells x.level ∙ ap there_at e)))
    at Overflow e = no-two-keep t x.level (f x.cells) (k x.cells (occurs-here x xs (there-is x.cells x.level ∙ ap there_at e)))
    at Yes e = no-two-keep t x.level (f x.cells) (k x.cells (occurs-here x xs (there-is x.cells x.level ∙ ap there_at e)))

-- ---- each tuple once

multiple-absent : (c : List Cell) (xs : Bag) → multiplicity same_cells c xs ≡ 0 → occurs c xs ≡ false
multiple-absent c [] h = refl
multiple-absent c (x ∷ xs) h = at x.level refl (λ k. multiple-absent c xs k) h
  where
    one : (l : Level) (b : Bool) → same_cells x.cells c ≡ b → (multiplicity same_cells c xs ≡ 0 → occurs c xs ≡ false) → cond b 1 0 + multiplicity same_cells c xs ≡ 0 → ((b && true) || occurs c xs) ≡ false
    one l true w i h = absurd (let z : ⊥ = omega (arith, h) in z)
    one l false w i h = i (omega (arith, h))

    at : (l : Level) → x.level ≡ l → (multiplicity same_cells c xs ≡ 0 → occurs c xs ≡ false) → if_there 0 (λ k l. cond (same_cells k c) 1 0) x.cells l + multiplicity same_cells c xs ≡ 0
        → ((same_cells x.cells c && if_there false (λ (c : List Cell) (m : Level). true) x.cells l) || occurs c xs) ≡ false
    at No e i h = ap (λ b. b || occurs c xs) (and-no (same_cells x.cells c)) ∙ i (omega (arith, h))
      where
        and-no : (b : Bool) → (b && false) ≡ false
        and-no true = refl
        and-no false = refl
    at Cardinality e i h = one Cardinality (same_cells x.cells c) refl i h
    at Division e i h = one Division (same_cells x.cells c) refl i h
    at Overflow e i h = one Overflow (same_cells x.cells c) refl i h
    at Yes e i h = one Yes (same_cells x.cells c) refl i h

-- any test that fails with itself aside: the tuples of each once are those of a part of the rows
pub no-two-once : (t : Test) (xs : Bag) → NoTwo t xs → NoTwo t (once same_cells xs)
no-two-once t [] h = tt
no-two-once t (x ∷ xs) h = at x.level refl (no-two-once t xs h.1)
  where
    one : (b : Bool) → is_there x ≡ true → NoTwo t (once same_cells xs) → NoTwo t (cond b (unit x.cells) [] ++ once same_cells xs)
    one true w i = ((λ _. passes-none t x.cells (once same_cells xs) (λ c o. apart-from t x xs h.0 w c (occurs-once c xs o))), i)
    one false w i = i

    at : (l : Level) → x.level ≡ l → NoTwo t (once same_cells xs) → NoTwo t (if_there [] (λ c l. cond (nat_eq (multiplicity same_cells c xs) 0) (unit c) []) x.cells l ++ once same_cells xs)
    at No e i = i
    at Cardinality e i = one (nat_eq (multiplicity same_cells x.cells xs) 0) (there-is x.cells x.level ∙ ap there_at e) i
    at Division e i = one (nat_eq (multiplicity same_cells x.cells xs) 0) (there-is x.cells x.level ∙ ap there_at e) i
    at Overflow e i = one (nat_eq (multiplicity same_cells x.cells xs) 0) (there-is x.cells x.level ∙ ap there_at e) i
    at Yes e i = one (nat_eq (multiplicity same_cells x.cells xs) 0) (there-is x.cells x.level ∙ ap there_at e) i

-- no two of them are equal
pub once-apart : (xs : Bag) → NoTwo same_cells (once same_cells xs)
once-apart [] = tt
once-apart (x ∷ xs) = at x.level (once-apart xs)
  where
    one : (b : Bool) → nat_eq (multiplicity same_cells x.cells xs) 0 ≡ b → NoTwo same_cells (once same_cells xs) → NoTwo same_cells (cond b (unit x.cells) [] ++ once same_cells xs)
    one true e i = ((λ _. passes-none same_cells x.cells (once same_cells xs) (λ c o. other c (occurs-once c xs o))), i)
      where
        other : (c : List Cell) → occurs c xs ≡ true → same_cells x.cells c ≡ false
        other c o = elim (cases_Bool (same_cells x.cells c)) [
          | inl w ↦ absurd (
              let d : x.cells ≡ c = (same_cells-decides x.cells c).0 w in
              let a = multiple-absent x.cells xs (eqb-true (multiplicity same_cells x.cells xs) 0 e) in
              let k : true ≡ false = sym (subst (λ c. occurs c xs ≡ true) (sym d) o) ∙ a in let z : ⊥ = cc in z
              )
          | inr w ↦ w
        ]
    one false e i = i

    at : (l : Level) → NoTwo same_cells (once same_cells xs) → NoTwo same_cells (if_there [] (λ c l. cond (nat_eq (multiplicity same_cells c xs) 0) (unit c) []) x.cells l ++ once same_cells xs)
    at No i = i
    at Cardinality i = one (nat_eq (multiplicity same_cells x.cells xs) 0) refl i
    at Division i = one (nat_eq (multiplicity same_cells x.cells xs) 0) refl i
    at Overflow i = one (nat_eq (multiplicity same_cells x.cells xs) 0) refl i
    at Yes i = one (nat_eq (multiplicity same_cells x.cells xs) 0) refl i

only-row : (c d : List Cell) (l : Level) → occurs d (row c l ∷ []) ≡ true → c ≡ d
only-row c d l o = elim (or_cases (same_cells c d && is_there (row c l)) false o) [
  | inl w ↦ (same_cells-decides c d).0 (and_parts (same_cells c d) (is_there (row c l)) w).0
  | inr w ↦ absurd (let z : ⊥ = cc in z)
]

one-two : (t : Test) (c : List Cell) (l : Level) → NoTwo t (row c l ∷ [])
one-two t c l = ((λ w. refl), tt)

-- through DISTINCT
pub no-two-distinct : (t : Test) (xs : Bag) → NoTwo t (once same_cells xs) → NoTwo t (distinct same_cells xs)
no-two-distinct t xs h =
    no-two-bind t t (once same_cells xs) (λ c. row c (level_in same_cells c xs) ∷ []) h (λ a o. one-two t a (level_in same_cells a xs))
    (λ a b c d o w u v p. subst (λ a. t a b ≡ true) (sym (only-row a c (level_in same_cells a xs) u)) (subst (λ b. t c b ≡ true) (sym (only-row b d (level_in same_cells b xs) v)) p))

-- at most one copy of each
pub no-two-copies : (t : Test) (n : List Cell → ℕ) (xs : Bag) → ((c : List Cell) → n c ≤ 1) → NoTwo t (once same_cells xs) → NoTwo t (bind (once same_cells xs) (λ c. copies (n c) c))
no-two-copies t n xs few h =
    no-two-bind t t (once same_cells xs) (λ c. copies (n c) c) h (λ a o. copied (n a) a (few a))
    (λ a b c d o w u v p. subst (λ a. t a b ≡ true) (sym (only-copy (n a) a c u)) (subst (λ b. t c b ≡ true) (sym (only-copy (n b) b d v)) p))
  where
    copied : (m : ℕ) (c : List Cell) → m ≤ 1 → NoTwo t (copies m c)
    copied zero c h = tt
    copied (suc zero) c h = one-two t c Yes
    copied (suc (suc m)) c h = absurd (let z : ⊥ = omega (arith, h) in z)

    only-copy : (m : ℕ) (c d : List Cell) → occurs d (copies m c) ≡ true → c ≡ d
    only-copy zero c d o = absurd (let z : ⊥ = cc in z)
    only-copy (suc m) c d o = elim (or_cases (same_cells c d && true) (occurs d (copies m c)) o) [
      | inl w ↦ (same_cells-decides c d).0 (and_parts (same_cells c d) true w).0
      | inr w ↦ only-copy m c d w
    ]
