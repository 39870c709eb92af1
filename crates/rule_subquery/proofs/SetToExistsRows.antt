-- U4: rows that stand in another bag too, or don't.
use Rattle.std.proofs.Common.{ℕ, suc, ◌≡◌, ◌&&◌, ◌||◌, ◌+◌, ◌-◌, ◌≤◌, min, cond, Bool, true, false, List, [], ◌∷◌, ◌++◌, length, Option, Some, None, refl, sym, ap, ap₂, subst, ◌∙◌, inl, inr, arith}
use Rattle.std.specs.List.{list_any}
use Rattle.std.specs.Ordering.{is_eq, ordering_then}
use Rattle.std.specs.declared.cmp.Ordering.{Ordering}
use Rattle.std.specs.declared.cmp.Ordering.TheVariants.{Less, Equal, Greater}
use Rattle.std.specs.Cmp.Lexicographic.{slice_cmp}
use Rattle.std.proofs.lemmas.Bool.{and_from, and_parts, cases_Bool, not-true, or_cases, or_left, or_parts, or_right}
use Rattle.std.proofs.Common as p
use Rattle.sql_value.specs.Cells.{cell_compare, error_of, worst_of}
use Rattle.sql_value.specs.declared.cell.Cell.{Cell}
use Rattle.sql_value.specs.declared.cell.Kind.{Kind}
use Rattle.sql_value.specs.declared.level.Level.{Level}
use Rattle.sql_value.specs.declared.level.Level.TheVariants.{No, Cardinality, Division, Overflow, Yes}
use Rattle.sql_value.specs.declared.truth.Truth.{Truth}
use Rattle.sql_value.specs.Comparison as c
use Rattle.sql_value.specs.Truths as t
use Rattle.row_bag.specs.AsSets.{is_clean, is_decided}
use Rattle.row_bag.specs.Bags.{Alike, bind, if_there, keep, unit}
use Rattle.row_bag.specs.Errors.{error_among, error_at, error_in}
use Rattle.row_bag.specs.Filters.{passing}
use Rattle.row_bag.specs.Order.{cell_of}
use Rattle.row_bag.specs.Sets.{copies, distinct, except, intersect, multiplicity, once, same_cells}
use Rattle.row_bag.specs.Subqueries.{presence}
use Rattle.row_bag.specs.Verdict.{is_there}
use Rattle.row_bag.specs.declared.row.Row.{Row}
use Rattle.row_bag.proofs.Agreement.{alike-bind, alike-keep_no, alike-same, alike-sym, alike-trans}
use Rattle.row_bag.proofs.Counts.{alike-from_agree}
use Rattle.row_bag.proofs.Filtering.{passing-distinct}
use Rattle.row_bag.proofs.Setting.{set-agreement}
use Rattle.row_bag.proofs.TupleBags.{same_cells-decides}
use Rattle.row_bag.specs.Subqueries as subquery
use Rattle.qgm_terms.specs.Terms.{Cond, anded, and, col, compare, same, some}
use Rattle.qgm_meaning.specs.Laws.{occurs}
use Rattle.qgm_meaning.specs.Values.{Bag, Environment, bound, row_of, truth}
use Rattle.qgm_edit_laws.proofs.AllColumns.{length-one}
use Rattle.qgm_edit_laws.specs.SameColumns.{all_same, sames}
use Rattle.list_laws.proofs.Membership.{append-one}
use Rattle.list_laws.proofs.Booleans.{clash}

-- ---- errors

worst-none : (a b : Option Kind) → worst_of a b ≡ None → (a ≡ None) × (b ≡ None)
worst-none (Some j) (Some k) h = absurd (let z : ⊥ = cc in z)
worst-none (Some j) None h = absurd (let z : ⊥ = cc in z)
worst-none None k h = (refl, h)

-- a row without an error
abbrev Fine : Row (List Cell) → Type 0
Fine r = if_there None (λ cells level. worst_of (error_at level) (error_in cells)) r.cells r.level ≡ None

pub each-fine : (r : Row (List Cell)) (rows : Bag) → error_among error_in (r ∷ rows) ≡ None → Fine r × (error_among error_in rows ≡ None)
each-fine r rows h = worst-none (if_there None (λ cells level. worst_of (error_at level) (error_in cells)) r.cells r.level) (error_among error_in rows) h

pub both-fine : (xs ys : Bag) → error_among error_in (xs ++ ys) ≡ None → (error_among error_in xs ≡ None) × (error_among error_in ys ≡ None)
both-fine [] ys h = (refl, h)
both-fine (x ∷ xs) ys h =
    let a = each-fine x (xs ++ ys) h in
    let b = both-fine xs ys a.1 in
    (ap₂ worst_of a.0 b.0, b.1)

fine-decided : (l : Level) (cells : List Cell) → if_there None (λ cells level. worst_of (error_at level) (error_in cells)) cells l ≡ None → is_decided l ≡ true
fine-decided No cells h = refl
fine-decided Cardinality cells h = absurd (let a = worst-none (error_at Cardinality) (error_in cells) h in let z : ⊥ = (let y = a.0 in cc) in z)
fine-decided Division cells h = absurd (let a = worst-none (error_at Division) (error_in cells) h in let z : ⊥ = (let y = a.0 in cc) in z)
fine-decided Overflow cells h = absurd (let a = worst-none (error_at Overflow) (error_in cells) h in let z : ⊥ = (let y = a.0 in cc) in z)
fine-decided Yes cells h = refl

pub clean-of : (rows : Bag) → error_among error_in rows ≡ None → is_clean rows ≡ true
clean-of [] h = refl
clean-of (r ∷ rows) h = let a = each-fine r rows h in and_from (is_decided r.level) (is_clean rows) (fine-decided r.level r.cells a.0) (clean-of rows a.1)

fine-cells : (l : Level) (cells : List Cell) → if_there None (λ cells level. worst_of (error_at level) (error_in cells)) cells l ≡ None → if_there false (λ cells level. true) cells l ≡ true → error_in cells ≡ None
fine-cells No cells h t = absurd (let z : ⊥ = cc in z)
fine-cells Cardinality cells h t = (worst-none (error_at Cardinality) (error_in cells) h).1
fine-cells Division cells h t = (worst-none (error_at Division) (error_in cells) h).1
fine-cells Overflow cells h t = (worst-none (error_at Overflow) (error_in cells) h).1
fine-cells Yes cells h t = h

pub cells-fine : (rows : Bag) → error_among error_in rows ≡ None → (cells : List Cell) → occurs cells rows ≡ true → error_in cells ≡ None
cells-fine [] h cells o = absurd (let z : ⊥ = cc in z)
cells-fine (r ∷ rows) h cells o =
    let a = each-fine r rows h in
    elim (or_cases (same_cells r.cells cells && is_there r) (occurs cells rows) o) [
      | inl i ↦ (
          let b = and_parts (same_cells r.cells cells) (is_there r) i in
          subst (λ z. error_in z ≡ None) ((same_cells-decides r.cells cells).0 b.0) (fine-cells r.level r.cells a.0 b.1))
      | inr i ↦ cells-fine rows a.1 cells i
    ]

-- ---- two rows, column by column

then-eq : (a b : Ordering) → is_eq (ordering_then a b) ≡ (is_eq a && is_eq b)
then-eq Less b = refl
then-eq Equal b = refl
then-eq Greater b = refl

cells-eq : (x y : Cell) (xs ys : List Cell) → same_cells (x ∷ xs) (y ∷ ys) ≡ (is_eq (cell_compare x y) && same_cells xs ys)
cells-eq x y xs ys = then-eq (cell_compare x y) (slice_cmp cell_compare xs ys)

cell-behind : (pre : List Cell) (x : Cell) (xs : List Cell) → cell_of (suc (length pre)) (pre ++ x ∷ xs) ≡ x
cell-behind [] x xs = refl
cell-behind (y ∷ pre) x xs = cell-behind pre x xs

and-truth : (a b : Bool) → t.and (t.truth_of a) (t.truth_of b) ≡ t.truth_of (a && b)
and-truth true true = refl
and-truth true false = refl
and-truth false true = refl
and-truth false false = refl

same-truth : (x y : Cell) → error_of x ≡ None → error_of y ≡ None → c.same x y ≡ t.truth_of (is_eq (cell_compare x y))
same-truth x y h k = ap (λ o. t.error_or o (t.truth_of (is_eq (cell_compare x y)))) (ap₂ worst_of h k)

module _ (rows : ℕ → Bag) (e : Environment) (l r : ℕ) where
  one-column : (x y : Cell) (xs ys pre1 pre2 : List Cell) → row_of l e ≡ pre1 ++ x ∷ xs → row_of r e ≡ pre2 ++ y ∷ ys → length pre1 ≡ length pre2 → error_of x ≡ None → error_of y ≡ None
      → truth rows (compare same (col l (suc (length pre1))) (col r (suc (length pre1)))) e ≡ t.truth_of (is_eq (cell_compare x y))
  one-column x y xs ys pre1 pre2 a b n h k =
      ap₂ c.same (ap (cell_of (suc (length pre1))) a ∙ cell-behind pre1 x xs) (ap (λ z. cell_of (suc z) (row_of r e)) n ∙ ap (cell_of (suc (length pre2))) b ∙ cell-behind pre2 y ys) ∙ same-truth x y h k

  nested : (q : Cond) (b : Bool) → truth rows q e ≡ t.truth_of b → (xs ys pre1 pre2 : List Cell) → row_of l e ≡ pre1 ++ xs → row_of r e ≡ pre2 ++ ys → length pre1 ≡ length pre2 → length xs ≡ length ys → error_in xs ≡ None → error_in ys ≡ None
      → truth rows (anded q (sames l r (suc (length pre1)) (length xs))) e ≡ t.truth_of (b && same_cells xs ys)
  nested q b h [] [] pre1 pre2 a d n m f k = h ∙ ap t.truth_of (sym (and-yes b))
    where
      and-yes : (b : Bool) → (b && true) ≡ b
      and-yes true = refl
      and-yes false = refl
  nested q b h [] (y ∷ ys) pre1 pre2 a d n m f k = absurd (omega (arith, m))
  nested q b h (x ∷ xs) [] pre1 pre2 a d n m f k = absurd (omega (arith, m))
  nested q b h (x ∷ xs) (y ∷ ys) pre1 pre2 a d n m f k =
      let fx = worst-none (error_of x) (error_in xs) f in
      let fy = worst-none (error_of y) (error_in ys) k in
      let here = one-column x y xs ys pre1 pre2 a d n fx.0 fy.0 in
      let both : truth rows (and q (compare same (col l (suc (length pre1))) (col r (suc (length pre1))))) e ≡ t.truth_of (b && is_eq (cell_compare x y)) = ap₂ t.and h here ∙ and-truth b (is_eq (cell_compare x y)) in
      let more = nested (and q (compare same (col l (suc (length pre1))) (col r (suc (length pre1))))) (b && is_eq (cell_compare x y)) both xs ys (pre1 ++ x ∷ []) (pre2 ++ y ∷ [])
      (a ∙ sym (append-one pre1 x xs)) (d ∙ sym (append-one pre2 y ys)) (length-one pre1 x ∙ ap suc n ∙ sym (length-one pre2 y)) (let z = m in omega (arith, z)) fx.1 fy.1 in
      subst (λ z. truth rows (anded (and q (compare same (col l (suc (length pre1))) (col r (suc (length pre1))))) (sames l r (suc z) (length xs))) e ≡ t.truth_of ((b && is_eq (cell_compare x y)) && same_cells xs ys)) (length-one pre1 x) more
      ∙ ap t.truth_of (assoc b (is_eq (cell_compare x y)) (same_cells xs ys) ∙ ap (λ z. b && z) (sym (cells-eq x y xs ys)))
    where
      assoc : (a b c : Bool) → ((a && b) && c) ≡ (a && (b && c))
      assoc true b c = refl
      assoc false b c = refl

  pub all-same : (xs ys : List Cell) → row_of l e ≡ xs → row_of r e ≡ ys → length xs ≡ length ys → error_in xs ≡ None → error_in ys ≡ None → truth rows (all_same l r (length xs)) e ≡ t.truth_of (same_cells xs ys)
  all-same [] [] a d m f k = refl
  all-same [] (y ∷ ys) a d m f k = absurd (omega (arith, m))
  all-same (x ∷ xs) [] a d m f k = absurd (omega (arith, m))
  all-same (x ∷ xs) (y ∷ ys) a d m f k =
      let fx = worst-none (error_of x) (error_in xs) f in
      let fy = worst-none (error_of y) (error_in ys) k in
      nested (compare same (col l 1) (col r 1)) (is_eq (cell_compare x y)) (one-column x y xs ys [] [] a d refl fx.0 fy.0) xs ys (x ∷ []) (y ∷ []) a d refl (let z = m in omega (arith, z)) fx.1 fy.1
      ∙ ap t.truth_of (sym (cells-eq x y xs ys))

-- ---- some row

-- a row of these cells is there
abbrev pub stands_in : List Cell → Bag → Bool
stands_in a rows = list_any (λ r. is_there r && same_cells a r.cells) rows

some-truth : (test : List Cell → Truth) (a : List Cell) (rows : Bag) → is_clean rows ≡ true → ((cells : List Cell) → occurs cells rows ≡ true → test cells ≡ t.truth_of (same_cells a cells)) → subquery.some test rows ≡ t.truth_of (stands_in a rows)
some-truth test a [] c h = refl
some-truth test a (r ∷ rows) c h =
    let d = and_parts (is_decided r.level) (is_clean rows) c in
    ap₂ t.or (at r.level refl d.0) (some-truth test a rows d.1 (λ cells o. h cells (or_right (same_cells r.cells cells && is_there r) (occurs cells rows) o)))
    ∙ or-truth (is_there r && same_cells a r.cells) (stands_in a rows)
  where
    or-truth : (a b : Bool) → t.or (t.truth_of a) (t.truth_of b) ≡ t.truth_of (a || b)
    or-truth true true = refl
    or-truth true false = refl
    or-truth false true = refl
    or-truth false false = refl

    yes-truth : (b : Bool) → t.and (t.truth_of true) (t.truth_of b) ≡ t.truth_of b
    yes-truth true = refl
    yes-truth false = refl

    there : if_there false (λ cells level. true) r.cells r.level ≡ true → test r.cells ≡ t.truth_of (same_cells a r.cells)
    there k = h r.cells (or_left (same_cells r.cells r.cells && is_there r) (occurs r.cells rows) (and_from (same_cells r.cells r.cells) (is_there r) ((same_cells-decides r.cells r.cells).1 refl) k))

    at : (l : Level) → r.level ≡ l → is_decided r.level ≡ true → if_there (t.truth_of false) (λ cells level. t.and (presence level) (test cells)) r.cells r.level ≡ t.truth_of (is_there r && same_cells a r.cells)
    at No e d = ap (if_there (t.truth_of false) (λ cells level. t.and (presence level) (test cells)) r.cells) e ∙ sym (ap (λ l. t.truth_of (if_there false (λ cells level. true) r.cells l && same_cells a r.cells)) e)
    at Cardinality e d = absurd (let x : is_decided r.level ≡ false = ap is_decided e in let z : ⊥ = cc in z)
    at Division e d = absurd (let x : is_decided r.level ≡ false = ap is_decided e in let z : ⊥ = cc in z)
    at Overflow e d = absurd (let x : is_decided r.level ≡ false = ap is_decided e in let z : ⊥ = cc in z)
    at Yes e d = ap (if_there (t.truth_of false) (λ cells level. t.and (presence level) (test cells)) r.cells) e ∙ ap (t.and (t.truth_of true)) (there (ap (if_there false (λ cells level. true) r.cells) e)) ∙ yes-truth (same_cells a r.cells)
        ∙ sym (ap (λ l. t.truth_of (if_there false (λ cells level. true) r.cells l && same_cells a r.cells)) e)

pub some-same : (rows : ℕ → Bag) (e : Environment) (r : ℕ) (q : Cond) (a : List Cell) → is_clean (rows r) ≡ true
    → ((cells : List Cell) → occurs cells (rows r) ≡ true → truth rows q (bound r cells e) ≡ t.truth_of (same_cells a cells)) → truth rows (some r q) e ≡ t.truth_of (stands_in a (rows r))
some-same rows e r q a c h = some-truth (λ cells. truth rows q (bound r cells e)) a (rows r) c h

-- ---- how often it stands there

stands-none : (a : List Cell) (rows : Bag) → stands_in a rows ≡ false → multiplicity same_cells a rows ≡ 0
stands-none a [] h = refl
stands-none a (r ∷ rows) h =
    let d = or_parts (is_there r && same_cells a r.cells) (stands_in a rows) h in
    let m = stands-none a rows d.1 in
    let k : if_there 0 (λ (k : List Cell) (level : Level). cond {A = ℕ} (same_cells k a) 1 0) r.cells r.level ≡ 0 = by r.level refl d.0 in omega (arith, m, k)
  where
    turn : same_cells a r.cells ≡ false → same_cells r.cells a ≡ false
    turn f = elim (cases_Bool (same_cells r.cells a)) [ inr z ↦ z | inl y ↦ absurd (clash (same_cells a r.cells) ((same_cells-decides a r.cells).1 (sym ((same_cells-decides r.cells a).0 y))) f) ]

    there : (l : Level) → if_there false (λ (cells : List Cell) (level : Level). true) r.cells l ≡ true → r.level ≡ l → (is_there r && same_cells a r.cells) ≡ false → same_cells r.cells a ≡ false
    there l k e f = turn (sym (ap (λ z. z && same_cells a r.cells) (ap (if_there false (λ (cells : List Cell) (level : Level). true) r.cells) e ∙ k)) ∙ f)

    by : (l : Level) → r.level ≡ l → (is_there r && same_cells a r.cells) ≡ false → if_there 0 (λ (k : List Cell) (level : Level). cond {A = ℕ} (same_cells k a) 1 0) r.cells r.level ≡ 0
    by No e f = ap (if_there 0 (λ (k : List Cell) (level : Level). cond {A = ℕ} (same_cells k a) 1 0) r.cells) e
    by Cardinality e f = ap (if_there 0 (λ (k : List Cell) (level : Level). cond {A = ℕ} (same_cells k a) 1 0) r.cells) e ∙ ap (λ (b : Bool). cond {A = ℕ} b 1 0) (there Cardinality refl e f)
    by Division e f = ap (if_there 0 (λ (k : List Cell) (level : Level). cond {A = ℕ} (same_cells k a) 1 0) r.cells) e ∙ ap (λ (b : Bool). cond {A = ℕ} b 1 0) (there Division refl e f)
    by Overflow e f = ap (if_there 0 (λ (k : List Cell) (level : Level). cond {A = ℕ} (same_cells k a) 1 0) r.cells) e ∙ ap (λ (b : Bool). cond {A = ℕ} b 1 0) (there Overflow refl e f)
    by Yes e f = ap (if_there 0 (λ (k : List Cell) (level : Level). cond {A = ℕ} (same_cells k a) 1 0) r.cells) e ∙ ap (λ (b : Bool). cond {A = ℕ} b 1 0) (there Yes refl e f)

stands-some : (a : List Cell) (rows : Bag) → stands_in a rows ≡ true → 1 ≤ multiplicity same_cells a rows
stands-some a [] h = absurd (let z : ⊥ = cc in z)
stands-some a (r ∷ rows) h = elim (or_cases (is_there r && same_cells a r.cells) (stands_in a rows) h) [
  | inr k ↦ (let m = stands-some a rows k in omega (arith, m))
  | inl k ↦ (
      let d = and_parts (is_there r) (same_cells a r.cells) k in
      let s : same_cells r.cells a ≡ true = (same_cells-decides r.cells a).1 (sym ((same_cells-decides a r.cells).0 d.1)) in
      let o : if_there 0 (λ (k : List Cell) (level : Level). cond {A = ℕ} (same_cells k a) 1 0) r.cells r.level ≡ 1 = by r.level refl d.0 s in omega (arith, o))
]
  where
    by : (l : Level) → r.level ≡ l → is_there r ≡ true → same_cells r.cells a ≡ true → if_there 0 (λ (k : List Cell) (level : Level). cond {A = ℕ} (same_cells k a) 1 0) r.cells r.level ≡ 1
    by No e f s = absurd (let x : if_there false (λ (cells : List Cell) (level : Level). true) r.cells r.level ≡ false = ap (if_there false (λ (cells : List Cell) (level : Level). true) r.cells) e in let z : ⊥ = cc in z)
    by Cardinality e f s = ap (if_there 0 (λ (k : List Cell) (level : Level). cond {A = ℕ} (same_cells k a) 1 0) r.cells) e ∙ ap (λ (b : Bool). cond {A = ℕ} b 1 0) s
    by Division e f s = ap (if_there 0 (λ (k : List Cell) (level : Level). cond {A = ℕ} (same_cells k a) 1 0) r.cells) e ∙ ap (λ (b : Bool). cond {A = ℕ} b 1 0) s
    by Overflow e f s = ap (if_there 0 (λ (k : List Cell) (level : Level). cond {A = ℕ} (same_cells k a) 1 0) r.cells) e ∙ ap (λ (b : Bool). cond {A = ℕ} b 1 0) s
    by Yes e f s = ap (if_there 0 (λ (k : List Cell) (level : Level). cond {A = ℕ} (same_cells k a) 1 0) r.cells) e ∙ ap (λ (b : Bool). cond {A = ℕ} b 1 0) s

-- ---- the rows that stand there too, and those that don't, each once

abbrev pub level_if : Bool → Level
level_if true = Yes
level_if false = No

kept-copies : (b : Bool) (n : ℕ) (a : List Cell) → (b ≡ true → n ≡ 1) → (b ≡ false → n ≡ 0) → Alike (keep (level_if b) (unit a)) (copies n a)
kept-copies true n a h k = alike-same (ap (λ (n : ℕ). copies n a) (sym (h refl)))
kept-copies false n a h k = alike-trans (alike-keep_no (unit a)) (alike-same (ap (λ (n : ℕ). copies n a) (sym (k refl))))

passed : (level : List Cell → Level) (n : List Cell → ℕ) (xs : Bag) → is_clean xs ≡ true → ((a : List Cell) → Alike (keep (level a) (unit a)) (copies (n a) a)) → Alike (distinct same_cells (passing level xs)) (bind (once same_cells xs) (λ a. copies (n a) a))
passed level n xs c h =
    alike-trans (alike-sym (passing-distinct same_cells same_cells-decides level xs))
    (alike-bind (alike-from_agree same_cells same_cells-decides ((set-agreement same_cells same_cells-decides).at_yes xs c)) h)

pub intersect-rows : (xs ys : Bag) → is_clean xs ≡ true → Alike (distinct same_cells (passing (λ a. level_if (stands_in a ys)) xs)) (intersect same_cells xs ys)
intersect-rows xs ys c = passed (λ a. level_if (stands_in a ys)) (λ a. min 1 (multiplicity same_cells a ys)) xs c (λ a. kept-copies (stands_in a ys) (min 1 (multiplicity same_cells a ys)) a
    (λ t. (let m = stands-some a ys t in omega (arith, m))) (λ f. (let m = stands-none a ys f in omega (arith, m))))

pub except-rows : (xs ys : Bag) → is_clean xs ≡ true → Alike (distinct same_cells (passing (λ a. level_if (p.not (stands_in a ys))) xs)) (except same_cells xs ys)
except-rows xs ys c = passed (λ a. level_if (p.not (stands_in a ys))) (λ a. 1 - multiplicity same_cells a ys) xs c (λ a. kept-copies (p.not (stands_in a ys)) (1 - multiplicity same_cells a ys) a
    (λ t. (let m = stands-none a ys (not-true (stands_in a ys) t) in omega (arith, m)))
    (λ f. (let m = stands-some a ys (not-false (stands_in a ys) f) in omega (arith, m))))
  where
    not-false : (b : Bool) → p.not b ≡ false → b ≡ true
    not-false true h = refl
    not-false false h = absurd (let z : ⊥ = cc in z)
