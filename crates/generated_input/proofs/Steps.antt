-- One row more.
use Rattle.std.proofs.Common.{◌≡◌, refl, ℕ, ◌+◌, ◌*◌, List, [], ◌∷◌, ◌++◌, ap, sym, ◌∙◌, arith, add-one}
use Rattle.row_bag.specs.declared.row.Row.{Row}
use Rattle.sql_value.specs.declared.cell.Cell.{Cell}
use Rattle.generated_input.specs.Made.{dept, dept_of, drawn, emp, emp_of, next, number, rows_at}

pub number-none : (seed : ℕ) → number seed 0 ≡ seed
unfolding number
number-none seed = refl

number-more : (seed n : ℕ) → number seed (n + 1) ≡ next (number seed n)
unfolding number
number-more seed n = ap (number seed) (add-one n)

pub rows-none : (f : ℕ → Row (List Cell)) → rows_at f 0 ≡ []
unfolding rows_at
rows-none f = refl

rows-more : (f : ℕ → Row (List Cell)) (n : ℕ) → rows_at f (n + 1) ≡ rows_at f n ++ f n ∷ []
unfolding rows_at
rows-more f n = ap (rows_at f) (add-one n)

-- the number behind the one at a place
pub behind : (seed n x y : ℕ) → x ≡ number seed n → y ≡ next x → y ≡ number seed (n + 1)
behind seed n x y h e = e ∙ ap next h ∙ sym (number-more seed n)

row-more : (f : ℕ → Row (List Cell)) (i : ℕ) (bag new : List (Row (List Cell))) (r : Row (List Cell)) → bag ≡ rows_at f i → r ≡ f i → new ≡ bag ++ r ∷ [] → new ≡ rows_at f (i + 1)
row-more f i bag new r b e n = n ∙ ap (λ (rs : List (Row (List Cell))). rs ++ r ∷ []) b ∙ ap (λ (s : Row (List Cell)). rows_at f i ++ s ∷ []) e ∙ sym (rows-more f i)

module _ (seed i : ℕ) where
  pub dept-last : (last x y : ℕ) → last ≡ number seed (2 * i) → x ≡ next last → y ≡ next x → y ≡ number seed (2 * (i + 1))
  dept-last last x y l a b =
      let z : 2 * i + 1 + 1 ≡ 2 * (i + 1) = omega arith in
      behind seed (2 * i + 1) x y (behind seed (2 * i) last x l a) b ∙ ap (number seed) z

  pub dept-more : (last x y : ℕ) (bag new : List (Row (List Cell))) (r : Row (List Cell)) → bag ≡ rows_at (dept seed) i → last ≡ number seed (2 * i) → x ≡ next last → y ≡ next x
      → r ≡ dept_of i (drawn x) (drawn y) → new ≡ bag ++ r ∷ [] → new ≡ rows_at (dept seed) (i + 1)
  dept-more last x y bag new r g l a b e n =
      let p : x ≡ number seed (2 * i + 1) = behind seed (2 * i) last x l a in
      let q : y ≡ number seed (2 * i + 1 + 1) = behind seed (2 * i + 1) x y p b in
      row-more (dept seed) i bag new r g (e ∙ ap (λ (t : ℕ). dept_of i (drawn t) (drawn y)) p ∙ ap (λ (t : ℕ). dept_of i (drawn (number seed (2 * i + 1))) (drawn t)) q) n

module _ (seed d i : ℕ) where
  emp-third : (last x y z : ℕ) → last ≡ number seed (2 * d + 3 * i) → x ≡ next last → y ≡ next x → z ≡ next y → z ≡ number seed (2 * d + 3 * i + 1 + 1 + 1)
  emp-third last x y z l a b c = behind seed (2 * d + 3 * i + 1 + 1) y z (behind seed (2 * d + 3 * i + 1) x y (behind seed (2 * d + 3 * i) last x l a) b) c

  pub emp-last : (last x y z : ℕ) → last ≡ number seed (2 * d + 3 * i) → x ≡ next last → y ≡ next x → z ≡ next y → z ≡ number seed (2 * d + 3 * (i + 1))
  emp-last last x y z l a b c =
      let k : 2 * d + 3 * i + 1 + 1 + 1 ≡ 2 * d + 3 * (i + 1) = omega arith in
      emp-third last x y z l a b c ∙ ap (number seed) k

  pub emp-more : (last x y z : ℕ) (bag new : List (Row (List Cell))) (r : Row (List Cell)) → bag ≡ rows_at (emp seed d) i → last ≡ number seed (2 * d + 3 * i) → x ≡ next last → y ≡ next x → z ≡ next y
      → r ≡ emp_of d i (drawn x) (drawn y) (drawn z) → new ≡ bag ++ r ∷ [] → new ≡ rows_at (emp seed d) (i + 1)
  emp-more last x y z bag new r g l a b c e n =
      let p : x ≡ number seed (2 * d + 3 * i + 1) = behind seed (2 * d + 3 * i) last x l a in
      let q : y ≡ number seed (2 * d + 3 * i + 1 + 1) = behind seed (2 * d + 3 * i + 1) x y p b in
      let k : 2 * d + 3 * i + 1 + 1 + 1 ≡ 2 * d + 3 * i + 2 + 1 = omega arith in
      let s : z ≡ number seed (2 * d + 3 * i + 2 + 1) = emp-third last x y z l a b c ∙ ap (number seed) k in
      row-more (emp seed d) i bag new r g
      (e
      ∙ ap (λ (t : ℕ). emp_of d i (drawn t) (drawn y) (drawn z)) p
      ∙ ap (λ (t : ℕ). emp_of d i (drawn (number seed (2 * d + 3 * i + 1))) (drawn t) (drawn z)) q
      ∙ ap (λ (t : ℕ). emp_of d i (drawn (number seed (2 * d + 3 * i + 1))) (drawn (number seed (2 * d + 3 * i + 1 + 1))) (drawn t)) s)
      n
