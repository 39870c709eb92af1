-- Columns that are picked, put in for others, and joined back.
use Rattle.std.specs.Prelude.{⊤}
use Rattle.std.proofs.Common.{ℕ, zero, suc, ◌≡◌, ◌&&◌, ◌+◌, cond, Bool, true, false, List, [], ◌∷◌, ◌++◌, length, get_or, Option, None, refl, sym, ap, ap₂, ◌∙◌, arith}
use Rattle.std.specs.Ordering.{is_eq, ordering_then}
use Rattle.std.specs.declared.cmp.Ordering.{Ordering}
use Rattle.std.specs.declared.cmp.Ordering.TheVariants.{Less, Equal, Greater}
use Rattle.std.specs.Cmp.Lexicographic.{slice_cmp}
use Rattle.sql_value.specs.Cells.{cell_compare, error_of, worst_of}
use Rattle.sql_value.specs.Comparison as c
use Rattle.sql_value.specs.Truths as t
use Rattle.sql_value.specs.declared.cell.Cell.{Cell}
use Rattle.sql_value.specs.declared.cell.Cell.TheVariants.{Null}
use Rattle.sql_value.specs.declared.cell.Kind.{Kind}
use Rattle.sql_value.proofs.Laws.{and-associative}
use Rattle.row_bag.specs.Order.{cell_of}
use Rattle.row_bag.specs.Sets.{same_cells}
use Rattle.qgm_terms.specs.Terms.{Cond, and, col, compare, null_int, same}
use Rattle.qgm_meaning.specs.Values.{Bag, Environment, all_true, head_cells, row_of, truth}
use Rattle.rule_feed.specs.Feed.{all_of, conj, how_many, joins, mask_cells, picked, picks, put_cells, up}
use Rattle.qgm_meaning.proofs.TagJoins.{and-true-right}

-- a row of w columns whose named ones are those of a row from place j on, null elsewhere
abbrev pub spread : (ℕ → Bool) → List Cell → ℕ → ℕ → ℕ → List Cell
spread named row k j zero = []
spread named row k j (suc w) = cond (named k) (cell_of j row ∷ spread named row (suc k) (suc j) w) (Null ∷ spread named row (suc k) j w)

pub head-picked : (named : ℕ → Bool) (rows : ℕ → Bag) (q : ℕ) (e : Environment) (w k : ℕ) → head_cells rows (picked named q k w) e ≡ picks named (row_of q e) k w
head-picked named rows q e zero k = refl
head-picked named rows q e (suc w) k = elim (named k) as (λ b. head_cells rows (cond b (col q k ∷ picked named q (suc k) w) (picked named q (suc k) w)) e ≡ cond b (cell_of k (row_of q e) ∷ picks named (row_of q e) (suc k) w) (picks named (row_of q e) (suc k) w)) [
  | true ↦ ap (λ (cs : List Cell). cell_of k (row_of q e) ∷ cs) (head-picked named rows q e w (suc k))
  | false ↦ head-picked named rows q e w (suc k)
]

pub head-put : (named : ℕ → Bool) (rows : ℕ → Bag) (q : ℕ) (e : Environment) (w k j : ℕ) → head_cells rows (put_cells named q k j w) e ≡ spread named (row_of q e) k j w
head-put named rows q e zero k j = refl
head-put named rows q e (suc w) k j = elim (named k) as (λ b. head_cells rows (cond b (col q j ∷ put_cells named q (suc k) (suc j) w) (null_int ∷ put_cells named q (suc k) j w)) e ≡ cond b (cell_of j (row_of q e) ∷ spread named (row_of q e) (suc k) (suc j) w) (Null ∷ spread named (row_of q e) (suc k) j w)) [
  | true ↦ ap (λ (cs : List Cell). cell_of j (row_of q e) ∷ cs) (head-put named rows q e w (suc k) (suc j))
  | false ↦ ap (λ (cs : List Cell). Null ∷ cs) (head-put named rows q e w (suc k) j)
]

pub length-picks : (named : ℕ → Bool) (row : List Cell) (w k : ℕ) → length (picks named row k w) ≡ how_many named k w
length-picks named row zero k = refl
length-picks named row (suc w) k = elim (named k) as (λ b. length (cond b (cell_of k row ∷ picks named row (suc k) w) (picks named row (suc k) w)) ≡ cond b (suc (how_many named (suc k) w)) (how_many named (suc k) w)) [
  | true ↦ ap suc (length-picks named row w (suc k))
  | false ↦ length-picks named row w (suc k)
]

-- ---- places in a row

pub at-place : (pre : List Cell) (x : Cell) (v : List Cell) → get_or (pre ++ x ∷ v) (length pre) Null ≡ x
at-place [] x v = refl
at-place (y ∷ pre) x v = at-place pre x v

pub append-one : (xs : List Cell) (x : Cell) (ys : List Cell) → (xs ++ x ∷ []) ++ ys ≡ xs ++ x ∷ ys
append-one [] x ys = refl
append-one (z ∷ xs) x ys = ap (λ (t : List Cell). z ∷ t) (append-one xs x ys)

pub length-one : (xs : List Cell) (x : Cell) → length (xs ++ x ∷ []) ≡ suc (length xs)
length-one [] x = refl
length-one (z ∷ xs) x = ap suc (length-one xs x)

-- behind n cells, column k is column n + k
pub cell-behind : (pre : List Cell) (row : List Cell) (k : ℕ) → cell_of (length pre + suc k) (pre ++ row) ≡ cell_of (suc k) row
cell-behind pre row k = ap (λ n. cell_of n (pre ++ row)) (let e : length pre + suc k ≡ suc (length pre + k) = omega arith in e) ∙ behind pre
  where
    behind : (pre : List Cell) → get_or (pre ++ row) (length pre + k) Null ≡ get_or row k Null
    behind [] = ap (λ n. get_or row n Null) (let e : 0 + k ≡ k = omega arith in e)
    behind (x ∷ pre) = ap (λ n. get_or (x ∷ (pre ++ row)) n Null) (let e : suc (length pre) + k ≡ suc (length pre + k) = omega arith in e) ∙ behind pre

-- a column behind others, and that of the row without them
pub cell-up : (pre row : List Cell) (j : ℕ) → cell_of (up (length pre) j) (pre ++ row) ≡ cell_of j row
cell-up pre row zero = refl
cell-up pre row (suc j) = cell-behind pre row j

-- of no row each column is null
pub cell-none : (j : ℕ) → cell_of j [] ≡ Null
cell-none zero = refl
cell-none (suc j) = refl

pub append-none : (xs : List Cell) → xs ++ [] ≡ xs
append-none [] = refl
append-none (x ∷ xs) = ap (λ (z : List Cell). x ∷ z) (append-none xs)

-- a row with nulls where its columns aren't named
abbrev pub masked : (ℕ → Bool) → List Cell → ℕ → ℕ → List Cell
masked named row k zero = []
masked named row k (suc w) = cond (named k) (cell_of k row) Null ∷ masked named row (suc k) w

pub head-mask : (named : ℕ → Bool) (rows : ℕ → Bag) (q : ℕ) (e : Environment) (w k : ℕ) → head_cells rows (mask_cells named q k w) e ≡ masked named (row_of q e) k w
head-mask named rows q e zero k = refl
head-mask named rows q e (suc w) k = ap₂ (λ (x : Cell) (xs : List Cell). x ∷ xs)
    (elim (named k) as (λ b. Rattle.qgm_meaning.specs.Values.value rows (cond b (col q k) null_int) e ≡ cond b (cell_of k (row_of q e)) Null) [ true ↦ refl | false ↦ refl ])
    (head-mask named rows q e w (suc k))

-- what is picked of a row and spread again is so
pub spread-picks : (named : ℕ → Bool) (row rest : List Cell) (w k : ℕ) (pre : List Cell) → spread named (pre ++ (picks named row k w ++ rest)) k (suc (length pre)) w ≡ masked named row k w
spread-picks named row rest zero k pre = refl
spread-picks named row rest (suc w) k pre = elim (named k) as (λ b.
    cond b (cell_of (suc (length pre)) (pre ++ (cond b (cell_of k row ∷ picks named row (suc k) w) (picks named row (suc k) w) ++ rest)) ∷ spread named (pre ++ (cond b (cell_of k row ∷ picks named row (suc k) w) (picks named row (suc k) w) ++ rest)) (suc k) (suc (suc (length pre))) w)
    (Null ∷ spread named (pre ++ (cond b (cell_of k row ∷ picks named row (suc k) w) (picks named row (suc k) w) ++ rest)) (suc k) (suc (length pre)) w)
    ≡ cond b (cell_of k row) Null ∷ masked named row (suc k) w) [
      | true ↦ ap₂ (λ (x : Cell) (xs : List Cell). x ∷ xs) (at-place pre (cell_of k row) (picks named row (suc k) w ++ rest))
          (ap₂ (λ (r : List Cell) (j : ℕ). spread named r (suc k) (suc j) w) (sym (append-one pre (cell_of k row) (picks named row (suc k) w ++ rest))) (sym (length-one pre (cell_of k row)))
          ∙ spread-picks named row rest w (suc k) (pre ++ cell_of k row ∷ []))
      | false ↦ ap (λ (xs : List Cell). Null ∷ xs) (spread-picks named row rest w (suc k) pre)
    ]

pub spread-again : (named : ℕ → Bool) (row : List Cell) (w : ℕ) → spread named (picks named row 1 w) 1 1 w ≡ masked named row 1 w
spread-again named row w = ap (λ (xs : List Cell). spread named xs 1 1 w) (sym (append-none (picks named row 1 w))) ∙ spread-picks named row [] w 1 []

-- ---- joined back

-- none of these cells is an error
abbrev pub Frees : List Cell → Type 0
Frees [] = ⊤
Frees (x ∷ xs) = (error_of x ≡ None) × Frees xs

eq-then : (o p : Ordering) → is_eq (ordering_then o p) ≡ (is_eq o && is_eq p)
eq-then Less p = refl
eq-then Equal p = refl
eq-then Greater p = refl

and-truths : (a b : Bool) → t.and (t.truth_of a) (t.truth_of b) ≡ t.truth_of (a && b)
and-truths true true = refl
and-truths true false = refl
and-truths false true = refl
and-truths false false = refl

same-free : (x y : Cell) → error_of x ≡ None → error_of y ≡ None → c.same x y ≡ t.truth_of (is_eq (cell_compare x y))
same-free x y h k = ap₂ (λ (a b : Option Kind). t.error_or (worst_of a b) (t.truth_of (is_eq (cell_compare x y)))) h k

-- the joins are true exactly where the columns are the same
pub joins-true : (named : ℕ → Bool) (rows : ℕ → Bag) (p i : ℕ) (e : Environment) (row rest : List Cell) (w k : ℕ) (pre us : List Cell) → row_of p e ≡ row → row_of i e ≡ pre ++ (us ++ rest) → length us ≡ how_many named k w
    → Frees (picks named row k w) → Frees us → all_true rows (joins named p i k (suc (length pre)) w) e ≡ t.truth_of (same_cells (picks named row k w) us)
joins-true named rows p i e row rest zero k pre [] a b l f g = refl
joins-true named rows p i e row rest zero k pre (u ∷ us) a b l f g = absurd (let z : ⊥ = omega (arith, l) in z)
joins-true named rows p i e row rest (suc w) k pre us a b l f g = elim (named k) as (λ z.
    length us ≡ cond z (suc (how_many named (suc k) w)) (how_many named (suc k) w) → Frees (cond z (cell_of k row ∷ picks named row (suc k) w) (picks named row (suc k) w))
    → all_true rows (cond z (compare same (col p k) (col i (suc (length pre))) ∷ joins named p i (suc k) (suc (suc (length pre))) w) (joins named p i (suc k) (suc (length pre)) w)) e
    ≡ t.truth_of (same_cells (cond z (cell_of k row ∷ picks named row (suc k) w) (picks named row (suc k) w)) us)) [
      | true ↦ λ l f. more us b l g f (λ pre us b l f g. joins-true named rows p i e row rest w (suc k) pre us a b l f g)
      | false ↦ λ l f. joins-true named rows p i e row rest w (suc k) pre us a b l f g
    ] l f
  where
    more : (us : List Cell) → row_of i e ≡ pre ++ (us ++ rest) → length us ≡ suc (how_many named (suc k) w) → Frees us → Frees (cell_of k row ∷ picks named row (suc k) w)
        → ((pre us : List Cell) → row_of i e ≡ pre ++ (us ++ rest) → length us ≡ how_many named (suc k) w → Frees (picks named row (suc k) w) → Frees us → all_true rows (joins named p i (suc k) (suc (length pre)) w) e ≡ t.truth_of (same_cells (picks named row (suc k) w) us))
        → all_true rows (compare same (col p k) (col i (suc (length pre))) ∷ joins named p i (suc k) (suc (suc (length pre))) w) e ≡ t.truth_of (same_cells (cell_of k row ∷ picks named row (suc k) w) us)
    more [] b l g f rec = absurd (let z : ⊥ = omega (arith, l) in z)
    more (u ∷ us) b l g f rec =
        ap₂ t.and
        (ap₂ c.same (ap (cell_of k) a) (ap (cell_of (suc (length pre))) b ∙ at-place pre u (us ++ rest)) ∙ same-free (cell_of k row) u f.0 g.0)
        (ap (λ j. all_true rows (joins named p i (suc k) (suc j) w) e) (sym (length-one pre u))
        ∙ rec (pre ++ u ∷ []) us (b ∙ sym (append-one pre u (us ++ rest))) (let m : length us ≡ how_many named (suc k) w = omega (arith, l) in m) f.1 g.1)
        ∙ and-truths (is_eq (cell_compare (cell_of k row) u)) (same_cells (picks named row (suc k) w) us)
        ∙ ap t.truth_of (sym (eq-then (cell_compare (cell_of k row) u) (slice_cmp cell_compare (picks named row (suc k) w) us)))

-- they look at the rows of p and i alone
pub joins-framed : (named : ℕ → Bool) (rows rows' : ℕ → Bag) (p i : ℕ) (d e : Environment) (w k j : ℕ) → row_of p d ≡ row_of p e → row_of i d ≡ row_of i e → all_true rows (joins named p i k j w) d ≡ all_true rows' (joins named p i k j w) e
joins-framed named rows rows' p i d e zero k j a b = refl
joins-framed named rows rows' p i d e (suc w) k j a b = elim (named k) as (λ z.
    all_true rows (cond z (compare same (col p k) (col i j) ∷ joins named p i (suc k) (suc j) w) (joins named p i (suc k) j w)) d ≡ all_true rows' (cond z (compare same (col p k) (col i j) ∷ joins named p i (suc k) (suc j) w) (joins named p i (suc k) j w)) e) [
      | true ↦ ap₂ t.and (ap₂ c.same (ap (cell_of k) a) (ap (cell_of j) b)) (joins-framed named rows rows' p i d e w (suc k) (suc j) a b)
      | false ↦ joins-framed named rows rows' p i d e w (suc k) j a b
    ]

conj-true : (rows : ℕ → Bag) (e : Environment) (ys : List Cond) (x : Cond) → truth rows (conj x ys) e ≡ t.and (truth rows x e) (all_true rows ys e)
conj-true rows e [] x = sym (and-true-right (truth rows x e))
conj-true rows e (y ∷ ys) x = conj-true rows e ys (and x y) ∙ and-associative (truth rows x e) (truth rows y e) (all_true rows ys e)

pub all_of-true : (rows : ℕ → Bag) (e : Environment) (ys : List Cond) → truth rows (all_of ys) e ≡ all_true rows ys e
all_of-true rows e [] = refl
all_of-true rows e (y ∷ ys) = conj-true rows e ys y
