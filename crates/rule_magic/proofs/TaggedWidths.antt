-- Rows of a width, and columns of rows in two parts.
use Rattle.std.proofs.Common.{◌≡◌, ℕ, suc, zero, ◌+◌, ◌==◌, cond, true, false, ◌&&◌, ◌||◌, List, [], ◌∷◌, ◌++◌, take, drop, length, get_or, refl, ap, ap₂, sym, ◌∙◌, arith, length-append, length-take, length-drop, take-append-drop, inl, inr}
use Rattle.std.proofs.lemmas.Bool.{and_parts, cases_Bool, eq-eqb}
use Rattle.sql_value.specs.declared.cell.Cell.{Cell}
use Rattle.sql_value.specs.declared.cell.Cell.TheVariants.{Null}
use Rattle.sql_value.specs.declared.level.Level.{Level}
use Rattle.row_bag.specs.Bags.{bind, keep, unit}
use Rattle.row_bag.specs.Order.{cell_of}
use Rattle.row_bag.specs.Sets.{same_cells}
use Rattle.row_bag.specs.AsSets.{stands}
use Rattle.row_bag.specs.Tags.{led}
use Rattle.row_bag.specs.Verdict.{is_there}
use Rattle.row_bag.proofs.TupleBags.{same_cells-decides}
use Rattle.qgm_meaning.specs.Tags.{columns_from}
use Rattle.qgm_meaning.specs.Values.{Bag, Environment, bound, head_cells, row_of, value}
use Rattle.qgm_meaning.specs.Widths.{Wide}
use Rattle.qgm_terms.specs.Terms.{Term}
use Rattle.qgm_meaning.proofs.LedSets.{Tuple}

-- ---- lists

pub take-plus : {X : Type 0} (xs ys : List X) (k n : ℕ) → n ≡ length xs + k → take n (xs ++ ys) ≡ xs ++ take k ys
take-plus [] ys k n e = ap (λ i. take i ys) (omega (arith, e))
take-plus {X} (x ∷ xs) ys k n e =
    let f : n ≡ suc (length xs + k) = (let l : length (x ∷ xs) ≡ suc (length xs) = refl in omega (arith, e, l)) in
    ap (λ i. take i (x ∷ (xs ++ ys))) f ∙ ap (λ (zs : List X). x ∷ zs) (take-plus xs ys k (length xs + k) refl)

pub drop-plus : {X : Type 0} (xs ys : List X) (k n : ℕ) → n ≡ length xs + k → drop n (xs ++ ys) ≡ drop k ys
drop-plus [] ys k n e = ap (λ i. drop i ys) (omega (arith, e))
drop-plus (x ∷ xs) ys k n e =
    let f : n ≡ suc (length xs + k) = (let l : length (x ∷ xs) ≡ suc (length xs) = refl in omega (arith, e, l)) in
    ap (λ i. drop i (x ∷ (xs ++ ys))) f ∙ drop-plus xs ys k (length xs + k) refl

pub columns-length : (q k w : ℕ) → length (columns_from q k w) ≡ w
columns-length q k zero = refl
columns-length q k (suc w) = ap suc (columns-length q (suc k) w)

-- ---- rows of a width

pub wide-append : (w : ℕ) (xs ys : Bag) → Wide w xs → Wide w ys → Wide w (xs ++ ys)
wide-append w [] ys h k = k
wide-append w (r ∷ xs) ys h k = (h.0, wide-append w xs ys h.1 k)

pub wide-keep : (w : ℕ) (l : Level) (xs : Bag) → Wide w xs → Wide w (keep l xs)
wide-keep w l [] h = tt
wide-keep w l (r ∷ xs) h = (h.0, wide-keep w l xs h.1)

pub wide-bind : (w n : ℕ) (xs : Bag) (f : Tuple → Bag) → Wide w xs → ((c : Tuple) → length c ≡ w → Wide n (f c)) → Wide n (bind xs f)
wide-bind w n [] f h k = tt
wide-bind w n (r ∷ xs) f h k = wide-append n (keep r.level (f r.cells)) (bind xs f) (wide-keep n r.level (f r.cells) (k r.cells h.0)) (wide-bind w n xs f h.1 k)

-- what is given of rows of a width
pub bind-wide : {X : Type 0} (w : ℕ) (rows : Bag) (f g : Tuple → List (Rattle.row_bag.specs.declared.row.Row.Row X)) → Wide w rows → ((c : Tuple) → length c ≡ w → f c ≡ g c) → bind rows f ≡ bind rows g
bind-wide w [] f g h k = refl
bind-wide {X} w (r ∷ rows) f g h k = ap₂ (λ (x y : List (Rattle.row_bag.specs.declared.row.Row.Row X)). keep r.level x ++ y) (k r.cells h.0) (bind-wide w rows f g h.1 k)

pub wide-stands : (w : ℕ) (rows : Bag) → Wide w rows → (c : Tuple) → stands same_cells c rows ≡ true → length c ≡ w
wide-stands w [] h c s = absurd (let z : ⊥ = cc in z)
wide-stands w (r ∷ rows) h c s = elim (cases_Bool (same_cells r.cells c && is_there r)) [
  | inl t ↦ sym (ap (λ (x : Tuple). length x) ((same_cells-decides r.cells c).0 (and_parts (same_cells r.cells c) (is_there r) t).0)) ∙ h.0
  | inr n ↦ wide-stands w rows h.1 c (sym (ap (λ b. b || stands same_cells c rows) n) ∙ s)
]

pub led-wide : (w v : ℕ) (tags : Bag) (rows : Tuple → Bag) → Wide w tags → ((u : Tuple) → Wide v (rows u)) → Wide (w + v) (led tags rows)
led-wide w v tags rows h k = wide-bind w (w + v) tags (λ u. bind (rows u) (λ t. unit (u ++ t))) h (λ u lu. wide-bind v (w + v) (rows u) (λ t. unit (u ++ t)) (k u) (λ t lt. ((let a = length-append u t in omega (arith, a, lu, lt)), tt)))

-- a row of a width in two parts
pub parts : (w v : ℕ) (c : Tuple) → length c ≡ w + v → (length (take w c) ≡ w) × (length (drop w c) ≡ v) × (take w c ++ drop w c ≡ c)
parts w v c l = ((let a = length-take w c in omega (arith, a, l)), (let b = length-drop w c in omega (arith, b, l)), take-append-drop w c)

-- ---- columns of a row

pub at-place : (pre : Tuple) (x : Cell) (v : Tuple) → get_or (pre ++ x ∷ v) (length pre) Null ≡ x
at-place [] x v = refl
at-place (y ∷ pre) x v = at-place pre x v

pub append-one : (xs : Tuple) (x : Cell) (ys : Tuple) → (xs ++ x ∷ []) ++ ys ≡ xs ++ x ∷ ys
append-one [] x ys = refl
append-one (z ∷ xs) x ys = ap (λ (t : Tuple). z ∷ t) (append-one xs x ys)

pub length-one : (xs : Tuple) (x : Cell) → length (xs ++ x ∷ []) ≡ suc (length xs)
length-one [] x = refl
length-one (z ∷ xs) x = ap suc (length-one xs x)

-- the columns behind the first ones
pub columns-behind : (s : ℕ → Bag) (q : ℕ) (e : Environment) (pre v : Tuple) → row_of q e ≡ pre ++ v → head_cells s (columns_from q (suc (length pre)) (length v)) e ≡ v
columns-behind s q e pre [] h = refl
columns-behind s q e pre (x ∷ v) h =
    ap₂ (λ (c : Cell) (cs : Tuple). c ∷ cs) (ap (cell_of (suc (length pre))) h ∙ at-place pre x v)
    (ap (λ k. head_cells s (columns_from q (suc k) (length v)) e) (sym (length-one pre x)) ∙ columns-behind s q e (pre ++ x ∷ []) v (h ∙ sym (append-one pre x v)))

pub columns-after : (s : ℕ → Bag) (q w v : ℕ) (e : Environment) (u t : Tuple) → row_of q e ≡ u ++ t → length u ≡ w → length t ≡ v → head_cells s (columns_from q (suc w) v) e ≡ t
columns-after s q w v e u t h lu lt = ap₂ (λ i n. head_cells s (columns_from q (suc i) n) e) (sym lu) (sym lt) ∙ columns-behind s q e u t h

pub whole-row : (s : ℕ → Bag) (q w : ℕ) (e : Environment) (v : Tuple) → row_of q e ≡ v → length v ≡ w → head_cells s (columns_from q 1 w) e ≡ v
whole-row s q w e v h l = ap (λ n. head_cells s (columns_from q 1 n) e) (sym l) ∙ columns-behind s q e [] v h

-- the first columns of a row in two parts
pub columns-before : (s : ℕ → Bag) (q : ℕ) (e : Environment) (pre u t : Tuple) → row_of q e ≡ pre ++ (u ++ t) → head_cells s (columns_from q (suc (length pre)) (length u)) e ≡ u
columns-before s q e pre [] t h = refl
columns-before s q e pre (x ∷ u) t h =
    ap₂ (λ (c : Cell) (cs : Tuple). c ∷ cs) (ap (cell_of (suc (length pre))) h ∙ at-place pre x (u ++ t))
    (ap (λ k. head_cells s (columns_from q (suc k) (length u)) e) (sym (length-one pre x)) ∙ columns-before s q e (pre ++ x ∷ []) u t (h ∙ sym (append-one pre x (u ++ t))))

pub first-columns : (s : ℕ → Bag) (q w : ℕ) (e : Environment) (u t : Tuple) → row_of q e ≡ u ++ t → length u ≡ w → head_cells s (columns_from q 1 w) e ≡ u
first-columns s q w e u t h l = ap (λ n. head_cells s (columns_from q 1 n) e) (sym l) ∙ columns-before s q e [] u t h

pub head-append : (s : ℕ → Bag) (xs ys : List Term) (e : Environment) → head_cells s (xs ++ ys) e ≡ head_cells s xs e ++ head_cells s ys e
head-append s [] ys e = refl
head-append s (x ∷ xs) ys e = ap (λ (cells : Tuple). value s x e ∷ cells) (head-append s xs ys e)

pub own-row : (q : ℕ) (c : Tuple) (e : Environment) → row_of q (bound q c e) ≡ c
own-row q c e = ap (λ b. cond b c (row_of q e)) (eq-eqb q q refl)

pub other-row : (q p : ℕ) (c : Tuple) (e : Environment) → (p == q) ≡ false → row_of q (bound p c e) ≡ row_of q e
other-row q p c e h = ap (λ b. cond b c (row_of q e)) h
