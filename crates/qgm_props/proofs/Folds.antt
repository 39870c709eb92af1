-- Errors among rows, and aggregates of arguments that are no errors.
use Rattle.std.proofs.Common.{ℕ, zero, suc, ℤ, pos, negsuc, ◌+ℤ◌, FitsSigned, w64, nat_eq, ◌≡◌, ◌≤◌, ◌+◌, ◌^◌, ◌-◌, min, cond, Bool, true, false, List, [], ◌∷◌, length, Option, Some, None, refl, sym, ap, ◌∙◌, arith}
use Rattle.std.proofs.lemmas.Bool.{and_parts, lt-ltb, ltb-true}
use Rattle.std.proofs.lemmas.Int.{ints}
use Rattle.std.specs.Int.RustNames.{int_div}
use Rattle.std.specs.Ordering.{is_le}
use Rattle.row_bag.specs.Arguments.{IsTotalOf}
use Rattle.row_bag.proofs.Means.{mean_fits, one_within}
use Rattle.row_bag.specs.Aggregates.{number_in, same_cell, count_cell, count_rows, exact_total, folded, greater_cell, lesser_cell, mean, of_arguments, single_of_those, unless_null, values}
use Rattle.row_bag.specs.Bags.{bind, if_there, keep, row, total, unit}
use Rattle.row_bag.specs.Errors.{error_among, error_at, error_in}
use Rattle.row_bag.specs.Joins.{how_many}
use Rattle.row_bag.specs.Sets.{multiplicity, error_or_bag, failed_cells, once}
use Rattle.row_bag.specs.Verdict.{is_there, those_there}
use Rattle.row_bag.specs.declared.row.Row.{Row}
use Rattle.sql_value.specs.Arithmetic.{error_or}
use Rattle.sql_value.specs.declared.aggregate.Taken.{Taken}
use Rattle.sql_value.specs.declared.aggregate.Taken.TheVariants as taken
use Rattle.qgm_terms.specs.Terms as t
use Rattle.qgm_meaning.specs.Aggregated.{aggregate_of}
use Rattle.qgm_props.specs.Inferred.{fold_free}
use Rattle.sql_value.specs.Cells.{cell_compare, error_of, worst_of}
use Rattle.sql_value.specs.Level.{least}
use Rattle.sql_value.specs.declared.cell.Cell.{Cell}
use Rattle.sql_value.specs.declared.cell.Cell.TheVariants.{Int, Text, Null, Err}
use Rattle.sql_value.specs.declared.cell.Kind.{Kind}
use Rattle.sql_value.specs.declared.cell.Kind.TheVariants as kind
use Rattle.sql_value.specs.declared.level.Level.{Level}
use Rattle.sql_value.specs.declared.level.Level.TheVariants.{No, Cardinality, Division, Overflow, Yes}
use Rattle.qgm_meaning.specs.Values.{Bag}
use Rattle.qgm_props.specs.Facts.{Each, is_sound}
use Rattle.qgm_props.proofs.EachClean.{EachClean}
use Rattle.qgm_props.proofs.Cells.{no-error}
use Rattle.qgm_props.proofs.Rows.{each-append, least-there, there_at}

-- ---- errors among rows

worst-none : (a b : Option Kind) → a ≡ None → b ≡ None → worst_of a b ≡ None
worst-none None b e f = f
worst-none (Some k) b e f = absurd (let z : ⊥ = cc in z)

worst-parts : (a b : Option Kind) → worst_of a b ≡ None → (a ≡ None) × (b ≡ None)
worst-parts None b e = (refl, e)
worst-parts (Some j) None e = absurd (let z : ⊥ = cc in z)
worst-parts (Some j) (Some k) e = absurd (let z : ⊥ = cc in z)

-- clean rows whose tuples hold no error hold none
pub none-among : {T : Type 0} (held : T → Option Kind) (rows : List (Row T)) → Each (λ r. error_at r.level ≡ None) rows → Each (λ r. is_there r ≡ true → held r.cells ≡ None) rows → error_among held rows ≡ None
none-among held [] c h = refl
none-among {T} held (r ∷ rows) c h = worst-none (if_there None (λ cells level. worst_of (error_at level) (held cells)) r.cells r.level) (error_among held rows) (at r.level refl c.0) (none-among held rows c.1 h.1)
  where
    at : (l : Level) → r.level ≡ l → error_at r.level ≡ None → if_there None (λ cells level. worst_of (error_at level) (held cells)) r.cells l ≡ None
    at No e d = refl
    at Cardinality e d = absurd (let w : error_at Cardinality ≡ None = sym (ap error_at e) ∙ d in let z : ⊥ = cc in z)
    at Division e d = absurd (let w : error_at Division ≡ None = sym (ap error_at e) ∙ d in let z : ⊥ = cc in z)
    at Overflow e d = absurd (let w : error_at Overflow ≡ None = sym (ap error_at e) ∙ d in let z : ⊥ = cc in z)
    at Yes e d = h.0 (ap (λ l. if_there false (λ (c : T) (m : Level). true) r.cells l) e)

-- and the other way round
pub clean-among : {T : Type 0} (held : T → Option Kind) (rows : List (Row T)) → error_among held rows ≡ None → Each (λ r. error_at r.level ≡ None) rows × Each (λ r. is_there r ≡ true → held r.cells ≡ None) rows
clean-among held [] e = (tt, tt)
clean-among {T} held (r ∷ rows) e =
    let p = worst-parts (if_there None (λ cells level. worst_of (error_at level) (held cells)) r.cells r.level) (error_among held rows) e in
    let i = clean-among held rows p.1 in let h = at r.level refl p.0 in ((h.0, i.0), (h.1, i.1))
  where
    Parts : Type 0
    Parts = (error_at r.level ≡ None) × (is_there r ≡ true → held r.cells ≡ None)

    at : (l : Level) → r.level ≡ l → if_there None (λ cells level. worst_of (error_at level) (held cells)) r.cells l ≡ None → (error_at r.level ≡ None) × (is_there r ≡ true → held r.cells ≡ None)
    at No w d = (ap error_at w, λ t. absurd (let x : false ≡ true = sym (ap (λ l. if_there false (λ (c : T) (m : Level). true) r.cells l) w) ∙ t in let z : ⊥ = cc in z))
    at Cardinality w d = absurd (let x = (worst-parts (error_at Cardinality) (held r.cells) d).0 in let z : ⊥ = cc in z)
    at Division w d = absurd (let x = (worst-parts (error_at Division) (held r.cells) d).0 in let z : ⊥ = cc in z)
    at Overflow w d = absurd (let x = (worst-parts (error_at Overflow) (held r.cells) d).0 in let z : ⊥ = cc in z)
    at Yes w d = (ap error_at w, λ t. d)

-- cells that are no errors
pub none-in : (xs : List Cell) → Each (λ x. is_sound x ≡ true) xs → error_in xs ≡ None
none-in [] h = refl
none-in (x ∷ xs) h = worst-none (error_of x) (error_in xs) (no-error x h.0) (none-in xs h.1)

-- an operation that isn't collapsed gives its rows; it is clean only so
pub uncollapsed : (o : Option Kind) (w : ℕ) (rows : Bag) → o ≡ None → error_or_bag (failed_cells w) o rows ≡ rows
uncollapsed None w rows e = refl
uncollapsed (Some k) w rows e = absurd (let z : ⊥ = cc in z)

pub clean-none : (o : Option Kind) (w : ℕ) (rows : Bag) → EachClean (error_or_bag (failed_cells w) o rows) → o ≡ None
clean-none None w rows c = refl
clean-none (Some kind.Cardinality) w rows c = absurd (let x = c.0 in let z : ⊥ = cc in z)
clean-none (Some kind.Division) w rows c = absurd (let x = c.0 in let z : ⊥ = cc in z)
clean-none (Some kind.Overflow) w rows c = absurd (let x = c.0 in let z : ⊥ = cc in z)

-- ---- aggregates of cells that are no errors

abbrev pub SoundCells : List (Row Cell) → Type 0
SoundCells cells = Each (λ r. is_there r ≡ true → is_sound r.cells ≡ true) cells

count-sound : (n : ℕ) → is_sound (count_cell n) ≡ true
count-sound n = lt-ltb (min n (2 ^ 63 - 1)) (2 ^ 63) (omega (arith))

pub rows-counted : {T : Type 0} (rows : List (Row T)) → is_sound (count_rows rows) ≡ true
rows-counted rows = count-sound (how_many rows)

-- what is taken of sound cells is sound
sound-unless : (x : Cell) → is_sound x ≡ true → SoundCells (unless_null x)
sound-unless Null h = tt
sound-unless (Int n) h = ((λ _. h), tt)
sound-unless (Text s) h = ((λ _. h), tt)
sound-unless (Err k) h = ((λ _. h), tt)

kept-there : {T : Type 0} (P : T → Type 0) (l : Level) (rows : List (Row T)) → (there_at l ≡ true → Each (λ r. is_there r ≡ true → P r.cells) rows) → Each (λ r. is_there r ≡ true → P r.cells) (keep l rows)
kept-there P l [] h = tt
kept-there {T} P l (r ∷ rows) h = ((λ t. let k = both t in (h k.0).0 k.1), kept-there P l rows (λ t. (h t).1))
  where
    is : (m : Level) → is_there (row r.cells m) ≡ there_at m
    is No = refl
    is Cardinality = refl
    is Division = refl
    is Overflow = refl
    is Yes = refl

    both : is_there (row r.cells (least l r.level)) ≡ true → (there_at l ≡ true) × (is_there r ≡ true)
    both t = let p = and_parts (there_at l) (there_at r.level) (sym (least-there l r.level) ∙ sym (is (least l r.level)) ∙ t) in (p.0, is r.level ∙ p.1)

there-in : {T : Type 0} (r : Row T) (l : Level) → r.level ≡ l → there_at l ≡ true → is_there r ≡ true
there-in r No e t = absurd (let z : ⊥ = cc in z)
there-in {T} r Cardinality e t = ap (λ l. if_there false (λ (c : T) (m : Level). true) r.cells l) e
there-in {T} r Division e t = ap (λ l. if_there false (λ (c : T) (m : Level). true) r.cells l) e
there-in {T} r Overflow e t = ap (λ l. if_there false (λ (c : T) (m : Level). true) r.cells l) e
there-in {T} r Yes e t = ap (λ l. if_there false (λ (c : T) (m : Level). true) r.cells l) e

-- what f gives of each sound argument is sound
sound-bind : (cells : List (Row Cell)) → SoundCells cells → SoundCells (bind cells unless_null)
sound-bind [] h = tt
sound-bind (r ∷ cells) h =
    each-append (λ r. is_there r ≡ true → is_sound r.cells ≡ true) (keep r.level (unless_null r.cells)) (bind cells unless_null)
    (kept-there (λ x. is_sound x ≡ true) r.level (unless_null r.cells) (λ t. sound-unless r.cells (h.0 (there-in r r.level refl t)))) (sound-bind cells h.1)

sound-once : (cells : List (Row Cell)) → SoundCells cells → SoundCells (once same_cell cells)
sound-once [] h = tt
sound-once (r ∷ cells) h =
    each-append (λ r. is_there r ≡ true → is_sound r.cells ≡ true) (if_there [] (λ c l. cond (nat_eq (multiplicity same_cell c cells) 0) (unit c) []) r.cells r.level) (once same_cell cells) (at r.level refl) (sound-once cells h.1)
  where
    one : (b : Bool) → is_there r ≡ true → SoundCells (cond b (unit r.cells) [])
    one true t = ((λ _. h.0 t), tt)
    one false t = tt

    at : (l : Level) → r.level ≡ l → SoundCells (if_there [] (λ c l. cond (nat_eq (multiplicity same_cell c cells) 0) (unit c) []) r.cells l)
    at No e = tt
    at Cardinality e = one (nat_eq (multiplicity same_cell r.cells cells) 0) (there-in r Cardinality e refl)
    at Division e = one (nat_eq (multiplicity same_cell r.cells cells) 0) (there-in r Division e refl)
    at Overflow e = one (nat_eq (multiplicity same_cell r.cells cells) 0) (there-in r Overflow e refl)
    at Yes e = one (nat_eq (multiplicity same_cell r.cells cells) 0) (there-in r Yes e refl)

values-sound : (each : Taken) (cells : List (Row Cell)) → SoundCells cells → SoundCells (values each cells)
values-sound taken.All cells h = sound-bind cells h
values-sound taken.Distinct cells h = sound-once (bind cells unless_null) (sound-bind cells h)

-- ---- AVG

number-fits : (x : Cell) → is_sound x ≡ true → FitsSigned w64 (number_in x)
number-fits (Int (pos n)) h = record { sfits = ltb-true n (2 ^ 63) h }
number-fits (Int (negsuc n)) h = record { sfits = ltb-true n (2 ^ 63) h }
number-fits (Text s) h = record { sfits = omega (arith) }
number-fits Null h = record { sfits = omega (arith) }
number-fits (Err k) h = absurd (let z : ⊥ = cc in z)

fits-sound : (z : ℤ) → FitsSigned w64 z → is_sound (Int z) ≡ true
fits-sound (pos n) f = lt-ltb n (2 ^ 63) f.sfits
fits-sound (negsuc n) f = lt-ltb n (2 ^ 63) f.sfits

total-within : (cells : List (Row Cell)) → SoundCells cells → IsTotalOf (how_many cells) (exact_total cells)
total-within [] h = (omega (arith, ints), omega (arith, ints))
total-within (r ∷ cells) h = at r.level refl (total-within cells h.1)
  where
    one : (l : Level) → r.level ≡ l → there_at l ≡ true → IsTotalOf (how_many cells) (exact_total cells) → IsTotalOf (1 + how_many cells) (number_in r.cells +ℤ exact_total cells)
    one l e t i = let w = one_within (number_in r.cells) (number-fits r.cells (h.0 (there-in r l e t))) in (omega (arith, ints, w.0, i.0), omega (arith, ints, w.1, i.1))

    at : (l : Level) → r.level ≡ l → IsTotalOf (how_many cells) (exact_total cells)
        → IsTotalOf (if_there 0 (λ (c : Cell) (m : Level). 1) r.cells l + how_many cells) (if_there (pos 0) (λ (c : Cell) (m : Level). number_in c) r.cells l +ℤ exact_total cells)
    at No e i = (omega (arith, ints, i.0), omega (arith, ints, i.1))
    at Cardinality e i = one Cardinality e refl i
    at Division e i = one Division e refl i
    at Overflow e i = one Overflow e refl i
    at Yes e i = one Yes e refl i

mean-sound : (n : ℕ) (z : ℤ) → IsTotalOf n z → is_sound (mean n z) ≡ true
mean-sound zero z h = refl
mean-sound (suc n) z h = fits-sound (int_div z (pos (suc n))) (mean_fits (suc n) z (omega (arith)) h)

-- ---- MIN and MAX

lesser-sound : (x y : Cell) → is_sound x ≡ true → is_sound y ≡ true → is_sound (lesser_cell x y) ≡ true
lesser-sound Null y h k = k
lesser-sound (Int n) Null h k = h
lesser-sound (Int n) (Int m) h k = elim (is_le (cell_compare (Int n) (Int m))) as (λ b. is_sound (cond b (Int n) (Int m)) ≡ true) [ true ↦ h | false ↦ k ]
lesser-sound (Int n) (Text m) h k = elim (is_le (cell_compare (Int n) (Text m))) as (λ b. is_sound (cond b (Int n) (Text m)) ≡ true) [ true ↦ h | false ↦ k ]
lesser-sound (Text n) Null h k = h
lesser-sound (Text n) (Int m) h k = elim (is_le (cell_compare (Text n) (Int m))) as (λ b. is_sound (cond b (Text n) (Int m)) ≡ true) [ true ↦ h | false ↦ k ]
lesser-sound (Text n) (Text m) h k = elim (is_le (cell_compare (Text n) (Text m))) as (λ b. is_sound (cond b (Text n) (Text m)) ≡ true) [ true ↦ h | false ↦ k ]
lesser-sound x (Err j) h k = absurd (let z : ⊥ = cc in z)
lesser-sound (Err j) y h k = absurd (let z : ⊥ = cc in z)

greater-sound : (x y : Cell) → is_sound x ≡ true → is_sound y ≡ true → is_sound (greater_cell x y) ≡ true
greater-sound Null y h k = k
greater-sound (Int n) Null h k = h
greater-sound (Int n) (Int m) h k = elim (is_le (cell_compare (Int n) (Int m))) as (λ b. is_sound (cond b (Int m) (Int n)) ≡ true) [ true ↦ k | false ↦ h ]
greater-sound (Int n) (Text m) h k = elim (is_le (cell_compare (Int n) (Text m))) as (λ b. is_sound (cond b (Text m) (Int n)) ≡ true) [ true ↦ k | false ↦ h ]
greater-sound (Text n) Null h k = h
greater-sound (Text n) (Int m) h k = elim (is_le (cell_compare (Text n) (Int m))) as (λ b. is_sound (cond b (Int m) (Text n)) ≡ true) [ true ↦ k | false ↦ h ]
greater-sound (Text n) (Text m) h k = elim (is_le (cell_compare (Text n) (Text m))) as (λ b. is_sound (cond b (Text m) (Text n)) ≡ true) [ true ↦ k | false ↦ h ]
greater-sound x (Err j) h k = absurd (let z : ⊥ = cc in z)
greater-sound (Err j) y h k = absurd (let z : ⊥ = cc in z)

sound-total : (f : Cell → Cell → Cell) → ((x y : Cell) → is_sound x ≡ true → is_sound y ≡ true → is_sound (f x y) ≡ true) → (cells : List (Row Cell)) → SoundCells cells → is_sound (total f Null (λ c level. c) cells) ≡ true
sound-total f keeps [] h = refl
sound-total f keeps (r ∷ cells) h = keeps (if_there Null (λ (c : Cell) (m : Level). c) r.cells r.level) (total f Null (λ c level. c) cells) (at r.level refl) (sound-total f keeps cells h.1)
  where
    at : (l : Level) → r.level ≡ l → is_sound (if_there Null (λ (c : Cell) (m : Level). c) r.cells l) ≡ true
    at No e = refl
    at Cardinality e = h.0 (there-in r Cardinality e refl)
    at Division e = h.0 (there-in r Division e refl)
    at Overflow e = h.0 (there-in r Overflow e refl)
    at Yes e = h.0 (there-in r Yes e refl)

-- ---- one cell

cells-there : (cells : List (Row Cell)) → SoundCells cells → Each (λ r. is_sound r.cells ≡ true) (those_there cells)
cells-there [] h = tt
cells-there (r ∷ cells) h = one (cells-there cells h.1) (is_there r) refl
  where
    one : Each (λ r. is_sound r.cells ≡ true) (those_there cells) → (b : Bool) → is_there r ≡ b → Each (λ r. is_sound r.cells ≡ true) (cond b (r ∷ those_there cells) (those_there cells))
    one i true w = (h.0 w, i)
    one i false w = i

count-there : (cells : List (Row Cell)) → length (those_there cells) ≡ how_many cells
count-there [] = refl
count-there (r ∷ cells) = at r.level (count-there cells)
  where
    at : (l : Level) → length (those_there cells) ≡ how_many cells
        → length (cond (if_there false (λ (c : Cell) (m : Level). true) r.cells l) (r ∷ those_there cells) (those_there cells)) ≡ if_there 0 (λ (c : Cell) (m : Level). 1) r.cells l + how_many cells
    at No i = omega (arith, i)
    at Cardinality i = let k : length (r ∷ those_there cells) ≡ suc (length (those_there cells)) = refl in omega (arith, i, k)
    at Division i = let k : length (r ∷ those_there cells) ≡ suc (length (those_there cells)) = refl in omega (arith, i, k)
    at Overflow i = let k : length (r ∷ those_there cells) ≡ suc (length (those_there cells)) = refl in omega (arith, i, k)
    at Yes i = let k : length (r ∷ those_there cells) ≡ suc (length (those_there cells)) = refl in omega (arith, i, k)

single-sound : (cells : List (Row Cell)) → SoundCells cells → how_many cells ≤ 1 → is_sound (single_of_those (those_there cells)) ≡ true
single-sound cells h m = go (those_there cells) (cells-there cells h) (let c = count-there cells in omega (arith, c, m))
  where
    go : (rs : List (Row Cell)) → Each (λ r. is_sound r.cells ≡ true) rs → length rs ≤ 1 → is_sound (single_of_those rs) ≡ true
    go [] e l = refl
    go (r ∷ []) e l = e.0
    go (r ∷ q ∷ rs) e l = absurd (let k : length (r ∷ q ∷ rs) ≡ suc (suc (length rs)) = refl in let z : ⊥ = omega (arith, l, k) in z)

-- an aggregate of sound arguments of clean rows, of which there is at most one or not
pub folded-sound : (one : Bool) (f : t.Aggregate) (each : Taken) (cells : List (Row Cell)) → fold_free one f ≡ true → Each (λ r. error_at r.level ≡ None) cells → SoundCells cells → (one ≡ true → how_many cells ≤ 1)
    → is_sound (folded (aggregate_of f) each cells) ≡ true
folded-sound one f each cells h c s m = sound-none (error_among error_of cells) (of_arguments (aggregate_of f) each cells) (none-among error_of cells c (no-errors cells s)) (at f h)
  where
    no-errors : (cells : List (Row Cell)) → SoundCells cells → Each (λ r. is_there r ≡ true → error_of r.cells ≡ None) cells
    no-errors [] s = tt
    no-errors (r ∷ cells) s = ((λ t. no-error r.cells (s.0 t)), no-errors cells s.1)

    sound-none : (o : Option Kind) (x : Cell) → o ≡ None → is_sound x ≡ true → is_sound (error_or o x) ≡ true
    sound-none None x e k = k
    sound-none (Some j) x e k = absurd (let z : ⊥ = cc in z)

    at : (f : t.Aggregate) → fold_free one f ≡ true → is_sound (of_arguments (aggregate_of f) each cells) ≡ true
    at t.single h = single-sound cells s (m h)
    at t.count h = count-sound (how_many (values each cells))
    at t.sum h = absurd (let z : ⊥ = cc in z)
    at t.avg h = mean-sound (how_many (values each cells)) (exact_total (values each cells)) (total-within (values each cells) (values-sound each cells s))
    at t.least h = sound-total lesser_cell lesser-sound (values each cells) (values-sound each cells s)
    at t.greatest h = sound-total greater_cell greater-sound (values each cells) (values-sound each cells s)
