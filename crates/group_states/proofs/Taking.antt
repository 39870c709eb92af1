-- What is kept of arguments, where one more is taken.
use Rattle.std.proofs.Common.{◌≡◌, ℕ, ◌+◌, nat_eq, eqb-true, ◌<◌, cond, Bool, false, List, [], ◌∷◌, ◌++◌, length, ℤ, pos, ◌+ℤ◌, refl, sym, ap, ap₂, ◌∙◌, arith, inl, inr}
use Rattle.std.proofs.lemmas.Bool.{cases_Bool}
use Rattle.std.proofs.lemmas.Int.{ints}
use Rattle.row_bag.specs.Aggregates as a
use Rattle.row_bag.specs.Bags.{IsCommutativeMonoid, bind, if_there, keep, row, total, unit}
use Rattle.row_bag.specs.Errors.{error_among, error_at}
use Rattle.row_bag.specs.Joins.{how_many}
use Rattle.row_bag.specs.Verdict.{those_there}
use Rattle.row_bag.specs.declared.row.Row.{Row}
use Rattle.row_bag.proofs.Agreement.{sum-monoid}
use Rattle.row_bag.proofs.Binds.{bind-append}
use Rattle.row_bag.proofs.FirstCells.{greater-monoid, lesser-monoid}
use Rattle.row_bag.proofs.Folds.{fold_map-append}
use Rattle.row_bag.proofs.Levels.{no-least}
use Rattle.row_bag.proofs.Worst.{worst-monoid}
use Rattle.sql_value.specs.Cells.{error_of, worst_of}
use Rattle.sql_value.specs.declared.aggregate.Aggregate.{Aggregate}
use Rattle.sql_value.specs.declared.aggregate.Aggregate.TheVariants as aggregate
use Rattle.sql_value.specs.declared.aggregate.Taken.TheVariants.{All}
use Rattle.sql_value.specs.declared.cell.Cell.{Cell}
use Rattle.sql_value.specs.declared.level.Level.{Level}
use Rattle.sql_value.specs.declared.level.Level.TheVariants.{No, Cardinality, Division, Overflow, Yes}
use Rattle.group_states.specs.Running.{HasAdded, IsRunning, cell_kept, cell_with, counted, counting, finished, first_cell, of_none, single, total_of, total_with}
use Rattle.group_states.specs.declared.running.Running.{Running}

abbrev pub Cells : Type 0
Cells = List (Row Cell)

whole-monoid : IsCommutativeMonoid ℤ ◌+ℤ◌ (pos 0)
whole-monoid = record { associative = λ a b c. omega (arith, ints); commutative = λ a b. omega (arith, ints); unit = λ a. omega (arith, ints) }

-- ---- totals of one row more

module _ {M : Type 0} {op : M → M → M} {e : M} (m : IsCommutativeMonoid M op e) where
  right : (x : M) → op x e ≡ x
  right x = m.commutative x e ∙ m.unit x

  pub there : (f : Cell → Level → M) (cells : Cells) (c : Cell) (l : Level) → (l ≡ No → ⊥) → total op e f (cells ++ row c l ∷ []) ≡ op (total op e f cells) (f c l)
  there f cells c l some = fold_map-append m (λ (r : Row Cell). if_there e f r.cells r.level) cells (row c l ∷ []) ∙ ap (op (total op e f cells)) (right (if_there e f c l) ∙ by l some)
    where
      by : (l : Level) → (l ≡ No → ⊥) → if_there e f c l ≡ f c l
      by No h = absurd (h refl)
      by Cardinality h = refl
      by Division h = refl
      by Overflow h = refl
      by Yes h = refl

  pub not_there : (f : Cell → Level → M) (cells : Cells) (c : Cell) → total op e f (cells ++ row c No ∷ []) ≡ total op e f cells
  not_there f cells c = fold_map-append m (λ (r : Row Cell). if_there e f r.cells r.level) cells (row c No ∷ []) ∙ ap (op (total op e f cells)) (right e) ∙ right (total op e f cells)

  -- over what a function gives of each cell, where levels don't count
  module _ (g : Cell → M) where
    abbrev sum : Cells → M
    sum cells = total op e (λ c l. g c) cells

    pushed : (k : Cell → Cells) (cells : Cells) (r : Row Cell) → sum (bind (cells ++ r ∷ []) k) ≡ op (sum (bind cells k)) (sum (bind (r ∷ []) k))
    pushed k cells r = ap sum (bind-append cells (r ∷ []) k) ∙ fold_map-append m (λ (r : Row Cell). if_there e (λ c l. g c) r.cells r.level) (bind cells k) (bind (r ∷ []) k)

    gone : (cells : Cells) → sum (keep No cells ++ []) ≡ e
    gone [] = refl
    gone (r ∷ cells) = ap₂ op (ap (λ (l : Level). if_there e (λ c l. g c) r.cells l) (no-least r.level)) (gone cells) ∙ m.unit e

    alone : (c : Cell) (l : Level) → (l ≡ No → ⊥) → sum (keep l (unit c) ++ []) ≡ g c
    alone c No h = absurd (h refl)
    alone c Cardinality h = right (g c)
    alone c Division h = right (g c)
    alone c Overflow h = right (g c)
    alone c Yes h = right (g c)

    pub one : (k : Cell → Cells) (cells : Cells) (c : Cell) (l : Level) → (l ≡ No → ⊥) → k c ≡ unit c → sum (bind (cells ++ row c l ∷ []) k) ≡ op (sum (bind cells k)) (g c)
    one k cells c l some is = pushed k cells (row c l) ∙ ap (λ (xs : Cells). op (sum (bind cells k)) (sum (keep l xs ++ []))) is ∙ ap (op (sum (bind cells k))) (alone c l some)

    pub none : (k : Cell → Cells) (cells : Cells) (c : Cell) (l : Level) → k c ≡ [] → sum (bind (cells ++ row c l ∷ []) k) ≡ sum (bind cells k)
    none k cells c l is = pushed k cells (row c l) ∙ ap (λ (xs : Cells). op (sum (bind cells k)) (sum (keep l xs ++ []))) is ∙ right (sum (bind cells k))

    pub absent : (k : Cell → Cells) (cells : Cells) (c : Cell) → sum (bind (cells ++ row c No ∷ []) k) ≡ sum (bind cells k)
    absent k cells c = pushed k cells (row c No) ∙ ap (op (sum (bind cells k))) (gone (k c)) ∙ right (sum (bind cells k))

-- ---- errors

pub error-there : (cells : Cells) (c : Cell) (l : Level) → (l ≡ No → ⊥) → error_among error_of (cells ++ row c l ∷ []) ≡ worst_of (error_among error_of cells) (worst_of (error_at l) (error_of c))
error-there cells c l some = there worst-monoid (λ c l. worst_of (error_at l) (error_of c)) cells c l some

pub error-absent : (cells : Cells) (c : Cell) → error_among error_of (cells ++ row c No ∷ []) ≡ error_among error_of cells
error-absent cells c = not_there worst-monoid (λ c l. worst_of (error_at l) (error_of c)) cells c

-- ---- rows that are there

pub many-there : (cells : Cells) (c : Cell) (l : Level) → (l ≡ No → ⊥) → how_many (cells ++ row c l ∷ []) ≡ how_many cells + 1
many-there cells c l some = there sum-monoid (λ c l. 1) cells c l some

pub many-absent : (cells : Cells) (c : Cell) → how_many (cells ++ row c No ∷ []) ≡ how_many cells
many-absent cells c = not_there sum-monoid (λ c l. 1) cells c

pub those-there : (cells : Cells) (c : Cell) (l : Level) → (l ≡ No → ⊥) → those_there (cells ++ row c l ∷ []) ≡ those_there cells ++ row c l ∷ []
those-there [] c No some = absurd (some refl)
those-there [] c Cardinality some = refl
those-there [] c Division some = refl
those-there [] c Overflow some = refl
those-there [] c Yes some = refl
those-there (r ∷ cells) c l some = by r.cells r.level (those-there cells c l some)
  where
    by : (d : Cell) (k : Level) → those_there (cells ++ row c l ∷ []) ≡ those_there cells ++ row c l ∷ [] → those_there (row d k ∷ cells ++ row c l ∷ []) ≡ those_there (row d k ∷ cells) ++ row c l ∷ []
    by d No h = h
    by d Cardinality h = ap (λ (xs : Cells). row d Cardinality ∷ xs) h
    by d Division h = ap (λ (xs : Cells). row d Division ∷ xs) h
    by d Overflow h = ap (λ (xs : Cells). row d Overflow ∷ xs) h
    by d Yes h = ap (λ (xs : Cells). row d Yes ∷ xs) h

pub those-absent : (cells : Cells) (c : Cell) → those_there (cells ++ row c No ∷ []) ≡ those_there cells
those-absent [] c = refl
those-absent (r ∷ cells) c = by r.cells r.level (those-absent cells c)
  where
    by : (d : Cell) (k : Level) → those_there (cells ++ row c No ∷ []) ≡ those_there cells → those_there (row d k ∷ cells ++ row c No ∷ []) ≡ those_there (row d k ∷ cells)
    by d No h = h
    by d Cardinality h = ap (λ (xs : Cells). row d Cardinality ∷ xs) h
    by d Division h = ap (λ (xs : Cells). row d Division ∷ xs) h
    by d Overflow h = ap (λ (xs : Cells). row d Overflow ∷ xs) h
    by d Yes h = ap (λ (xs : Cells). row d Yes ∷ xs) h

-- ---- the one argument of `Single`

many-listed : (cells : Cells) → how_many (bind cells unit) ≡ length (those_there cells)
many-listed [] = refl
many-listed (r ∷ cells) = by r.cells r.level (many-listed cells)
  where
    by : (d : Cell) (k : Level) → how_many (bind cells unit) ≡ length (those_there cells) → how_many (bind (row d k ∷ cells) unit) ≡ length (those_there (row d k ∷ cells))
    by d No h = omega (arith, h)
    by d Cardinality h = omega (arith, h)
    by d Division h = omega (arith, h)
    by d Overflow h = omega (arith, h)
    by d Yes h = omega (arith, h)

not-none : (n : ℕ) → 0 < n → nat_eq n 0 ≡ false
not-none n some = elim (cases_Bool (nat_eq n 0)) [
  | inl none ↦
      let e = eqb-true n 0 none in
      absurd (omega (arith, e, some))
  | inr is ↦ is
]

first-pushed : (xs : Cells) (r : Row Cell) → first_cell (xs ++ r ∷ []) ≡ cond (nat_eq (length xs) 0) r.cells (first_cell xs)
first-pushed [] r = refl
first-pushed (x ∷ xs) r = ap (λ (b : Bool). cond b r.cells x.cells) (sym (not-none (length (x ∷ xs)) (omega arith)))

single-kept : (cells : Cells) (c : Cell) (l : Level) → (l ≡ No → ⊥) → first_cell (those_there (cells ++ row c l ∷ [])) ≡ cond (nat_eq (how_many (bind cells unit)) 0) c (first_cell (those_there cells))
single-kept cells c l some =
    ap first_cell (those-there cells c l some)
    ∙ first-pushed (those_there cells) (row c l)
    ∙ ap (λ (n : ℕ). cond (nat_eq n 0) c (first_cell (those_there cells))) (sym (many-listed cells))

single-listed : (xs : Cells) → single (length xs) (first_cell xs) ≡ a.single_of_those xs
single-listed [] = refl
single-listed (x ∷ []) = refl
single-listed (x ∷ y ∷ xs) = refl

-- ---- what is kept

module _ (cells : Cells) (c : Cell) (l : Level) where
  abbrev more : Cells
  more = cells ++ row c l ∷ []

  sum-added : (f : Aggregate) → (l ≡ No → ⊥) → counting f c ≡ unit c → total_with f (total_of f cells) c ≡ total_of f more
  sum-added aggregate.Single some is = refl
  sum-added aggregate.Count some is = refl
  sum-added aggregate.Sum some is = sym (one whole-monoid a.number_in a.unless_null cells c l some is)
  sum-added aggregate.Avg some is = sym (one whole-monoid a.number_in a.unless_null cells c l some is)
  sum-added aggregate.Min some is = refl
  sum-added aggregate.Max some is = refl

  kept-added : (f : Aggregate) → (l ≡ No → ⊥) → counting f c ≡ unit c → cell_with f (how_many (counted f cells)) (cell_kept f cells) c ≡ cell_kept f more
  kept-added aggregate.Single some is = sym (single-kept cells c l some)
  kept-added aggregate.Count some is = refl
  kept-added aggregate.Sum some is = refl
  kept-added aggregate.Avg some is = refl
  kept-added aggregate.Min some is = sym (one lesser-monoid (λ c. c) a.unless_null cells c l some is)
  kept-added aggregate.Max some is = sym (one greater-monoid (λ c. c) a.unless_null cells c l some is)

  pub running-added : (f : Aggregate) (old new : Running) → (l ≡ No → ⊥) → counting f c ≡ unit c → IsRunning f cells old → HasAdded f c old new → IsRunning f more new
  running-added f old new some is so h = record {
    count = h.count ∙ ap (λ (n : ℕ). n + 1) so.count ∙ sym (one sum-monoid (λ c. 1) (counting f) cells c l some is);
    sum = h.sum ∙ ap (λ (z : ℤ). total_with f z c) so.sum ∙ sum-added f some is;
    within = h.within so.within;
    kept = h.kept ∙ ap₂ (λ (n : ℕ) (d : Cell). cell_with f n d c) so.count so.kept ∙ kept-added f some is;
  }

  sum-passed : (f : Aggregate) → counting f c ≡ [] → total_of f cells ≡ total_of f more
  sum-passed aggregate.Single is = refl
  sum-passed aggregate.Count is = refl
  sum-passed aggregate.Sum is = sym (none whole-monoid a.number_in a.unless_null cells c l is)
  sum-passed aggregate.Avg is = sym (none whole-monoid a.number_in a.unless_null cells c l is)
  sum-passed aggregate.Min is = refl
  sum-passed aggregate.Max is = refl

  kept-passed : (f : Aggregate) → counting f c ≡ [] → cell_kept f cells ≡ cell_kept f more
  kept-passed aggregate.Single is = absurd (cc is)
  kept-passed aggregate.Count is = refl
  kept-passed aggregate.Sum is = refl
  kept-passed aggregate.Avg is = refl
  kept-passed aggregate.Min is = sym (none lesser-monoid (λ c. c) a.unless_null cells c l is)
  kept-passed aggregate.Max is = sym (none greater-monoid (λ c. c) a.unless_null cells c l is)

  pub running-passed : (f : Aggregate) (r : Running) → counting f c ≡ [] → IsRunning f cells r → IsRunning f more r
  running-passed f r is so = record {
    count = so.count ∙ sym (none sum-monoid (λ c. 1) (counting f) cells c l is);
    sum = so.sum ∙ sum-passed f is;
    within = so.within;
    kept = so.kept ∙ kept-passed f is;
  }

module _ (cells : Cells) (c : Cell) where
  abbrev same : Cells
  same = cells ++ row c No ∷ []

  sum-absent : (f : Aggregate) → total_of f cells ≡ total_of f same
  sum-absent aggregate.Single = refl
  sum-absent aggregate.Count = refl
  sum-absent aggregate.Sum = sym (absent whole-monoid a.number_in a.unless_null cells c)
  sum-absent aggregate.Avg = sym (absent whole-monoid a.number_in a.unless_null cells c)
  sum-absent aggregate.Min = refl
  sum-absent aggregate.Max = refl

  kept-absent : (f : Aggregate) → cell_kept f cells ≡ cell_kept f same
  kept-absent aggregate.Single = ap first_cell (sym (those-absent cells c))
  kept-absent aggregate.Count = refl
  kept-absent aggregate.Sum = refl
  kept-absent aggregate.Avg = refl
  kept-absent aggregate.Min = sym (absent lesser-monoid (λ c. c) a.unless_null cells c)
  kept-absent aggregate.Max = sym (absent greater-monoid (λ c. c) a.unless_null cells c)

  pub running-absent : (f : Aggregate) (r : Running) → IsRunning f cells r → IsRunning f same r
  running-absent f r so = record {
    count = so.count ∙ sym (absent sum-monoid (λ c. 1) (counting f) cells c);
    sum = so.sum ∙ sum-absent f;
    within = so.within;
    kept = so.kept ∙ kept-absent f;
  }

pub running-none : (f : Aggregate) → IsRunning f [] of_none
running-none f = record { count = refl; sum = sum-none f; within = (omega (arith, ints), omega (arith, ints)); kept = kept-none f }
  where
    sum-none : (f : Aggregate) → pos 0 ≡ total_of f []
    sum-none aggregate.Single = refl
    sum-none aggregate.Count = refl
    sum-none aggregate.Sum = refl
    sum-none aggregate.Avg = refl
    sum-none aggregate.Min = refl
    sum-none aggregate.Max = refl

    kept-none : (f : Aggregate) → of_none.cell ≡ cell_kept f []
    kept-none aggregate.Single = refl
    kept-none aggregate.Count = refl
    kept-none aggregate.Sum = refl
    kept-none aggregate.Avg = refl
    kept-none aggregate.Min = refl
    kept-none aggregate.Max = refl

-- ---- what comes of it

pub finished-is : (f : Aggregate) (cells : Cells) (r : Running) → IsRunning f cells r → finished f r ≡ a.of_arguments f All cells
finished-is aggregate.Single cells r so = ap₂ single (so.count ∙ many-listed cells) so.kept ∙ single-listed (those_there cells)
finished-is aggregate.Count cells r so = ap a.count_cell so.count
finished-is aggregate.Sum cells r so = ap₂ a.sum so.count so.sum
finished-is aggregate.Avg cells r so = ap₂ a.mean so.count so.sum
finished-is aggregate.Min cells r so = so.kept
finished-is aggregate.Max cells r so = so.kept
