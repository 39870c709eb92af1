-- How often a tuple stands in what set operations give.
use Rattle.std.proofs.Common.{◌≡◌, ◌≢◌, ℕ, zero, suc, ◌+◌, ◌-◌, min, Bool, true, false, cond, nat_eq, nat_le, ◌&&◌, List, [], ◌∷◌, ◌++◌, None, refl, sym, ap, ap₂, ◌∙◌, Decides, arith, inl, inr, eqb-true}
use Rattle.std.proofs.lemmas.Bool.{cases_Bool, eqb-false, leb-false, leb-true}
use Rattle.sql_value.specs.Cells.{worst_of}
use Rattle.sql_value.specs.Level.{greatest, least, rank}
use Rattle.sql_value.specs.declared.cell.Cell.{Cell}
use Rattle.sql_value.specs.declared.level.Level.{Level}
use Rattle.sql_value.specs.declared.level.Level.TheVariants.{No, Cardinality, Division, Overflow, Yes}
use Rattle.row_bag.specs.Bags.{Agree, bind, count, if_there, keep, same_level, total}
use Rattle.row_bag.specs.Errors.{error_among, error_at, error_in}
use Rattle.row_bag.specs.Matched.{part}
use Rattle.row_bag.specs.Sets.{collapsed, copies, distinct, except, except_all, failed_cells, intersect, intersect_all, level_in, multiplicity, once, same_cells}
use Rattle.row_bag.specs.declared.row.Row.{Row}
use Rattle.row_bag.proofs.Agreement.{sum-monoid, total-bind}
use Rattle.row_bag.proofs.Binds.{keep-yes}
use Rattle.row_bag.proofs.Counts.{alike-from_agree, count-total, hits, hits_each}
use Rattle.row_bag.proofs.Folds.{fold_map-append}
use Rattle.row_bag.proofs.GreatestLevels.{level_in-absent, total-distinct, total-once}
use Rattle.row_bag.proofs.Levels.{rank-once}
use Rattle.row_bag.proofs.SetLaws.{multiplicity-alike}
use Rattle.row_bag.proofs.TupleBags.{same_cells-decides}
use Rattle.row_bag.proofs.Worst.{worst-monoid}

none-greatest : (a b : Level) → greatest a b ≡ No → (a ≡ No) × (b ≡ No)
none-greatest a b h = elim (cases_Bool (nat_le (rank a) (rank b))) [
  | inl t ↦
      let second : b ≡ No = sym (ap (λ x. cond x b a) t) ∙ h in
      let low = leb-true (rank a) (rank b) t in
      let zero : rank b ≡ 0 = ap rank second in
      (rank-once a No (omega (arith, low, zero)), second)
  | inr f ↦
      let first : a ≡ No = sym (ap (λ x. cond x b a) f) ∙ h in
      let high = leb-false (rank a) (rank b) f in
      let zero : rank a ≡ 0 = ap rank first in
      absurd (omega (arith, high, zero))
]

module _ {T : Type 0} (same : T → T → Bool) (dec : (a b : T) → Decides (same a b) (a ≡ b)) where
  none-here : (c k : T) (m : Level) → if_there No (λ k m. cond (same k c) m No) k m ≡ No → ◌≡◌ {A = ℕ} (if_there 0 (λ k m. cond (same k c) 1 0) k m) 0
  none-here c k No h = refl
  none-here c k Cardinality h = other (same k c) h
    where
      other : (b : Bool) → cond b Cardinality No ≡ No → ◌≡◌ {A = ℕ} (cond b 1 0) 0
      other true h = cc h
      other false h = refl
  none-here c k Division h = other (same k c) h
    where
      other : (b : Bool) → cond b Division No ≡ No → ◌≡◌ {A = ℕ} (cond b 1 0) 0
      other true h = cc h
      other false h = refl
  none-here c k Overflow h = other (same k c) h
    where
      other : (b : Bool) → cond b Overflow No ≡ No → ◌≡◌ {A = ℕ} (cond b 1 0) 0
      other true h = cc h
      other false h = refl
  none-here c k Yes h = other (same k c) h
    where
      other : (b : Bool) → cond b Yes No ≡ No → ◌≡◌ {A = ℕ} (cond b 1 0) 0
      other true h = cc h
      other false h = refl

  -- a tuple whose greatest level is no doesn't occur
  none-there : (c : T) (rs : List (Row T)) → level_in same c rs ≡ No → multiplicity same c rs ≡ 0
  none-there c [] h = refl
  none-there c (r ∷ rs) h =
      let both = none-greatest (if_there No (λ k m. cond (same k c) m No) r.cells r.level) (level_in same c rs) h in
      ap₂ (λ a b. a + b) (none-here c r.cells r.level both.0) (none-there c rs both.1)

  at-level : (c : T) (m : Level) → m ≢ No → ◌≡◌ {A = ℕ} (if_there 0 (λ k m. cond (same k c) 1 0) c m) 1
  at-level c No n = absurd (n refl)
  at-level c Cardinality n = ap (λ b. cond b 1 0) ((dec c c).1 refl)
  at-level c Division n = ap (λ b. cond b 1 0) ((dec c c).1 refl)
  at-level c Overflow n = ap (λ b. cond b 1 0) ((dec c c).1 refl)
  at-level c Yes n = ap (λ b. cond b 1 0) ((dec c c).1 refl)

  -- DISTINCT leaves a tuple that occurs once
  pub multiplicity-distinct : (c : T) (rs : List (Row T)) → multiplicity same c (distinct same rs) ≡ min 1 (multiplicity same c rs)
  multiplicity-distinct c rs =
      total-distinct same dec sum-monoid (λ k m. cond (same k c) 1 0) c (λ k m other. ap (λ b. cond b 1 0) other) rs
      ∙ elim (cases_Bool (nat_eq (multiplicity same c rs) 0)) [
        | inl none ↦
            let zero = eqb-true (multiplicity same c rs) 0 none in
            ap (if_there 0 (λ k m. cond (same k c) 1 0) c) (level_in-absent same dec c rs zero) ∙ ap (min 1) (sym zero)
        | inr some ↦
            let more = eqb-false (multiplicity same c rs) 0 some in
            at-level c (level_in same c rs) (λ no. more (none-there c rs no)) ∙ omega (arith, more)
      ]

  -- copies of another tuple hold none of this one
  no-copy : (c k : T) (l m : Level) (n : ℕ) → l ≢ No → same k c ≡ false → total ◌+◌ 0 (hits same c l) (keep m (copies n k)) ≡ 0
  no-copy c k l m zero some other = refl
  no-copy c k l m (suc n) some other =
      ap₂ (λ a b. a + b) (sym (hits_each same c l some k (least m Yes)) ∙ ap (λ b. cond (b && same_level (least m Yes) l) 1 0) other) (no-copy c k l m n some other)

  own-copies : (c : T) (l : Level) (n : ℕ) → total ◌+◌ 0 (hits same c l) (copies n c) ≡ cond (same_level Yes l) n 0
  own-copies c l zero = elim (same_level Yes l) as (λ b. ◌≡◌ {A = ℕ} 0 (cond b 0 0)) [ true ↦ refl | false ↦ refl ]
  own-copies c l (suc n) =
      ap₂ (λ a b. a + b) (ap (λ b. cond (b && same_level Yes l) 1 0) ((dec c c).1 refl)) (own-copies c l n) ∙ next (same_level Yes l)
    where
      next : (b : Bool) → cond b 1 0 + cond b n 0 ≡ cond b (suc n) 0
      next true = omega arith
      next false = refl

  -- so many copies of each tuple that occurs
  pub count-copies : (number : T → ℕ) (xs : List (Row T)) (c : T) (l : Level) → l ≢ No
      → count same c l (bind (once same xs) (λ k. copies (number k) k)) ≡ cond (nat_eq (multiplicity same c xs) 0) 0 (cond (same_level Yes l) (number c) 0)
  count-copies number xs c l some =
      count-total same c l some (bind (once same xs) (λ k. copies (number k) k))
      ∙ total-bind sum-monoid (hits same c l) (once same xs) (λ k. copies (number k) k)
      ∙ total-once same dec sum-monoid (λ k m. total ◌+◌ 0 (hits same c l) (keep m (copies (number k) k))) c (λ k m other. no-copy c k l m (number k) some other) xs
      ∙ ap (cond (nat_eq (multiplicity same c xs) 0) 0) (ap (total ◌+◌ 0 (hits same c l)) (keep-yes (copies (number c) c)) ∙ own-copies c l (number c))

abbrev Tuple : Type 0
Tuple = List Cell

-- the number of copies by the operands' numbers
abbrev numbered : Bool → Bool → ℕ → ℕ → ℕ
numbered true true m n = min m n
numbered true false m n = min 1 n
numbered false true m n = m - n
numbered false false m n = 1 - n

abbrev operation : Bool → Bool → List (Row Tuple) → List (Row Tuple) → List (Row Tuple)
operation matched all xs ys = bind (once same_cells xs) (λ c. copies (numbered matched all (multiplicity same_cells c xs) (multiplicity same_cells c ys)) c)

the-number : (matched all p : Bool) (m n : ℕ) → cond p (part matched (cond all m (min 1 m)) n) 0 ≡ cond (nat_eq m 0) 0 (cond p (numbered matched all m n) 0)
the-number matched all p m n = elim (cases_Bool (nat_eq m 0)) [
  | inl z ↦ ap (λ k. cond p (part matched (cond all k (min 1 k)) n) 0) (eqb-true m 0 z) ∙ nothing matched all p ∙ sym (ap (λ b. cond b 0 (cond p (numbered matched all m n) 0)) z)
  | inr z ↦ some (eqb-false m 0 z) matched all p ∙ sym (ap (λ b. cond b 0 (cond p (numbered matched all m n) 0)) z)
]
  where
    nothing : (matched all p : Bool) → cond p (part matched (cond all 0 (min 1 0)) n) 0 ≡ 0
    nothing true true true = omega arith
    nothing true true false = refl
    nothing true false true = omega arith
    nothing true false false = refl
    nothing false true true = omega arith
    nothing false true false = refl
    nothing false false true = omega arith
    nothing false false false = refl

    some : (m ≡ 0 → ⊥) → (matched all p : Bool) → cond p (part matched (cond all m (min 1 m)) n) 0 ≡ cond p (numbered matched all m n) 0
    some more true true true = refl
    some more true true false = refl
    some more true false true = omega (arith, more)
    some more true false false = refl
    some more false true true = refl
    some more false true false = refl
    some more false false true = omega (arith, more)
    some more false false false = refl

-- rows that hold each tuple as often as it is to stand
pub operation-agrees : (matched all : Bool) (xs ys rows : List (Row Tuple))
    → ((c : Tuple) (l : Level) → count same_cells c l rows ≡ cond (same_level Yes l) (part matched (cond all (multiplicity same_cells c xs) (min 1 (multiplicity same_cells c xs))) (multiplicity same_cells c ys)) 0)
    → Agree same_cells rows (operation matched all xs ys)
operation-agrees matched all xs ys rows h = record {
  counts = λ c l some.
      h c l
      ∙ the-number matched all (same_level Yes l) (multiplicity same_cells c xs) (multiplicity same_cells c ys)
      ∙ sym (count-copies same_cells same_cells-decides (λ k. numbered matched all (multiplicity same_cells k xs) (multiplicity same_cells k ys)) xs c l some);
}

-- how often a tuple stands in rows that agree with DISTINCT
pub multiplicity-of_distinct : (c : Tuple) (rows xs : List (Row Tuple)) → Agree same_cells rows (distinct same_cells xs) → multiplicity same_cells c rows ≡ min 1 (multiplicity same_cells c xs)
multiplicity-of_distinct c rows xs h =
    multiplicity-alike same_cells same_cells-decides c (alike-from_agree same_cells same_cells-decides h) ∙ multiplicity-distinct same_cells same_cells-decides c xs

pub intersect-agrees : (all : Bool) (columns : ℕ) (xs ys rows : List (Row Tuple)) → error_among error_in (xs ++ ys) ≡ None
    → ((c : Tuple) (l : Level) → count same_cells c l rows ≡ cond (same_level Yes l) (part true (cond all (multiplicity same_cells c xs) (min 1 (multiplicity same_cells c xs))) (multiplicity same_cells c ys)) 0)
    → Agree same_cells rows (collapsed error_in (failed_cells columns) (xs ++ ys) (cond all (intersect_all same_cells xs ys) (intersect same_cells xs ys)))
intersect-agrees true columns xs ys rows none h = rw none (operation-agrees true true xs ys rows h)
intersect-agrees false columns xs ys rows none h = rw none (operation-agrees true false xs ys rows h)

pub except-agrees : (all : Bool) (columns : ℕ) (xs ys rows : List (Row Tuple)) → error_among error_in (xs ++ ys) ≡ None
    → ((c : Tuple) (l : Level) → count same_cells c l rows ≡ cond (same_level Yes l) (part false (cond all (multiplicity same_cells c xs) (min 1 (multiplicity same_cells c xs))) (multiplicity same_cells c ys)) 0)
    → Agree same_cells rows (collapsed error_in (failed_cells columns) (xs ++ ys) (cond all (except_all same_cells xs ys) (except same_cells xs ys)))
except-agrees true columns xs ys rows none h = rw none (operation-agrees false true xs ys rows h)
except-agrees false columns xs ys rows none h = rw none (operation-agrees false false xs ys rows h)

-- the greatest error of both operands
pub errors-append : (xs ys : List (Row Tuple)) → error_among error_in (xs ++ ys) ≡ worst_of (error_among error_in xs) (error_among error_in ys)
errors-append xs ys = fold_map-append worst-monoid (λ r. if_there None (λ cells level. worst_of (error_at level) (error_in cells)) r.cells r.level) xs ys
