-- Totals over what a function makes of rows, and over rows that pass a test.
use Rattle.std.proofs.Common.{◌≡◌, ℕ, ◌+◌, ◌≤◌, add-zero, cond, Bool, List, [], ◌∷◌, refl, ap, ◌∙◌, arith}
use mathlib.Core.Path.{fun_ext}
use Rattle.sql_value.specs.declared.level.Level.{Level}
use Rattle.sql_value.specs.declared.level.Level.TheVariants.{No, Cardinality, Division, Overflow, Yes}
use Rattle.sql_value.specs.Level.{least}
use Rattle.row_bag.specs.Bags.{IsCommutativeMonoid, bind, fold_map, if_there, keep, total, unit}
use Rattle.row_bag.specs.Sets.{multiplicity}
use Rattle.row_bag.specs.declared.row.Row.{Row}
use Rattle.row_bag.proofs.Agreement.{sum-monoid, total-bind}
use Rattle.row_bag.proofs.Levels.{least-yes}
use Rattle.row_bag.specs.Filters.{passing}

pub total-image : {A B : Type 0} (w : B → Level → ℕ) (f : A → B) (rs : List (Row A)) → total ◌+◌ 0 w (bind rs (λ a. unit (f a))) ≡ total ◌+◌ 0 (λ a l. w (f a) l) rs
total-image w f rs =
    total-bind sum-monoid w rs (λ a. unit (f a))
    ∙ ap (λ v. fold_map ◌+◌ 0 v rs) (fun_ext (λ r. each f r.cells r.level))
  where
    each : {A : Type 0} (f : A → _) (a : A) (l : Level) → if_there 0 (λ a l. total ◌+◌ 0 w (keep l (unit (f a)))) a l ≡ if_there 0 (λ a l. w (f a) l) a l
    each f a No = refl
    each f a Cardinality = add-zero (w (f a) Cardinality)
    each f a Division = add-zero (w (f a) Division)
    each f a Overflow = add-zero (w (f a) Overflow)
    each f a Yes = add-zero (w (f a) Yes)

pub multiplicity-image : {A B : Type 0} (same : B → B → Bool) (k : B) (f : A → B) (rs : List (Row A)) → multiplicity same k (bind rs (λ a. unit (f a))) ≡ total ◌+◌ 0 (λ a l. cond (same (f a) k) 1 0) rs
multiplicity-image same k f rs = total-image (λ b l. cond (same b k) 1 0) f rs

-- what weighs no more, row by row
pub total-below : {A : Type 0} (w v : A → Level → ℕ) (rs : List (Row A)) → ((a : A) (l : Level) → w a l ≤ v a l) → total ◌+◌ 0 w rs ≤ total ◌+◌ 0 v rs
total-below w v [] h = omega arith
total-below w v (r ∷ rs) h = let first = one w v h r.cells r.level in let rest = total-below w v rs h in omega (arith, first, rest)
  where
    one : {A : Type 0} (w v : A → Level → ℕ) → ((a : A) (l : Level) → w a l ≤ v a l) → (a : A) (l : Level) → if_there 0 w a l ≤ if_there 0 v a l
    one w v h a No = omega arith
    one w v h a Cardinality = h a Cardinality
    one w v h a Division = h a Division
    one w v h a Overflow = h a Overflow
    one w v h a Yes = h a Yes

pub total-passing : {T M : Type 0} {op : M → M → M} {e : M} (m : IsCommutativeMonoid M op e) (w : T → Level → M) (t : T → Level) (rs : List (Row T)) → total op e w (passing t rs) ≡ total op e (λ c l. if_there e w c (least l (t c))) rs
total-passing {op = op} {e = e} m w t rs =
    total-bind m w rs (λ c. keep (t c) (unit c))
    ∙ ap (λ v. total op e v rs) (fun_ext (λ c. fun_ext (λ l.
    m.commutative (if_there e w c (least l (least (t c) Yes))) e ∙ m.unit (if_there e w c (least l (least (t c) Yes))) ∙ ap (λ k. if_there e w c (least l k)) (least-yes (t c)))))
