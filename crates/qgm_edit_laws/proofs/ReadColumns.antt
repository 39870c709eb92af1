-- Expressions and conditions go by the columns that they read.
use Rattle.std.proofs.Common.{ℕ, ◌==◌, ◌≡◌, ◌&&◌, not, cond, Bool, true, List, refl, sym, ap, ap₂, ◌∙◌, inl, inr, ◌||◌}
use Rattle.std.proofs.lemmas.Bool.{and_from, cases_Bool, or_left, or_right}
use mathlib.Core.Path.{fun_ext}
use Rattle.row_bag.specs.Order.{cell_of}
use Rattle.row_bag.specs.Subqueries as subquery
use Rattle.sql_value.specs.Arithmetic as a
use Rattle.sql_value.specs.Comparison as c
use Rattle.sql_value.specs.Truths as t
use Rattle.sql_value.specs.declared.cell.Cell.{Cell}
use Rattle.sql_value.specs.declared.truth.Truth.{Truth}
use Rattle.qgm_terms.specs.Terms.{Term, int, text, null_int, null_text, col, both, minus_of, choose, count_all, fold, scalar, Arms, no_arm, arm, Cond, always, compare, is_null, and, or, some, every}
use Rattle.qgm_terms.specs.Terms as term
use Rattle.qgm_terms.specs.Wanted.{reads_at, reads_at_cond}
use Rattle.qgm_meaning.specs.Searches.{reads_at_arms}
use Rattle.qgm_meaning.specs.Values.{Bag, Environment, bound, chosen_at, compared, first_true, operate, row_of, truth, value}
use Rattle.list_laws.proofs.Membership.{eq-itself}

-- the columns that are read are the same in both
abbrev pub SameColumns : (ℕ → ℕ → Bool) → Environment → Environment → Type 0
SameColumns reads d e = (q j : ℕ) → reads q j ≡ true → cell_of j (row_of q d) ≡ cell_of j (row_of q e)

module _ (rows : ℕ → Bag) where
  left : (a b : ℕ → ℕ → Bool) (d e : Environment) → SameColumns (λ q j. a q j || b q j) d e → SameColumns a d e
  left a b d e h q j t = h q j (or_left (a q j) (b q j) t)

  right : (a b : ℕ → ℕ → Bool) (d e : Environment) → SameColumns (λ q j. a q j || b q j) d e → SameColumns b d e
  right a b d e h q j t = h q j (or_right (a q j) (b q j) t)

  inside : (r : ℕ) (a : ℕ → ℕ → Bool) (d e : Environment) (cells : List Cell) → SameColumns (λ q j. not (r == q) && a q j) d e → SameColumns a (bound r cells d) (bound r cells e)
  inside r a d e cells h q j t = elim (cases_Bool (r == q)) [
    | inl y ↦ ap (λ b. cell_of j (cond b cells (row_of q d))) y ∙ sym (ap (λ b. cell_of j (cond b cells (row_of q e))) y)
    | inr n ↦ ap (λ b. cell_of j (cond b cells (row_of q d))) n ∙ h q j (and_from (not (r == q)) (a q j) (ap not n) t) ∙ sym (ap (λ b. cell_of j (cond b cells (row_of q e))) n)
  ]

  mutual
    pub value-columns : (x : Term) (d e : Environment) → SameColumns (λ q j. reads_at q j x) d e → value rows x d ≡ value rows x e
    value-columns (int n) d e h = refl
    value-columns (text s) d e h = refl
    value-columns null_int d e h = refl
    value-columns null_text d e h = refl
    value-columns (col q j) d e h = h q j (and_from (q == q) (j == j) (eq-itself q) (eq-itself j))
    value-columns (both o x y) d e h = ap₂ (operate o) (value-columns x d e (left (λ q j. reads_at q j x) (λ q j. reads_at q j y) d e h)) (value-columns y d e (right (λ q j. reads_at q j x) (λ q j. reads_at q j y) d e h))
    value-columns (minus_of x) d e h = ap a.neg (value-columns x d e h)
    value-columns (choose s x) d e h = first-columns s (value rows x d) (value rows x e) d e (left (λ q j. reads_at_arms q j s) (λ q j. reads_at q j x) d e h) (value-columns x d e (right (λ q j. reads_at_arms q j s) (λ q j. reads_at q j x) d e h))
    value-columns count_all d e h = refl
    value-columns (fold f t x) d e h = refl
    value-columns (scalar q) d e h = refl

    first-columns : (s : Arms) (x y : Cell) (d e : Environment) → SameColumns (λ q j. reads_at_arms q j s) d e → x ≡ y → first_true rows s x d ≡ first_true rows s y e
    first-columns no_arm x y d e h w = w
    first-columns (arm p z s) x y d e h w =
        let hr = right (λ q j. reads_at_cond q j p) (λ q j. reads_at q j z || reads_at_arms q j s) d e h in
        ap (λ (l : Truth). chosen_at l.t (value rows z d) (first_true rows s x d)) (truth-columns p d e (left (λ q j. reads_at_cond q j p) (λ q j. reads_at q j z || reads_at_arms q j s) d e h))
        ∙ ap₂ (chosen_at (truth rows p e).t) (value-columns z d e (left (λ q j. reads_at q j z) (λ q j. reads_at_arms q j s) d e hr)) (first-columns s x y d e (right (λ q j. reads_at q j z) (λ q j. reads_at_arms q j s) d e hr) w)

    pub truth-columns : (p : Cond) (d e : Environment) → SameColumns (λ q j. reads_at_cond q j p) d e → truth rows p d ≡ truth rows p e
    truth-columns always d e h = refl
    truth-columns (compare sign x y) d e h = ap₂ (compared sign) (value-columns x d e (left (λ q j. reads_at q j x) (λ q j. reads_at q j y) d e h)) (value-columns y d e (right (λ q j. reads_at q j x) (λ q j. reads_at q j y) d e h))
    truth-columns (is_null x) d e h = ap c.is_null (value-columns x d e h)
    truth-columns (and p q) d e h = ap₂ t.and (truth-columns p d e (left (λ r j. reads_at_cond r j p) (λ r j. reads_at_cond r j q) d e h)) (truth-columns q d e (right (λ r j. reads_at_cond r j p) (λ r j. reads_at_cond r j q) d e h))
    truth-columns (or p q) d e h = ap₂ t.or (truth-columns p d e (left (λ r j. reads_at_cond r j p) (λ r j. reads_at_cond r j q) d e h)) (truth-columns q d e (right (λ r j. reads_at_cond r j p) (λ r j. reads_at_cond r j q) d e h))
    truth-columns (term.not p) d e h = ap t.negated (truth-columns p d e h)
    truth-columns (some r p) d e h = ap (λ (f : List Cell → Truth). subquery.some f (rows r)) (fun_ext (λ cells. truth-columns p (bound r cells d) (bound r cells e) (inside r (λ q j. reads_at_cond q j p) d e cells h)))
    truth-columns (every r p) d e h = ap (λ (f : List Cell → Truth). subquery.every f (rows r)) (fun_ext (λ cells. truth-columns p (bound r cells d) (bound r cells e) (inside r (λ q j. reads_at_cond q j p) d e cells h)))
