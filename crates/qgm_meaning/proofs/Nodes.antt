-- What a quantifier gives matters only where a node names it.
use Rattle.std.proofs.Common.{ℕ, ◌==◌, ◌≡◌, ◌||◌, Bool, true, false, List, [], ◌∷◌, refl, ap, ap₂, ◌∙◌}
use Rattle.std.specs.List.{list_any}
use Rattle.std.proofs.lemmas.Bool.{eq-eqb, or_left, or_right}
use mathlib.Core.Path.{fun_ext}
use Rattle.row_bag.specs.Bags.{total}
use Rattle.sql_value.specs.Arithmetic as a
use Rattle.sql_value.specs.Comparison as c
use Rattle.sql_value.specs.Truths as t
use Rattle.sql_value.specs.declared.cell.Cell.{Cell}
use Rattle.sql_value.specs.declared.truth.Truth.{Truth}
use Rattle.row_bag.specs.Subqueries.{presence}
use Rattle.row_bag.specs.Subqueries as subquery
use Rattle.qgm_terms.specs.Terms.{Term, int, text, null_int, null_text, col, both, minus_of, choose, count_all, fold, scalar, Arms, no_arm, arm, Cond, always, compare, is_null, and, or, not, some, every}
use Rattle.qgm_meaning.specs.Searches.{names, names_arms, names_cond}
use Rattle.qgm_meaning.specs.Values.{Bag, Environment, all_true, bound, chosen_at, compared, first_true, head_cells, operate, truth, value}

module _ (r s : ℕ → Bag) where
  -- both give the same for these
  abbrev pub Both : (ℕ → Bool) → Type 0
  Both looks = (q : ℕ) → looks q ≡ true → r q ≡ s q

  left : (f g : ℕ → Bool) → Both (λ q. f q || g q) → Both f
  left f g h q t = h q (or_left (f q) (g q) t)

  right : (f g : ℕ → Bool) → Both (λ q. f q || g q) → Both g
  right f g h q t = h q (or_right (f q) (g q) t)

  mutual
    pub value-nodes : (x : Term) (d : Environment) → Both (λ q. names q x) → value r x d ≡ value s x d
    value-nodes (int n) d h = refl
    value-nodes (text w) d h = refl
    value-nodes null_int d h = refl
    value-nodes null_text d h = refl
    value-nodes (col q k) d h = refl
    value-nodes (both o x y) d h = ap₂ (operate o) (value-nodes x d (left (λ q. names q x) (λ q. names q y) h)) (value-nodes y d (right (λ q. names q x) (λ q. names q y) h))
    value-nodes (minus_of x) d h = ap a.neg (value-nodes x d h)
    value-nodes (choose w x) d h = first_true-nodes w _ _ d (left (λ q. names_arms q w) (λ q. names q x) h) (value-nodes x d (right (λ q. names_arms q w) (λ q. names q x) h))
    value-nodes count_all d h = refl
    value-nodes (fold f t x) d h = refl
    value-nodes (scalar q) d h = ap subquery.scalar (h q (eq-eqb q q refl))

    first_true-nodes : (w : Arms) (x y : Cell) (d : Environment) → Both (λ q. names_arms q w) → x ≡ y → first_true r w x d ≡ first_true s w y d
    first_true-nodes no_arm x y d h k = k
    first_true-nodes (arm c z w) x y d h k =
        let rest = right (λ q. names_cond q c) (λ q. names q z || names_arms q w) h in
        ap (λ (l : Truth). chosen_at l.t (value r z d) (first_true r w x d)) (truth-nodes c d (left (λ q. names_cond q c) (λ q. names q z || names_arms q w) h))
        ∙ ap₂ (chosen_at (truth s c d).t) (value-nodes z d (left (λ q. names q z) (λ q. names_arms q w) rest)) (first_true-nodes w x y d (right (λ q. names q z) (λ q. names_arms q w) rest) k)

    pub truth-nodes : (c : Cond) (d : Environment) → Both (λ q. names_cond q c) → truth r c d ≡ truth s c d
    truth-nodes always d h = refl
    truth-nodes (compare sign x y) d h = ap₂ (compared sign) (value-nodes x d (left (λ q. names q x) (λ q. names q y) h)) (value-nodes y d (right (λ q. names q x) (λ q. names q y) h))
    truth-nodes (is_null x) d h = ap c.is_null (value-nodes x d h)
    truth-nodes (and b c) d h = ap₂ t.and (truth-nodes b d (left (λ q. names_cond q b) (λ q. names_cond q c) h)) (truth-nodes c d (right (λ q. names_cond q b) (λ q. names_cond q c) h))
    truth-nodes (or b c) d h = ap₂ t.or (truth-nodes b d (left (λ q. names_cond q b) (λ q. names_cond q c) h)) (truth-nodes c d (right (λ q. names_cond q b) (λ q. names_cond q c) h))
    truth-nodes (not c) d h = ap t.negated (truth-nodes c d h)
    truth-nodes (some q c) d h =
        ap₂ (λ (rows : Bag) (f : List Cell → Truth). total t.or (t.truth_of false) (λ cells level. t.and (presence level) (f cells)) rows) (h q (or_left (q == q) (names_cond q c) (eq-eqb q q refl)))
        (fun_ext (λ cells. truth-nodes c (bound q cells d) (right (λ x. q == x) (λ x. names_cond x c) h)))
    truth-nodes (every q c) d h =
        ap₂ (λ (rows : Bag) (f : List Cell → Truth). total t.and (t.truth_of true) (λ cells level. t.or (t.negated (presence level)) (f cells)) rows) (h q (or_left (q == q) (names_cond q c) (eq-eqb q q refl)))
        (fun_ext (λ cells. truth-nodes c (bound q cells d) (right (λ x. q == x) (λ x. names_cond x c) h)))

  pub all_true-nodes : (ps : List Cond) (d : Environment) → Both (λ q. list_any (names_cond q) ps) → all_true r ps d ≡ all_true s ps d
  all_true-nodes [] d h = refl
  all_true-nodes (c ∷ ps) d h = ap₂ t.and (truth-nodes c d (left (λ q. names_cond q c) (λ q. list_any (names_cond q) ps) h)) (all_true-nodes ps d (right (λ q. names_cond q c) (λ q. list_any (names_cond q) ps) h))

  pub head-nodes : (xs : List Term) (d : Environment) → Both (λ q. list_any (names q) xs) → head_cells r xs d ≡ head_cells s xs d
  head-nodes [] d h = refl
  head-nodes (x ∷ xs) d h = ap₂ (λ (c : Cell) (cs : List Cell). c ∷ cs) (value-nodes x d (left (λ q. names q x) (λ q. list_any (names q) xs) h)) (head-nodes xs d (right (λ q. names q x) (λ q. list_any (names q) xs) h))
