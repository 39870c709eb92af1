-- Cells and conditions where rows of some quantifiers lack a column that they don't name.
use Rattle.std.proofs.Common.{ℕ, ◌==◌, ◌≡◌, ◌&&◌, ◌-◌, ◌≤◌, nat_lt, cond, Bool, true, false, List, ◌∷◌, map, refl, sym, ap, ap₂, ◌∙◌, inl, inr, [], ◌||◌}
use Rattle.std.specs.List.{list_any}
use Rattle.std.proofs.lemmas.Bool.{cases_Bool, or_parts}
use mathlib.Core.Path.{fun_ext}
use Rattle.row_bag.specs.Order.{cell_of}
use Rattle.row_bag.specs.Subqueries as subquery
use Rattle.row_bag.specs.Subqueries.{presence}
use Rattle.sql_value.specs.Arithmetic as a
use Rattle.sql_value.specs.Comparison as c
use Rattle.sql_value.specs.Truths as t
use Rattle.sql_value.specs.declared.cell.Cell.{Cell}
use Rattle.sql_value.specs.declared.truth.Truth.{Truth}
use Rattle.qgm_terms.specs.Terms.{Term, int, text, null_int, null_text, col, both, minus_of, choose, count_all, fold, scalar, Arms, no_arm, arm, Cond, always, compare, is_null, and, or, not, some, every}
use Rattle.qgm_terms.specs.Wanted.{any_in, any_in_arms, any_in_cond}
use Rattle.qgm_meaning.specs.Values.{Bag, Environment, all_true, bound, chosen_at, compared, first_true, head_cells, operate, row_of, truth, value}
use Rattle.qgm_edit_laws.specs.FormedAdds.{of_column}
use Rattle.qgm_edit_laws.proofs.NarrowRows.{cell-narrow, narrow_if, narrowed, row-narrowed, scalar-slim, slim, total-slim}
use Rattle.qgm_edit_laws.proofs.RenamedColumns.{re, re_arms, re_cond}
use Rattle.list_laws.proofs.Membership.{eq-itself}

-- column k of the quantifiers that pass has gone: their later columns stand one place before
pub record Goes (k : ℕ) (over : ℕ → Bool) (place : ℕ → ℕ → ℕ) : Type 0 where
  pub from_one : 1 ≤ k
  pub stays : (q j : ℕ) → over q ≡ false → place q j ≡ j
  pub goes : (q j : ℕ) → over q ≡ true → place q j ≡ cond (nat_lt k j) (j - 1) j

-- none of the quantifiers that pass is asked for
abbrev pub Apart : (ℕ → Bool) → (ℕ → Bool) → Type 0
Apart over asked = (q : ℕ) → over q ≡ true → asked q ≡ false

module _ (k : ℕ) (over : ℕ → Bool) (place : ℕ → ℕ → ℕ) (g : Goes k over place) where
  left : (a b : ℕ → Bool) → Apart over (λ q. a q || b q) → Apart over a
  left a b h q t = (or_parts (a q) (b q) (h q t)).0

  right : (a b : ℕ → Bool) → Apart over (λ q. a q || b q) → Apart over b
  right a b h q t = (or_parts (a q) (b q) (h q t)).1

  column : (q j : ℕ) → ((r : ℕ) → over r ≡ true → ((q == r) && (j == k)) ≡ false) → (e : Environment) → cell_of (place q j) (row_of q (narrowed k over e)) ≡ cell_of j (row_of q e)
  column q j h e = ap (cell_of (place q j)) (row-narrowed k over q e) ∙ (elim (cases_Bool (over q)) [
    | inl t ↦ (
        let n : (j == k) ≡ false = sym (ap (λ b. b && (j == k)) (eq-itself q)) ∙ h q t in
        ap (λ b. cell_of (place q j) (narrow_if k b (row_of q e))) t ∙ ap (λ i. cell_of i (narrow_if k true (row_of q e))) (g.goes q j t) ∙ cell-narrow k g.from_one j (row_of q e) n)
    | inr f ↦ ap (λ b. cell_of (place q j) (narrow_if k b (row_of q e))) f ∙ ap (λ i. cell_of i (row_of q e)) (g.stays q j f)
  ])

  module _ (rows' rows : ℕ → Bag) (same : (q : ℕ) → rows' q ≡ slim k (over q) (rows q)) where
    of-scalar : (q : ℕ) → ((r : ℕ) → over r ≡ true → ((q == r) && (1 == k)) ≡ false) → subquery.scalar (rows' q) ≡ subquery.scalar (rows q)
    of-scalar q h = ap subquery.scalar (same q) ∙ (elim (cases_Bool (over q)) [
      | inl t ↦ (let n : (1 == k) ≡ false = sym (ap (λ b. b && (1 == k)) (eq-itself q)) ∙ h q t in ap (λ b. subquery.scalar (slim k b (rows q))) t ∙ scalar-slim k g.from_one n (rows q))
      | inr f ↦ ap (λ b. subquery.scalar (slim k b (rows q))) f
    ])

    mutual
      pub value-re : (x : Term) → Apart over (λ q. any_in (of_column q k) x) → (e : Environment) → value rows' (re place x) (narrowed k over e) ≡ value rows x e
      value-re (int n) h e = refl
      value-re (text s) h e = refl
      value-re null_int h e = refl
      value-re null_text h e = refl
      value-re (col q j) h e = column q j h e
      value-re (both o x y) h e = ap₂ (operate o) (value-re x (left (λ q. any_in (of_column q k) x) (λ q. any_in (of_column q k) y) h) e) (value-re y (right (λ q. any_in (of_column q k) x) (λ q. any_in (of_column q k) y) h) e)
      value-re (minus_of x) h e = ap a.neg (value-re x h e)
      value-re (choose s x) h e = first-re s (value rows' (re place x) (narrowed k over e)) (value rows x e) (left (λ q. any_in_arms (of_column q k) s) (λ q. any_in (of_column q k) x) h) e (value-re x (right (λ q. any_in_arms (of_column q k) s) (λ q. any_in (of_column q k) x) h) e)
      value-re count_all h e = refl
      value-re (fold f t x) h e = refl
      value-re (scalar q) h e = of-scalar q h

      first-re : (s : Arms) (x y : Cell) → Apart over (λ q. any_in_arms (of_column q k) s) → (e : Environment) → x ≡ y → first_true rows' (re_arms place s) x (narrowed k over e) ≡ first_true rows s y e
      first-re no_arm x y h e w = w
      first-re (arm p z s) x y h e w =
          let hp = left (λ q. any_in_cond (of_column q k) p) (λ q. any_in (of_column q k) z || any_in_arms (of_column q k) s) h in
          let hr = right (λ q. any_in_cond (of_column q k) p) (λ q. any_in (of_column q k) z || any_in_arms (of_column q k) s) h in
          ap (λ (l : Truth). chosen_at l.t (value rows' (re place z) (narrowed k over e)) (first_true rows' (re_arms place s) x (narrowed k over e))) (truth-re p hp e)
          ∙ ap₂ (chosen_at (truth rows p e).t) (value-re z (left (λ q. any_in (of_column q k) z) (λ q. any_in_arms (of_column q k) s) hr) e) (first-re s x y (right (λ q. any_in (of_column q k) z) (λ q. any_in_arms (of_column q k) s) hr) e w)

      pub truth-re : (p : Cond) → Apart over (λ q. any_in_cond (of_column q k) p) → (e : Environment) → truth rows' (re_cond place p) (narrowed k over e) ≡ truth rows p e
      truth-re always h e = refl
      truth-re (compare sign x y) h e = ap₂ (compared sign) (value-re x (left (λ q. any_in (of_column q k) x) (λ q. any_in (of_column q k) y) h) e) (value-re y (right (λ q. any_in (of_column q k) x) (λ q. any_in (of_column q k) y) h) e)
      truth-re (is_null x) h e = ap c.is_null (value-re x h e)
      truth-re (and p q) h e = ap₂ t.and (truth-re p (left (λ r. any_in_cond (of_column r k) p) (λ r. any_in_cond (of_column r k) q) h) e) (truth-re q (right (λ r. any_in_cond (of_column r k) p) (λ r. any_in_cond (of_column r k) q) h) e)
      truth-re (or p q) h e = ap₂ t.or (truth-re p (left (λ r. any_in_cond (of_column r k) p) (λ r. any_in_cond (of_column r k) q) h) e) (truth-re q (right (λ r. any_in_cond (of_column r k) p) (λ r. any_in_cond (of_column r k) q) h) e)
      truth-re (not p) h e = ap t.negated (truth-re p h e)
      truth-re (some q p) h e =
          ap (subquery.some (λ cells. truth rows' (re_cond place p) (bound q cells (narrowed k over e)))) (same q)
          ∙ total-slim k t.or (t.truth_of false) (λ cells level. t.and (presence level) (truth rows' (re_cond place p) (bound q cells (narrowed k over e)))) (over q) (rows q)
          ∙ ap (λ (f : List Cell → Truth). subquery.some f (rows q)) (fun_ext (λ cells. truth-re p h (bound q cells e)))
      truth-re (every q p) h e =
          ap (subquery.every (λ cells. truth rows' (re_cond place p) (bound q cells (narrowed k over e)))) (same q)
          ∙ total-slim k t.and (t.truth_of true) (λ cells level. t.or (t.negated (presence level)) (truth rows' (re_cond place p) (bound q cells (narrowed k over e)))) (over q) (rows q)
          ∙ ap (λ (f : List Cell → Truth). subquery.every f (rows q)) (fun_ext (λ cells. truth-re p h (bound q cells e)))

    pub conds-re : (ps : List Cond) → Apart over (λ q. list_any (any_in_cond (of_column q k)) ps) → (e : Environment) → all_true rows' (map (re_cond place) ps) (narrowed k over e) ≡ all_true rows ps e
    conds-re [] h e = refl
    conds-re (p ∷ ps) h e = ap₂ t.and (truth-re p (left (λ q. any_in_cond (of_column q k) p) (λ q. list_any (any_in_cond (of_column q k)) ps) h) e) (conds-re ps (right (λ q. any_in_cond (of_column q k) p) (λ q. list_any (any_in_cond (of_column q k)) ps) h) e)

    pub cells-re : (xs : List Term) → Apart over (λ q. list_any (any_in (of_column q k)) xs) → (e : Environment) → head_cells rows' (map (re place) xs) (narrowed k over e) ≡ head_cells rows xs e
    cells-re [] h e = refl
    cells-re (x ∷ xs) h e = ap₂ (λ (u : Cell) (us : List Cell). u ∷ us) (value-re x (left (λ q. any_in (of_column q k) x) (λ q. list_any (any_in (of_column q k)) xs) h) e) (cells-re xs (right (λ q. any_in (of_column q k) x) (λ q. list_any (any_in (of_column q k)) xs) h) e)
