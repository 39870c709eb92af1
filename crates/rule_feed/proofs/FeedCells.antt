-- Cells and conditions of b over the rows of the fed box: what they were over those of c.
use Rattle.std.proofs.Common.{ℕ, ◌==◌, ◌≡◌, ◌||◌, cond, Bool, true, false, List, [], ◌∷◌, ◌++◌, map, length, refl, sym, ap, ap₂, ◌∙◌, eqb-true, inl, inr}
use Rattle.std.specs.Prelude as prelude
use Rattle.std.specs.List.{list_any}
use Rattle.std.proofs.lemmas.Bool.{and_from, cases_Bool, eq-eqb, or_left, or_right}
use mathlib.Core.Path.{fun_ext}
use Rattle.row_bag.specs.Order.{cell_of}
use Rattle.row_bag.specs.Subqueries as subquery
use Rattle.sql_value.specs.Arithmetic as a
use Rattle.sql_value.specs.Comparison as c
use Rattle.sql_value.specs.Truths as t
use Rattle.sql_value.specs.declared.cell.Cell.{Cell}
use Rattle.sql_value.specs.declared.truth.Truth.{Truth}
use Rattle.qgm_terms.specs.Terms.{Term, int, text, null_int, null_text, col, both, minus_of, choose, count_all, fold, scalar, Arms, no_arm, arm, Cond, always, compare, is_null, and, or, not, some, every}
use Rattle.qgm_terms.specs.Wanted.{reads, reads_cond}
use Rattle.qgm_meaning.specs.Searches.{reads_arms}
use Rattle.qgm_meaning.specs.Values.{Bag, Environment, all_true, bound, chosen_at, compared, first_true, head_cells, operate, row_of, truth, value}
use Rattle.rule_feed.specs.Feed.{fed_arms, fed_cond, fed_term, nodes_of, nodes_of_arms, nodes_of_cond, up}
use Rattle.rule_feed.proofs.FeedPicks.{cell-up}
use Rattle.list_laws.proofs.Booleans.{neither-left, neither-right}
use Rattle.list_laws.proofs.Membership.{eq-false-sym}

-- d is e, where p has this row; and columns of i are behind n others
pub record Beside (i p : ℕ) (row : List Cell) (d e : Environment) : Type 0 where
  pub others : (x : ℕ) → (x == i) ≡ false → row_of x d ≡ row_of x e
  pub at : row_of p d ≡ row

abbrev pub Behind : ℕ → ℕ → Environment → Environment → Type 0
Behind i n d e = (j : ℕ) → cell_of (up n j) (row_of i d) ≡ cell_of j (row_of i e)

module _ (i p : ℕ) (k : Cond) (row tag : List Cell) (S T : ℕ → Bag) (rest : (q : ℕ) → (q == i) ≡ false → T q ≡ S q) (apart : (i == p) ≡ false)
    (of-some : (d : Environment) → row_of p d ≡ row → (f g : List Cell → Truth) → ((cells : List Cell) → f (tag ++ cells) ≡ g cells) → subquery.some (λ x. t.and (truth T k (bound i x d)) (f x)) (T i) ≡ subquery.some g (S i))
    (of-every : (d : Environment) → row_of p d ≡ row → (f g : List Cell → Truth) → ((cells : List Cell) → f (tag ++ cells) ≡ g cells) → subquery.every (λ x. t.or (t.negated (truth T k (bound i x d))) (f x)) (T i) ≡ subquery.every g (S i)) where
  abbrev n : ℕ
  n = length tag

  pub beside-bound : (d e : Environment) (r : ℕ) (cells : List Cell) → Beside i p row d e → (r == p) ≡ false → Beside i p row (bound r cells d) (bound r cells e)
  beside-bound d e r cells h u = record {
    others = λ x f. ap (λ (z : List Cell). cond (r == x) cells z) (h.others x f);
    at = ap (λ (b : Bool). cond b cells (row_of p d)) u ∙ h.at;
  }

  -- a row of c, and the same behind the tag
  pub beside-i : (d e : Environment) (cells : List Cell) → Beside i p row d e → Beside i p row (bound i (tag ++ cells) d) (bound i cells e)
  beside-i d e cells h = record {
    others = λ x f. (
        let g = eq-false-sym x i f in
        ap (λ (b : Bool). cond b (tag ++ cells) (row_of x d)) g ∙ h.others x f ∙ sym (ap (λ (b : Bool). cond b cells (row_of x e)) g));
    at = ap (λ (b : Bool). cond b (tag ++ cells) (row_of p d)) apart ∙ h.at;
  }

  pub behind-i : (d e : Environment) (cells : List Cell) → Behind i n (bound i (tag ++ cells) d) (bound i cells e)
  behind-i d e cells j =
      ap (λ (b : Bool). cell_of (up n j) (cond b (tag ++ cells) (row_of i d))) (eq-eqb i i refl) ∙ cell-up tag cells j ∙ sym (ap (λ (b : Bool). cell_of j (cond b cells (row_of i e))) (eq-eqb i i refl))

  pub behind-other : (d e : Environment) (r : ℕ) (cells : List Cell) → (r == i) ≡ false → Behind i n d e → Behind i n (bound r cells d) (bound r cells e)
  behind-other d e r cells f h j = ap (λ (b : Bool). cell_of (up n j) (cond b cells (row_of i d))) f ∙ h j ∙ sym (ap (λ (b : Bool). cell_of j (cond b cells (row_of i e))) f)

  mutual
    pub value-fed : (x : Term) (d e : Environment) → Beside i p row d e → (reads i x ≡ true → Behind i n d e) → nodes_of i p x ≡ false → value T (fed_term i n k x) d ≡ value S x e
    value-fed (int m) d e h u w = refl
    value-fed (text s) d e h u w = refl
    value-fed null_int d e h u w = refl
    value-fed null_text d e h u w = refl
    value-fed (col r j) d e h u w = elim (cases_Bool (r == i)) [
      | inl s ↦ ap (λ (b : Bool). value T (cond b (col r (up n j)) (col r j)) d) s ∙ ap (λ (z : ℕ). cell_of (up n j) (row_of z d)) (eqb-true r i s) ∙ u s j ∙ ap (λ (z : ℕ). cell_of j (row_of z e)) (sym (eqb-true r i s))
      | inr s ↦ ap (λ (b : Bool). value T (cond b (col r (up n j)) (col r j)) d) s ∙ ap (cell_of j) (h.others r s)
    ]
    value-fed (both o x y) d e h u w =
        ap₂ (operate o) (value-fed x d e h (λ s. u (or_left (reads i x) (reads i y) s)) (neither-left (nodes_of i p x) (nodes_of i p y) w))
        (value-fed y d e h (λ s. u (or_right (reads i x) (reads i y) s)) (neither-right (nodes_of i p x) (nodes_of i p y) w))
    value-fed (minus_of x) d e h u w = ap a.neg (value-fed x d e h u w)
    value-fed (choose s x) d e h u w =
        first-fed s (value T (fed_term i n k x) d) (value S x e) d e h (λ z. u (or_left (reads_arms i s) (reads i x) z)) (neither-left (nodes_of_arms i p s) (nodes_of i p x) w)
        (value-fed x d e h (λ z. u (or_right (reads_arms i s) (reads i x) z)) (neither-right (nodes_of_arms i p s) (nodes_of i p x) w))
    value-fed count_all d e h u w = refl
    value-fed (fold f z x) d e h u w = refl
    value-fed (scalar r) d e h u w = ap subquery.scalar (rest r w)

    first-fed : (s : Arms) (x y : Cell) (d e : Environment) → Beside i p row d e → (reads_arms i s ≡ true → Behind i n d e) → nodes_of_arms i p s ≡ false → x ≡ y → first_true T (fed_arms i n k s) x d ≡ first_true S s y e
    first-fed no_arm x y d e h u w l = l
    first-fed (arm c z s) x y d e h u w l =
        let more = neither-right (nodes_of_cond i p c) (nodes_of i p z || nodes_of_arms i p s) w in
        ap (λ (q : Truth). chosen_at q.t (value T (fed_term i n k z) d) (first_true T (fed_arms i n k s) x d))
        (truth-fed c d e h (λ b. u (or_left (reads_cond i c) (reads i z || reads_arms i s) b)) (neither-left (nodes_of_cond i p c) (nodes_of i p z || nodes_of_arms i p s) w))
        ∙ ap₂ (chosen_at (truth S c e).t)
        (value-fed z d e h (λ b. u (or_right (reads_cond i c) (reads i z || reads_arms i s) (or_left (reads i z) (reads_arms i s) b))) (neither-left (nodes_of i p z) (nodes_of_arms i p s) more))
        (first-fed s x y d e h (λ b. u (or_right (reads_cond i c) (reads i z || reads_arms i s) (or_right (reads i z) (reads_arms i s) b))) (neither-right (nodes_of i p z) (nodes_of_arms i p s) more) l)

    pub truth-fed : (c : Cond) (d e : Environment) → Beside i p row d e → (reads_cond i c ≡ true → Behind i n d e) → nodes_of_cond i p c ≡ false → truth T (fed_cond i n k c) d ≡ truth S c e
    truth-fed always d e h u w = refl
    truth-fed (compare s x y) d e h u w =
        ap₂ (compared s) (value-fed x d e h (λ z. u (or_left (reads i x) (reads i y) z)) (neither-left (nodes_of i p x) (nodes_of i p y) w))
        (value-fed y d e h (λ z. u (or_right (reads i x) (reads i y) z)) (neither-right (nodes_of i p x) (nodes_of i p y) w))
    truth-fed (is_null x) d e h u w = ap c.is_null (value-fed x d e h u w)
    truth-fed (and b c) d e h u w =
        ap₂ t.and (truth-fed b d e h (λ z. u (or_left (reads_cond i b) (reads_cond i c) z)) (neither-left (nodes_of_cond i p b) (nodes_of_cond i p c) w))
        (truth-fed c d e h (λ z. u (or_right (reads_cond i b) (reads_cond i c) z)) (neither-right (nodes_of_cond i p b) (nodes_of_cond i p c) w))
    truth-fed (or b c) d e h u w =
        ap₂ t.or (truth-fed b d e h (λ z. u (or_left (reads_cond i b) (reads_cond i c) z)) (neither-left (nodes_of_cond i p b) (nodes_of_cond i p c) w))
        (truth-fed c d e h (λ z. u (or_right (reads_cond i b) (reads_cond i c) z)) (neither-right (nodes_of_cond i p b) (nodes_of_cond i p c) w))
    truth-fed (not c) d e h u w = ap t.negated (truth-fed c d e h u w)
    truth-fed (some r c) d e h u w =
        let l = neither-left (r == p) (nodes_of_cond i p c) w in
        let m = neither-right (r == p) (nodes_of_cond i p c) w in
        elim (cases_Bool (r == i)) [
          | inl s ↦
              ap (λ (b : Bool). subquery.some (λ x. truth T (cond b (and k (fed_cond i n k c)) (fed_cond i n k c)) (bound r x d)) (T r)) s
              ∙ ap (λ (z : ℕ). subquery.some (λ x. t.and (truth T k (bound z x d)) (truth T (fed_cond i n k c) (bound z x d))) (T z)) (eqb-true r i s)
              ∙ of-some d h.at (λ x. truth T (fed_cond i n k c) (bound i x d)) (λ x. truth S c (bound i x e)) (λ cells. truth-fed c (bound i (tag ++ cells) d) (bound i cells e) (beside-i d e cells h) (λ z. behind-i d e cells) m)
              ∙ sym (ap (λ (z : ℕ). subquery.some (λ x. truth S c (bound z x e)) (S z)) (eqb-true r i s))
          | inr s ↦
              ap (λ (b : Bool). subquery.some (λ x. truth T (cond b (and k (fed_cond i n k c)) (fed_cond i n k c)) (bound r x d)) (T r)) s
              ∙ ap₂ (λ (f : List Cell → Truth) (rows : Bag). subquery.some f rows)
              (fun_ext (λ x. truth-fed c (bound r x d) (bound r x e) (beside-bound d e r x h l) (λ z. behind-other d e r x s (u (and_from (prelude.not (r == i)) (reads_cond i c) (ap prelude.not s) z))) m)) (rest r s)
        ]
    truth-fed (every r c) d e h u w =
        let l = neither-left (r == p) (nodes_of_cond i p c) w in
        let m = neither-right (r == p) (nodes_of_cond i p c) w in
        elim (cases_Bool (r == i)) [
          | inl s ↦
              ap (λ (b : Bool). subquery.every (λ x. truth T (cond b (or (not k) (fed_cond i n k c)) (fed_cond i n k c)) (bound r x d)) (T r)) s
              ∙ ap (λ (z : ℕ). subquery.every (λ x. t.or (t.negated (truth T k (bound z x d))) (truth T (fed_cond i n k c) (bound z x d))) (T z)) (eqb-true r i s)
              ∙ of-every d h.at (λ x. truth T (fed_cond i n k c) (bound i x d)) (λ x. truth S c (bound i x e)) (λ cells. truth-fed c (bound i (tag ++ cells) d) (bound i cells e) (beside-i d e cells h) (λ z. behind-i d e cells) m)
              ∙ sym (ap (λ (z : ℕ). subquery.every (λ x. truth S c (bound z x e)) (S z)) (eqb-true r i s))
          | inr s ↦
              ap (λ (b : Bool). subquery.every (λ x. truth T (cond b (or (not k) (fed_cond i n k c)) (fed_cond i n k c)) (bound r x d)) (T r)) s
              ∙ ap₂ (λ (f : List Cell → Truth) (rows : Bag). subquery.every f rows)
              (fun_ext (λ x. truth-fed c (bound r x d) (bound r x e) (beside-bound d e r x h l) (λ z. behind-other d e r x s (u (and_from (prelude.not (r == i)) (reads_cond i c) (ap prelude.not s) z))) m)) (rest r s)
        ]

  pub all-fed : (ps : List Cond) (d e : Environment) → Beside i p row d e → (list_any (reads_cond i) ps ≡ true → Behind i n d e) → list_any (nodes_of_cond i p) ps ≡ false → all_true T (map (fed_cond i n k) ps) d ≡ all_true S ps e
  all-fed [] d e h u w = refl
  all-fed (c ∷ ps) d e h u w =
      ap₂ t.and (truth-fed c d e h (λ z. u (or_left (reads_cond i c) (list_any (reads_cond i) ps) z)) (neither-left (nodes_of_cond i p c) (list_any (nodes_of_cond i p) ps) w))
      (all-fed ps d e h (λ z. u (or_right (reads_cond i c) (list_any (reads_cond i) ps) z)) (neither-right (nodes_of_cond i p c) (list_any (nodes_of_cond i p) ps) w))

  pub head-fed : (xs : List Term) (d e : Environment) → Beside i p row d e → (list_any (reads i) xs ≡ true → Behind i n d e) → list_any (nodes_of i p) xs ≡ false → head_cells T (map (fed_term i n k) xs) d ≡ head_cells S xs e
  head-fed [] d e h u w = refl
  head-fed (x ∷ xs) d e h u w =
      ap₂ (λ (y : Cell) (ys : List Cell). y ∷ ys) (value-fed x d e h (λ z. u (or_left (reads i x) (list_any (reads i) xs) z)) (neither-left (nodes_of i p x) (list_any (nodes_of i p) xs) w))
      (head-fed xs d e h (λ z. u (or_right (reads i x) (list_any (reads i) xs) z)) (neither-right (nodes_of i p x) (list_any (nodes_of i p) xs) w))
