-- Cells put in for columns of a quantifier that are these columns.
use Rattle.std.proofs.Common.{ℕ, ◌==◌, ◌≡◌, ◌&&◌, ◌||◌, cond, Bool, true, List, [], ◌∷◌, map, refl, sym, ap, ap₂, ◌∙◌, eqb-true, inl, inr}
use Rattle.std.specs.Prelude as prelude
use Rattle.std.specs.List.{list_any}
use Rattle.std.proofs.lemmas.Bool.{and_from, cases_Bool, or_left, or_right}
use Rattle.qgm_core.specs.declared.node.Node.{Node}
use Rattle.qgm_terms.specs.Terms.{Term, int, text, null_int, null_text, col, both, minus_of, choose, count_all, fold, scalar, Arms, no_arm, arm, Cond, always, compare, is_null, and, or, not, some, every}
use Rattle.qgm_terms.specs.Substitution.{cell_at, substituted, substituted_arms, substituted_cond}
use Rattle.qgm_terms.specs.Wanted.{reads_at, reads_at_cond}
use Rattle.qgm_meaning.specs.Scope.{put_node}
use Rattle.qgm_meaning.specs.Searches.{reads_at_arms}
use Rattle.qgm_edit_laws.specs.Graph.{reads_in}
use Rattle.list_laws.proofs.Membership.{eq-itself}

module _ (q : ℕ) (cells : List Term) where
  -- the cell of each column that is read is this column
  abbrev pub Same : (ℕ → Bool) → Type 0
  Same read = (k : ℕ) → read k ≡ true → cell_at k cells ≡ col q k

  within : (r : ℕ) (c : Cond) → Same (λ k. prelude.not (r == q) && reads_at_cond q k c) → (Same (λ k. reads_at_cond q k c) → substituted_cond q cells c ≡ c) → cond (r == q) c (substituted_cond q cells c) ≡ c
  within r c h ih = elim (cases_Bool (r == q)) [
    | inl t ↦ ap (λ (b : Bool). cond b c (substituted_cond q cells c)) t
    | inr f ↦ ap (λ (b : Bool). cond b c (substituted_cond q cells c)) f ∙ ih (λ k t. h k (and_from (prelude.not (r == q)) (reads_at_cond q k c) (ap prelude.not f) t))
  ]

  mutual
    same-term : (x : Term) → Same (λ k. reads_at q k x) → substituted q cells x ≡ x
    same-term (int n) h = refl
    same-term (text s) h = refl
    same-term null_int h = refl
    same-term null_text h = refl
    same-term (col r k) h = elim (cases_Bool (r == q)) [
      | inl t ↦ ap (λ (b : Bool). cond b (cell_at k cells) (col r k)) t ∙ h k (and_from (r == q) (k == k) t (eq-itself k)) ∙ ap (λ (z : ℕ). col z k) (sym (eqb-true r q t))
      | inr f ↦ ap (λ (b : Bool). cond b (cell_at k cells) (col r k)) f
    ]
    same-term (both o x y) h = ap₂ (both o) (same-term x (λ k t. h k (or_left (reads_at q k x) (reads_at q k y) t))) (same-term y (λ k t. h k (or_right (reads_at q k x) (reads_at q k y) t)))
    same-term (minus_of x) h = ap minus_of (same-term x h)
    same-term (choose s x) h = ap₂ choose (same-arms s (λ k t. h k (or_left (reads_at_arms q k s) (reads_at q k x) t))) (same-term x (λ k t. h k (or_right (reads_at_arms q k s) (reads_at q k x) t)))
    same-term count_all h = refl
    same-term (fold f t x) h = ap (fold f t) (same-term x h)
    same-term (scalar r) h = refl

    same-arms : (s : Arms) → Same (λ k. reads_at_arms q k s) → substituted_arms q cells s ≡ s
    same-arms no_arm h = refl
    same-arms (arm c x s) h =
        ap₂ (λ (a : Cond) (p : Term × Arms). arm a p.0 p.1) (same-cond c (λ k t. h k (or_left (reads_at_cond q k c) (reads_at q k x || reads_at_arms q k s) t)))
        (ap₂ (λ (a : Term) (b : Arms). (a, b))
        (same-term x (λ k t. h k (or_right (reads_at_cond q k c) (reads_at q k x || reads_at_arms q k s) (or_left (reads_at q k x) (reads_at_arms q k s) t))))
        (same-arms s (λ k t. h k (or_right (reads_at_cond q k c) (reads_at q k x || reads_at_arms q k s) (or_right (reads_at q k x) (reads_at_arms q k s) t)))))

    same-cond : (c : Cond) → Same (λ k. reads_at_cond q k c) → substituted_cond q cells c ≡ c
    same-cond always h = refl
    same-cond (compare s x y) h = ap₂ (compare s) (same-term x (λ k t. h k (or_left (reads_at q k x) (reads_at q k y) t))) (same-term y (λ k t. h k (or_right (reads_at q k x) (reads_at q k y) t)))
    same-cond (is_null x) h = ap is_null (same-term x h)
    same-cond (and c d) h = ap₂ and (same-cond c (λ k t. h k (or_left (reads_at_cond q k c) (reads_at_cond q k d) t))) (same-cond d (λ k t. h k (or_right (reads_at_cond q k c) (reads_at_cond q k d) t)))
    same-cond (or c d) h = ap₂ or (same-cond c (λ k t. h k (or_left (reads_at_cond q k c) (reads_at_cond q k d) t))) (same-cond d (λ k t. h k (or_right (reads_at_cond q k c) (reads_at_cond q k d) t)))
    same-cond (not c) h = ap not (same-cond c h)
    same-cond (some r c) h = ap (some r) (within r c h (same-cond c))
    same-cond (every r c) h = ap (every r) (within r c h (same-cond c))

  same-terms : (xs : List Term) → Same (λ k. list_any (reads_at q k) xs) → map (substituted q cells) xs ≡ xs
  same-terms [] h = refl
  same-terms (x ∷ xs) h = ap₂ (λ (a : Term) (b : List Term). a ∷ b) (same-term x (λ k t. h k (or_left (reads_at q k x) (list_any (reads_at q k) xs) t))) (same-terms xs (λ k t. h k (or_right (reads_at q k x) (list_any (reads_at q k) xs) t)))

  same-conds : (xs : List Cond) → Same (λ k. list_any (reads_at_cond q k) xs) → map (substituted_cond q cells) xs ≡ xs
  same-conds [] h = refl
  same-conds (x ∷ xs) h = ap₂ (λ (a : Cond) (b : List Cond). a ∷ b) (same-cond x (λ k t. h k (or_left (reads_at_cond q k x) (list_any (reads_at_cond q k) xs) t))) (same-conds xs (λ k t. h k (or_right (reads_at_cond q k x) (list_any (reads_at_cond q k) xs) t)))

  -- a box that reads such columns alone stays
  pub same-node : (y : Node) → Same (λ k. reads_in q k y) → put_node q cells y ≡ y
  same-node y h =
      ap₂ (λ (a : List Term) (c : List Cond). record y { parts = record y.parts { head = a; conds = record y.parts.conds { items = c } } })
      (same-terms y.parts.head (λ k t. h k (or_left (list_any (reads_at q k) y.parts.head) (list_any (reads_at_cond q k) y.parts.conds.items) t)))
      (same-conds y.parts.conds.items (λ k t. h k (or_right (list_any (reads_at q k) y.parts.head) (list_any (reads_at_cond q k) y.parts.conds.items) t)))
