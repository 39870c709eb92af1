-- Columns of one quantifier in the place of those of another, in all cells and conditions of a box without nodes.
use Rattle.std.proofs.Common.{ℕ, zero, suc, ◌==◌, ◌≡◌, ◌≤◌, ◌<◌, ◌+◌, ◌&&◌, cond, not, get_or, true, false, List, [], ◌∷◌, map, refl, ap, ap₂, subst, ◌∙◌, eqb-true, ◌⊎◌, inl, inr, arith}
use Rattle.std.specs.List.{list_all, list_any}
use Rattle.std.proofs.lemmas.Bool.{and_from, cases_Bool, or_left, or_parts, or_right}
use Rattle.list_laws.specs.Lists.{In}
use Rattle.qgm_core.specs.declared.node.Node.{Node}
use Rattle.qgm_meaning.specs.Scope.{put_node, read_by}
use Rattle.qgm_meaning.specs.Searches.{names, names_cond}
use Rattle.qgm_meaning.specs.Tags.{columns_from}
use Rattle.qgm_terms.specs.Substitution.{cell_at, substituted, substituted_cond}
use Rattle.qgm_terms.specs.Terms as t
use Rattle.qgm_terms.specs.Terms.{Cond, Term}
use Rattle.qgm_terms.specs.Wanted.{has_aggregate, reads, reads_at, reads_at_cond, wanted}
use Rattle.qgm_terms.specs.declared.sought.Sought.TheVariants.{Aggregate}
use Rattle.qgm_wellformed.specs.Shapes.{is_column, is_unfolded}
use Rattle.qgm_wellformed.specs.Types.{Lookup, cond_fits, term_type}
use Rattle.qgm_edit_laws.specs.Graph.{nodes_in, reads_in}
use Rattle.qgm_edit_laws.proofs.AnyPut.{cell-any}
use Rattle.qgm_edit_laws.proofs.PutTypes.{cond-mixed, mixed, term-mixed}
use Rattle.qgm_edit_laws.proofs.ShapedPut.{conds-same, heads-same}
use Rattle.rule_feed.proofs.FeedScope.{none-true, put-found, put-node_of, put-read_at}
use Rattle.rule_magic.proofs.AbsorbFacts.{read-columns}
use Rattle.rule_magic.proofs.BehindColumns.{cell-at-none, pointwise}
use Rattle.rule_magic.proofs.PairFormed.{read-at-columns}
use Rattle.rule_magic.proofs.RenamedMade.{bare-columns}
use Rattle.list_laws.proofs.Booleans.{clash}
use Rattle.list_laws.proofs.Membership.{all-in, any-from, any-none, eq-itself}

-- a cell within the columns is a column
get-column : (q j n i : ℕ) → i < n → is_column (get_or (columns_from q j n) i t.null_int) ≡ true
get-column q j zero i h = absurd (omega (arith, h))
get-column q j (suc n) zero h = refl
get-column q j (suc n) (suc i) h = get-column q (suc j) n i (omega (arith, h))

cell-column : (q j n k : ℕ) → (1 ≤ k) × (k ≤ n) → is_column (cell_at k (columns_from q j n)) ≡ true
cell-column q j n zero h = absurd (let l = h.0 in omega (arith, l))
cell-column q j n (suc i) h = get-column q j n i (let l = h.1 in omega (arith, l))

-- n columns of p from place j on in the place of those of q
module _ (q p j n : ℕ) (y : Node) (none : (r : ℕ) → nodes_in r y ≡ false) where
  abbrev cells : List Term
  cells = columns_from p j n

  abbrev z : Node
  z = put_node q (columns_from p j n) y

  pub none-put : (r : ℕ) → nodes_in r (put_node q (columns_from p j n) y) ≡ false
  none-put r = elim (cases_Bool (nodes_in r z)) [ inr f ↦ f | inl e ↦ absurd (clash (nodes_in r y) (put-node_of q cells y r (bare-columns p j n) (none q) e) (none r)) ]

  pub read-put : (r : ℕ) → read_by (put_node q (columns_from p j n) y) r ≡ true → ((read_by y r ≡ true) × ((r == q) ≡ false)) ⊎ ((p == r) ≡ true)
  read-put r h = elim (put-found q cells (λ u k. u == r) (λ u. false) (λ u. false) (λ u. not (u == r)) ((r == q) ≡ false) (λ u k f e. subst (λ v. (v == q) ≡ false) (eqb-true u r e) f) (λ u f e. none-true e) (λ u f e. none-true e) y (none q) h) [
    | inl x ↦ inl x
    | inr x ↦ inr (read-columns r p j n (cell-any (reads r) cells x.0 refl x.1.1))
  ]

  pub read-at-put : (r k : ℕ) → reads_in r k (put_node q (columns_from p j n) y) ≡ true → ((reads_in r k y ≡ true) × ((r == q) ≡ false)) ⊎ (((p == r) ≡ true) × ((j ≤ k) × (k < j + n)))
  read-at-put r k h = elim (put-read_at q cells y r k (none q) h) [ inl x ↦ inl x | inr x ↦ (let v = read-at-columns r k p j n (cell-any (reads_at r k) cells x.0 refl x.1.1) in inr (v.0, (v.1, v.2))) ]

  pub unfolded-put : is_unfolded (put_node q (columns_from p j n) y) ≡ is_unfolded y
  unfolded-put = ap₂ (λ u v. not u && not v) (heads-same q cells (wanted Aggregate) (λ k. cell-at-none has_aggregate p j n k refl (λ i. refl)) y.parts.head) (conds-same q cells (wanted Aggregate) (λ k. cell-at-none has_aggregate p j n k refl (λ i. refl)) y.parts.conds.items)

  -- where q has n columns
  module _ (places : (k : ℕ) → reads_in q k y ≡ true → (1 ≤ k) × (k ≤ n)) where
    pub columns-put : list_all is_column y.parts.head ≡ true → list_all is_column (put_node q (columns_from p j n) y).parts.head ≡ true
    columns-put h = each y.parts.head (λ x i. i)
      where
        one : (x : Term) → is_column x ≡ true → ((k : ℕ) → reads_at q k x ≡ true → (1 ≤ k) × (k ≤ n)) → is_column (substituted q (columns_from p j n) x) ≡ true
        one (t.int i) c f = absurd (let z : ⊥ = cc in z)
        one (t.text s) c f = absurd (let z : ⊥ = cc in z)
        one t.null_int c f = absurd (let z : ⊥ = cc in z)
        one t.null_text c f = absurd (let z : ⊥ = cc in z)
        one (t.col r k) c f = elim (cases_Bool (r == q)) [
          | inl e ↦ ap (λ b. is_column (cond b (cell_at k cells) (t.col r k))) e ∙ cell-column p j n k (f k (and_from (r == q) (k == k) e (eq-itself k)))
          | inr e ↦ ap (λ b. is_column (cond b (cell_at k cells) (t.col r k))) e
        ]
        one (t.scalar r) c f = absurd (let z : ⊥ = cc in z)
        one (t.both o u v) c f = absurd (let z : ⊥ = cc in z)
        one (t.minus_of u) c f = absurd (let z : ⊥ = cc in z)
        one (t.choose s u) c f = absurd (let z : ⊥ = cc in z)
        one t.count_all c f = absurd (let z : ⊥ = cc in z)
        one (t.fold g e u) c f = absurd (let z : ⊥ = cc in z)

        each : (xs : List Term) → ((x : Term) → In x xs → In x y.parts.head) → list_all is_column (map (substituted q cells) xs) ≡ true
        each [] sub = refl
        each (x ∷ xs) sub =
            let i = sub x (inl refl) in
            and_from (is_column (substituted q cells x)) (list_all is_column (map (substituted q cells) xs))
            (one x (all-in is_column x y.parts.head h i) (λ k e. places k (or_left (list_any (reads_at q k) y.parts.head) (list_any (reads_at_cond q k) y.parts.conds.items) (any-from (reads_at q k) x y.parts.head i e)))) (each xs (λ v k. sub v (inr k)))

    -- and these have the types of those
    module _ (at now : Lookup) (same : map (term_type now) (columns_from p j n) ≡ map (term_type at) (columns_from q 1 n)) where
      good : (k : ℕ) → reads_in q k y ≡ true → term_type now (cell_at k (columns_from p j n)) ≡ at q k
      good k h = by k (places k h)
        where
          by : (k : ℕ) → (1 ≤ k) × (k ≤ n) → term_type now (cell_at k (columns_from p j n)) ≡ at q k
          by zero l = absurd (let z = l.0 in omega (arith, z))
          by (suc i) l = pointwise now at p q j 1 n same i (let z = l.1 in omega (arith, z)) ∙ ap (at q) (omega arith)

      parts : (list_any (names q) y.parts.head ≡ false) × (list_any (names_cond q) y.parts.conds.items ≡ false)
      parts = or_parts (list_any (names q) y.parts.head) (list_any (names_cond q) y.parts.conds.items) (none q)

      pub term-put : (x : Term) → In x y.parts.head → term_type now (substituted q (columns_from p j n) x) ≡ term_type (mixed at now q (columns_from p j n)) x
      term-put x i = term-mixed at now q cells x (any-none (names q) x y.parts.head parts.0 i) (λ k h. good k (or_left (list_any (reads_at q k) y.parts.head) (list_any (reads_at_cond q k) y.parts.conds.items) (any-from (reads_at q k) x y.parts.head i h)))

      pub cond-put : (x : Cond) → In x y.parts.conds.items → cond_fits now (substituted_cond q (columns_from p j n) x) ≡ cond_fits (mixed at now q (columns_from p j n)) x
      cond-put x i = cond-mixed at now q cells x (any-none (names_cond q) x y.parts.conds.items parts.1 i) (λ k h. good k (or_right (list_any (reads_at q k) y.parts.head) (list_any (reads_at_cond q k) y.parts.conds.items) (any-from (reads_at_cond q k) x y.parts.conds.items i h)))
