-- A box with columns of a quantifier before the head of another box, and conditions behind its own that columns are the same.
use Rattle.std.proofs.Common.{ℕ, zero, suc, ◌==◌, ◌≡◌, ◌≤◌, ◌<◌, ◌+◌, ◌&&◌, ◌||◌, not, Bool, true, false, List, [], ◌∷◌, ◌++◌, length, Option, None, Some, refl, sym, ap, ap₂, subst, ◌∙◌, eqb-true, ◌⊎◌, inl, inr, arith}
use Rattle.std.specs.Prelude.{slice_get}
use Rattle.std.specs.List.{list_all, list_any}
use Rattle.std.proofs.lemmas.Bool.{and_from, and_parts, or_cases}
use Rattle.sql_value.specs.declared.order_key.SqlType.{SqlType}
use Rattle.sql_value.specs.declared.order_key.SqlType.TheVariants.{Integer, Varchar}
use Rattle.qgm_core.specs.declared.node.Node.{Node}
use Rattle.qgm_meaning.specs.Scope.{read_by}
use Rattle.qgm_meaning.specs.Searches.{names, names_cond}
use Rattle.qgm_meaning.specs.Tags.{columns_from}
use Rattle.qgm_terms.specs.Terms as t
use Rattle.qgm_terms.specs.Terms.{Cond, Term}
use Rattle.qgm_terms.specs.Wanted.{has_aggregate, has_aggregate_cond, reads, reads_at, reads_at_cond, reads_cond}
use Rattle.qgm_wellformed.specs.Shapes.{is_column, is_unfolded}
use Rattle.qgm_wellformed.specs.Types.{Lookup, agree, cond_fits, is_known, joined_column}
use Rattle.qgm_edit_laws.specs.Graph.{nodes_in, reads_in}
use Rattle.qgm_edit_laws.proofs.AllColumns.{length-one}
use Rattle.qgm_edit_laws.proofs.Read.{any-both}
use Rattle.qgm_edit_laws.proofs.ShapedPut.{all-joined}
use Rattle.rule_magic.specs.Boxes.{same_each}
use Rattle.rule_magic.proofs.AbsorbFacts.{read-columns}
use Rattle.rule_magic.proofs.AbsorbSelectFormed.{none-aggregate, none-names}
use Rattle.rule_magic.proofs.PairFormed.{all-columns, read-at-columns}
use Rattle.list_laws.proofs.Booleans.{or-assoc, or-false}
use Rattle.list_laws.proofs.Membership.{append-one}

-- ---- columns are the same

pub same-reads : (p om oc k w : ℕ) → list_any (reads_cond p) (same_each om oc k w) ≡ true → ((om == p) ≡ true) ⊎ ((oc == p) ≡ true)
same-reads p om oc k zero h = absurd (let z : ⊥ = cc in z)
same-reads p om oc k (suc w) h = elim (or_cases ((om == p) || (oc == p)) (list_any (reads_cond p) (same_each om oc (suc k) w)) h) [ inl e ↦ or_cases (om == p) (oc == p) e | inr e ↦ same-reads p om oc (suc k) w e ]

pub same-reads-at : (p j om oc k w : ℕ) → list_any (reads_at_cond p j) (same_each om oc k w) ≡ true → (((om == p) ≡ true) ⊎ ((oc == p) ≡ true)) × ((k ≤ j) × (j < k + w))
same-reads-at p j om oc k zero h = absurd (let z : ⊥ = cc in z)
same-reads-at p j om oc k (suc w) h = elim (or_cases (((om == p) && (k == j)) || ((oc == p) && (k == j))) (list_any (reads_at_cond p j) (same_each om oc (suc k) w)) h) [
  | inl e ↦ elim (or_cases ((om == p) && (k == j)) ((oc == p) && (k == j)) e) [
    | inl y ↦ (let a = and_parts (om == p) (k == j) y in let b = eqb-true k j a.1 in (inl a.0, ((omega (arith, b)), (omega (arith, b)))))
    | inr y ↦ (let a = and_parts (oc == p) (k == j) y in let b = eqb-true k j a.1 in (inr a.0, ((omega (arith, b)), (omega (arith, b)))))
  ]
  | inr e ↦ (let a = same-reads-at p j om oc (suc k) w e in let l = a.1.0 in let u = a.1.1 in (a.0, ((omega (arith, l)), (omega (arith, u)))))
]

pub same-names : (p om oc k w : ℕ) → list_any (names_cond p) (same_each om oc k w) ≡ false
same-names p om oc k zero = refl
same-names p om oc k (suc w) = same-names p om oc (suc k) w

pub same-folds : (om oc k w : ℕ) → list_any has_aggregate_cond (same_each om oc k w) ≡ false
same-folds om oc k zero = refl
same-folds om oc k (suc w) = same-folds om oc (suc k) w

agree-itself : (x : Option SqlType) → is_known x ≡ true → agree x x ≡ true
agree-itself None h = absurd (let z : ⊥ = cc in z)
agree-itself (Some Integer) h = refl
agree-itself (Some Varchar) h = refl

pub same-fits : (V : Lookup) (om oc : ℕ) (pre ts ms cs : List (Option SqlType)) → ((k : ℕ) → V om (suc k) ≡ joined_column (slice_get (pre ++ (ts ++ ms)) k)) → ((k : ℕ) → V oc (suc k) ≡ joined_column (slice_get (pre ++ (ts ++ cs)) k)) → list_all is_known ts ≡ true
    → list_all (cond_fits V) (same_each om oc (suc (length pre)) (length ts)) ≡ true
same-fits V om oc pre [] ms cs h g k = refl
same-fits V om oc pre (x ∷ ts) ms cs h g k =
    let kn = and_parts (is_known x) (list_all is_known ts) k in
    and_from (cond_fits V (t.compare t.same (t.col om (suc (length pre))) (t.col oc (suc (length pre))))) (list_all (cond_fits V) (same_each om oc (suc (suc (length pre))) (length ts)))
    (ap₂ agree (h (length pre) ∙ at pre (ts ++ ms)) (g (length pre) ∙ at pre (ts ++ cs)) ∙ agree-itself x kn.0)
    (subst (λ i. list_all (cond_fits V) (same_each om oc (suc i) (length ts)) ≡ true) (length-one pre x)
    (same-fits V om oc (pre ++ x ∷ []) ts ms cs
    (λ k. h k ∙ ap (λ (z : List (Option SqlType)). joined_column (slice_get z k)) (sym (append-one pre x (ts ++ ms))))
    (λ k. g k ∙ ap (λ (z : List (Option SqlType)). joined_column (slice_get z k)) (sym (append-one pre x (ts ++ cs)))) kn.1))
  where
    at : (pre zs : List (Option SqlType)) → joined_column (slice_get (pre ++ x ∷ zs) (length pre)) ≡ x
    at [] zs = refl
    at (p ∷ pre) zs = at pre zs

-- ---- n is z with w columns of l before its head, and e conditions that columns of l and r are the same behind its own

module _ (n z : Node) (l r w e : ℕ) (heads : n.parts.head ≡ columns_from l 1 w ++ z.parts.head) (conds : n.parts.conds.items ≡ z.parts.conds.items ++ same_each l r 1 e) where
  -- a search of n is one of the columns, of z, or of these conditions
  search : (f : Term → Bool) (h : Cond → Bool) → (list_any f n.parts.head || list_any h n.parts.conds.items) ≡ (list_any f (columns_from l 1 w) || ((list_any f z.parts.head || list_any h z.parts.conds.items) || list_any h (same_each l r 1 e)))
  search f h =
      ap₂ (λ b d. b || d) (ap (list_any f) heads ∙ any-both f (columns_from l 1 w) z.parts.head) (ap (list_any h) conds ∙ any-both h z.parts.conds.items (same_each l r 1 e))
      ∙ or-assoc (list_any f (columns_from l 1 w)) (list_any f z.parts.head) (list_any h z.parts.conds.items || list_any h (same_each l r 1 e))
      ∙ ap (λ b. list_any f (columns_from l 1 w) || b) (sym (or-assoc (list_any f z.parts.head) (list_any h z.parts.conds.items) (list_any h (same_each l r 1 e))))

  searched : (f : Term → Bool) (h : Cond → Bool) → (list_any f n.parts.head || list_any h n.parts.conds.items) ≡ true → (list_any f (columns_from l 1 w) ≡ true) ⊎ (((list_any f z.parts.head || list_any h z.parts.conds.items) ≡ true) ⊎ (list_any h (same_each l r 1 e) ≡ true))
  searched f h k = elim (or_cases (list_any f (columns_from l 1 w)) ((list_any f z.parts.head || list_any h z.parts.conds.items) || list_any h (same_each l r 1 e)) (sym (search f h) ∙ k)) [
    | inl i ↦ inl i
    | inr i ↦ inr (or_cases (list_any f z.parts.head || list_any h z.parts.conds.items) (list_any h (same_each l r 1 e)) i)
  ]

  pub front-reads : ((p : ℕ) → read_by z p ≡ true → ((l == p) ≡ true) ⊎ ((r == p) ≡ true)) → (p : ℕ) → read_by n p ≡ true → ((l == p) ≡ true) ⊎ ((r == p) ≡ true)
  front-reads f p h = elim (searched (reads p) (reads_cond p) h) [ inl k ↦ inl (read-columns p l 1 w k) | inr k ↦ elim k [ inl k ↦ f p k | inr k ↦ same-reads p l r 1 e k ] ]

  pub front-places : (wl wr : ℕ) → w ≤ wl → e ≤ wl → e ≤ wr → ((p k : ℕ) → reads_in p k z ≡ true → (((l == p) ≡ true) × ((1 ≤ k) × (k ≤ wl))) ⊎ (((r == p) ≡ true) × ((1 ≤ k) × (k ≤ wr))))
      → (p k : ℕ) → reads_in p k n ≡ true → (((l == p) ≡ true) × ((1 ≤ k) × (k ≤ wl))) ⊎ (((r == p) ≡ true) × ((1 ≤ k) × (k ≤ wr)))
  front-places wl wr i j u f p k h = elim (searched (reads_at p k) (reads_at_cond p k) h) [
    | inl v ↦ (let a = read-at-columns p k l 1 w v in let lo = a.1 in let hi = a.2 in inl (a.0, (lo, omega (arith, hi, i))))
    | inr v ↦ elim v [
      | inl v ↦ f p k v
      | inr v ↦ (
          let a = same-reads-at p k l r 1 e v in
          let lo = a.1.0 in let hi = a.1.1 in
          elim a.0 [ inl b ↦ inl (b, (lo, omega (arith, hi, j))) | inr b ↦ inr (b, (lo, omega (arith, hi, u))) ])
    ]
  ]

  pub front-none : ((p : ℕ) → nodes_in p z ≡ false) → (p : ℕ) → nodes_in p n ≡ false
  front-none f p = search (names p) (names_cond p) ∙ ap₂ (λ b d. b || d) (none-names p l 1 w) (ap₂ (λ b d. b || d) (f p) (same-names p l r 1 e))

  pub front-columns : list_all is_column z.parts.head ≡ true → list_all is_column n.parts.head ≡ true
  front-columns h = ap (list_all is_column) heads ∙ all-joined is_column (columns_from l 1 w) z.parts.head (all-columns l 1 w) h

  pub front-unfolded : is_unfolded z ≡ true → is_unfolded n ≡ true
  front-unfolded h =
      ap₂ (λ b d. not b && not d)
      (ap (list_any has_aggregate) heads ∙ any-both has_aggregate (columns_from l 1 w) z.parts.head ∙ ap (λ b. b || list_any has_aggregate z.parts.head) (none-aggregate l 1 w))
      (ap (list_any has_aggregate_cond) conds ∙ any-both has_aggregate_cond z.parts.conds.items (same_each l r 1 e) ∙ ap (λ b. list_any has_aggregate_cond z.parts.conds.items || b) (same-folds l r 1 e) ∙ or-false (list_any has_aggregate_cond z.parts.conds.items))
      ∙ h
