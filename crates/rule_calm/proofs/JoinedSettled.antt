-- The outer join of the magic box and the groups by tags, and the select over it: what is inferred of them, and that they are settled.
use Rattle.std.proofs.Common.{ℕ, zero, suc, ◌==◌, ◌≡◌, ◌≤◌, ◌<◌, ◌+◌, ◌&&◌, ◌||◌, Bool, true, false, List, [], ◌∷◌, ◌++◌, length, slice_get, ◌⊎◌, refl, sym, ap, subst, ◌∙◌, inl, inr, arith}
use Rattle.std.specs.List.{flat_map, list_all}
use Rattle.std.proofs.lemmas.List.{append-nil}
use Rattle.std.proofs.lemmas.Bool.{and_from, eq-eqb, or_left, or_right}
use Rattle.list_laws.specs.Lists.{In}
use Rattle.list_laws.proofs.Membership.{all-from, in-append}
use Rattle.qgm_core.specs.Boxes.{owns}
use Rattle.qgm_core.specs.Edits.{range}
use Rattle.qgm_core.specs.Kinds.{is_S}
use Rattle.qgm_core.specs.declared.kinds.QuantKind.TheVariants.{F}
use Rattle.qgm_core.specs.declared.node.Node.{Node}
use Rattle.qgm_core.specs.declared.owned.OwnedQuant.{OwnedQuant}
use Rattle.qgm_meaning.specs.Tags.{columns_from}
use Rattle.qgm_terms.specs.Named.{columns_in, columns_in_cond}
use Rattle.qgm_terms.specs.Terms.{Term}
use Rattle.qgm_terms.specs.declared.named.Column.{Column}
use Rattle.qgm_wellformed.specs.Columns.{columns_of}
use Rattle.qgm_edit_laws.specs.Graph.{Sound}
use Rattle.qgm_edit_laws.proofs.ShapedPut.{all-joined}
use Rattle.qgm_props.specs.Calm.{calm_column, calm_magic}
use Rattle.qgm_props.specs.Inferred.{Closed, Facts, at_place, cond_free, error_free_under, is_count, is_free, of_cell, under_two}
use Rattle.rule_magic.specs.Boxes.{count_at, counted, counted_box, joined_box, later, same_each}
use Rattle.rule_calm.specs.Settled.{IsFirm, SettledBox, has_no_single, single_free, single_free_cond}
use Rattle.rule_calm.proofs.Framed.{firm-single, known-clean, known-free, range-is, settled-from}
use Rattle.rule_calm.proofs.HeadPlaces.{column-split, columns-single, place-later, place-left, place-range, place-right}

f-not-scalar : (r s : OwnedQuant) → is_S r.kind ≡ false → r ≡ s → is_S s.kind ≡ true → ⊥
f-not-scalar r s f e t = let z : is_S r.kind ≡ true = ap (λ (y : OwnedQuant). is_S y.kind) e ∙ t in let y : ⊥ = cc in y

-- ---- the condition of the outer join

module _ (hs : List Node) (g : Facts) (p q : ℕ) where
  same-free : (k w : ℕ) → ((j : ℕ) → k ≤ j → j < k + w → (error_free_under hs g p j ≡ true) × (error_free_under hs g q j ≡ true)) → list_all (cond_free hs g false) (same_each p q k w) ≡ true
  same-free k zero h = refl
  same-free k (suc w) h =
      let x = h k (omega arith) (omega arith) in
      and_from (error_free_under hs g p k && error_free_under hs g q k) (list_all (cond_free hs g false) (same_each p q (suc k) w)) (and_from (error_free_under hs g p k) (error_free_under hs g q k) x.0 x.1)
      (same-free (suc k) w (λ j m l. h j (omega (arith, m)) (omega (arith, l))))

  same-columns : (c : Column) (k w : ℕ) → In c (flat_map columns_in_cond (same_each p q k w)) → (c.quant ≡ p) ⊎ (c.quant ≡ q)
  same-columns c k zero i = elim i [ ]
  same-columns c k (suc w) i = elim i [
    | inl e ↦ inl (ap (λ (y : Column). y.quant) (sym e))
    | inr i ↦ elim i [ inl e ↦ inr (ap (λ (y : Column). y.quant) (sym e)) | inr j ↦ same-columns c (suc k) w j ]
  ]

  same-single : (k w : ℕ) → list_all single_free_cond (same_each p q k w) ≡ true
  same-single k zero = refl
  same-single k (suc w) = same-single (suc k) w

module _ (hs : List Node) (root : ℕ) (v : Sound hs root) (g : Facts) (closed : Closed hs g) (b p m q x w len : ℕ) (i : In (joined_box b p m q x w len) hs) (tags : (k : ℕ) → 1 ≤ k → k ≤ w → (g.error_free m k ≡ true) × (g.error_free x k ≡ true)) where
  abbrev n : Node
  n = joined_box b p m q x w len

  under-p : (k : ℕ) → error_free_under hs g p k ≡ g.error_free m k
  under-p k = range-is hs root v (λ z. g.error_free z k) (range p F m) (n, (i, inl refl))

  under-q : (k : ℕ) → error_free_under hs g q k ≡ g.error_free x k
  under-q k = range-is hs root v (λ z. g.error_free z k) (range q F x) (n, (i, inr (inl refl)))

  pub joined-clean : g.clean m ≡ true → g.clean x ≡ true → g.clean b ≡ true
  joined-clean h k = known-clean hs v.ordered g closed n i (and_from (under_two g.clean n.quants) (list_all (cond_free hs g false) (same_each p q 1 w)) (and_from (g.clean m) (g.clean x) h k)
      (same-free hs g p q 1 w (λ j s l. let t = tags j s (omega (arith, l)) in (under-p j ∙ t.0, under-q j ∙ t.1))))

  at-free : (k : ℕ) → at_place (is_free hs g false) (columns_from p 1 w ++ later q w len) k ≡ true → g.error_free b k ≡ true
  at-free k h = known-free hs v.ordered g closed n i k (place-range (is_free hs g false) (columns_from p 1 w ++ later q w len) k h) h

  pub joined-first : (k : ℕ) → 1 ≤ k → k ≤ w → g.error_free b k ≡ true
  joined-first k s l = at-free k (place-left (is_free hs g false) p w (later q w len) k s l (under-p k ∙ (tags k s l).0))

  pub joined-second : (j k : ℕ) → k ≡ w + j → 1 ≤ j → j ≤ len → g.error_free x (w + j) ≡ true → g.error_free b k ≡ true
  joined-second j k e s l h = at-free k (place-right (is_free hs g false) p w (later q w len) j k e (place-later (is_free hs g false) q w len j s l (under-q (w + j) ∙ h)))

  pub joined-settled : g.clean b ≡ true → SettledBox hs g root n
  joined-settled c = settled-from hs g root n (or_right (b == root) (g.clean b) c) columns (or_left true (calm_magic hs g n) refl) no-single scalars (firm-single hs v.ordered g closed)
    where
      own-p : (y : Column) → y.quant ≡ p → calm_column hs g n y ≡ true
      own-p y e = or_left (owns y.quant n) (error_free_under hs g y.quant y.place) (or_left (p == y.quant) ((q == y.quant) || false) (eq-eqb p y.quant (sym e)))

      own-q : (y : Column) → y.quant ≡ q → calm_column hs g n y ≡ true
      own-q y e = or_left (owns y.quant n) (error_free_under hs g y.quant y.place) (or_right (p == y.quant) ((q == y.quant) || false) (or_left (q == y.quant) false (eq-eqb q y.quant (sym e))))

      columns : list_all (calm_column hs g n) (columns_of n) ≡ true
      columns = all-from (calm_column hs g n) (columns_of n) (λ y j. elim (in-append y (flat_map columns_in (columns_from p 1 w ++ later q w len)) (flat_map columns_in_cond (same_each p q 1 w)) j) [
        | inl z ↦ elim (column-split y p 1 w (later q w len) z) [
          | inl e ↦ own-p y e
          | inr z ↦ elim (column-split y q (suc w) len [] (subst (λ (t : List Term). In y (flat_map columns_in t)) (sym (append-nil (columns_from q (suc w) len))) z)) [ inl e ↦ own-q y e | inr z ↦ elim z [ ] ]
        ]
        | inr z ↦ elim (same-columns hs g p q y 1 w z) [ inl e ↦ own-p y e | inr e ↦ own-q y e ]
      ])

      no-single : has_no_single n ≡ true
      no-single = and_from (list_all single_free (columns_from p 1 w ++ later q w len)) (list_all single_free_cond (same_each p q 1 w)) (all-joined single_free (columns_from p 1 w) (later q w len) (columns-single p 1 w) (columns-single q (suc w) len)) (same-single hs g p q 1 w)

      scalars : (r : OwnedQuant) → In r n.quants → is_S r.kind ≡ true → IsFirm hs r.over
      scalars r j t = elim j [ inl e ↦ absurd (f-not-scalar (range p F m) r refl e t) | inr j ↦ elim j [ inl e ↦ absurd (f-not-scalar (range q F x) r refl e t) | inr z ↦ elim z [ ] ] ]

-- ---- the select of counts

module _ (hs : List Node) (g : Facts) (p : ℕ) where
  count-free : (k : ℕ) (b : Bool) → error_free_under hs g p k ≡ true → is_free hs g false (count_at p k b) ≡ true
  count-free k true h = and_from (error_free_under hs g p k && true) (error_free_under hs g p k) (and_from (error_free_under hs g p k) true h refl) h
  count-free k false h = h

  counted-free : (k : ℕ) (xs : List Term) (j : ℕ) → j < length xs → error_free_under hs g p (k + j) ≡ true → of_cell (is_free hs g false) (slice_get (counted p k xs) j) ≡ true
  counted-free k [] j l h = absurd (let z : ⊥ = omega (arith, l) in z)
  counted-free k (x ∷ xs) zero l h = count-free k (is_count x) (subst (λ n. error_free_under hs g p n ≡ true) (let z : k + 0 ≡ k = omega arith in z) h)
  counted-free k (x ∷ xs) (suc j) l h =
      let e : length (x ∷ xs) ≡ suc (length xs) = refl in
      counted-free (suc k) xs j (omega (arith, l, e)) (subst (λ n. error_free_under hs g p n ≡ true) (let z : k + suc j ≡ suc k + j = omega arith in z) h)

  count-columns : (c : Column) (k : ℕ) (b : Bool) → In c (columns_in (count_at p k b)) → c.quant ≡ p
  count-columns c k true i = elim i [ inl e ↦ ap (λ (y : Column). y.quant) (sym e) | inr i ↦ elim i [ inl e ↦ ap (λ (y : Column). y.quant) (sym e) | inr z ↦ elim z [ ] ] ]
  count-columns c k false i = elim i [ inl e ↦ ap (λ (y : Column). y.quant) (sym e) | inr z ↦ elim z [ ] ]

  counted-columns : (c : Column) (k : ℕ) (xs : List Term) → In c (flat_map columns_in (counted p k xs)) → c.quant ≡ p
  counted-columns c k [] i = elim i [ ]
  counted-columns c k (x ∷ xs) i = elim (in-append c (columns_in (count_at p k (is_count x))) (flat_map columns_in (counted p (suc k) xs)) i) [ inl j ↦ count-columns c k (is_count x) j | inr j ↦ counted-columns c (suc k) xs j ]

  counted-single : (k : ℕ) (xs : List Term) → list_all single_free (counted p k xs) ≡ true
  counted-single k [] = refl
  counted-single k (x ∷ xs) = and_from (single_free (count_at p k (is_count x))) (list_all single_free (counted p (suc k) xs)) (one (is_count x)) (counted-single (suc k) xs)
    where
      one : (b : Bool) → single_free (count_at p k b) ≡ true
      one true = refl
      one false = refl

module _ (hs : List Node) (root : ℕ) (v : Sound hs root) (g : Facts) (closed : Closed hs g) (b p w : ℕ) (head : List Term) (x : ℕ) (i : In (counted_box b p w head x) hs) where
  abbrev n' : Node
  n' = counted_box b p w head x

  over-x : (k : ℕ) → error_free_under hs g p k ≡ g.error_free x k
  over-x k = range-is hs root v (λ z. g.error_free z k) (range p F x) (n', (i, inl refl))

  pub counted-clean : g.clean x ≡ true → g.clean b ≡ true
  counted-clean h = known-clean hs v.ordered g closed n' i (and_from (g.clean x && true) true (and_from (g.clean x) true h refl) refl)

  is-at : (k : ℕ) → at_place (is_free hs g false) (columns_from p 1 w ++ counted p (suc w) head) k ≡ true → g.error_free b k ≡ true
  is-at k h = known-free hs v.ordered g closed n' i k (place-range (is_free hs g false) (columns_from p 1 w ++ counted p (suc w) head) k h) h

  pub counted-first : (k : ℕ) → 1 ≤ k → k ≤ w → g.error_free x k ≡ true → g.error_free b k ≡ true
  counted-first k s l h = is-at k (place-left (is_free hs g false) p w (counted p (suc w) head) k s l (over-x k ∙ h))

  pub counted-second : (j k : ℕ) → k ≡ w + j → 1 ≤ j → j ≤ length head → g.error_free x k ≡ true → g.error_free b k ≡ true
  counted-second j k e s l h = is-at k (place-right (is_free hs g false) p w (counted p (suc w) head) j k e (at j s l e))
    where
      at : (j : ℕ) → 1 ≤ j → j ≤ length head → k ≡ w + j → at_place (is_free hs g false) (counted p (suc w) head) j ≡ true
      at zero s l e = absurd (let z : ⊥ = omega (arith, s) in z)
      at (suc j) s l e = counted-free hs g p (suc w) head j (omega (arith, l)) (over-x (suc w + j) ∙ subst (λ z. g.error_free x z ≡ true) (let z : k ≡ suc w + j = omega (arith, e) in z) h)

  pub counted-settled : g.clean b ≡ true → SettledBox hs g root n'
  counted-settled c = settled-from hs g root n' (or_right (b == root) (g.clean b) c) columns (or_left true (calm_magic hs g n') refl) no-single scalars (firm-single hs v.ordered g closed)
    where
      own : (y : Column) → y.quant ≡ p → calm_column hs g n' y ≡ true
      own y e = or_left (owns y.quant n') (error_free_under hs g y.quant y.place) (or_left (p == y.quant) false (eq-eqb p y.quant (sym e)))

      columns : list_all (calm_column hs g n') (columns_of n') ≡ true
      columns = all-from (calm_column hs g n') (columns_of n') (λ y j. elim (in-append y (flat_map columns_in (columns_from p 1 w ++ counted p (suc w) head)) [] j) [
        | inl z ↦ own y (elim (column-split y p 1 w (counted p (suc w) head) z) [ inl e ↦ e | inr z ↦ counted-columns hs g p y (suc w) head z ])
        | inr z ↦ elim z [ ]
      ])

      no-single : has_no_single n' ≡ true
      no-single = and_from (list_all single_free (columns_from p 1 w ++ counted p (suc w) head)) true (all-joined single_free (columns_from p 1 w) (counted p (suc w) head) (columns-single p 1 w) (counted-single hs g p (suc w) head)) refl

      scalars : (r : OwnedQuant) → In r n'.quants → is_S r.kind ≡ true → IsFirm hs r.over
      scalars r j t = elim j [ inl e ↦ absurd (f-not-scalar (range p F x) r refl e t) | inr z ↦ elim z [ ] ]
