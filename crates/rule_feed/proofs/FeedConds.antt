-- Conditions that hold no node and name columns of some quantifiers alone: what they read, and whether they are error-free.
use Rattle.std.proofs.Common.{ℕ, ◌≡◌, ◌&&◌, ◌||◌, Bool, true, false, List, ◌++◌, refl, eqb-true, subst, inl, inr}
use Rattle.std.proofs.lemmas.Bool.{and_from, and_parts, or_cases, or_parts}
use Rattle.qgm_terms.specs.Terms.{Arms, Cond, Term, always, and, arm, both, choose, col, compare, count_all, every, fold, int, is_null, minus_of, no_arm, null_int, null_text, or, not, scalar, some, text}
use Rattle.qgm_terms.specs.Gathered.{listed_arms}
use Rattle.qgm_terms.specs.Named as named
use Rattle.qgm_terms.specs.Named.{columns_in, columns_in_cond}
use Rattle.qgm_terms.specs.Wanted.{any_in, any_in_arms, any_in_cond, reads, reads_cond, wanted}
use Rattle.qgm_terms.specs.declared.named.Column.{Column}
use Rattle.qgm_terms.specs.declared.sought.Sought.TheVariants as sought
use Rattle.qgm_core.specs.declared.node.Node.{Node}
use Rattle.qgm_meaning.specs.Searches.{reads_arms}
use Rattle.qgm_props.specs.Inferred as facts
use Rattle.qgm_props.specs.Inferred.{Facts, arms_free, cond_free, is_free}
use Rattle.qgm_props.specs.Under.{of_quant}
use Rattle.list_laws.specs.Lists.{In}
use Rattle.list_laws.proofs.Membership.{in-left, in-right}

abbrev columns_in_arms : Arms → List Column
columns_in_arms = listed_arms named.columns

abbrev bare : Term → Bool
bare = any_in (wanted sought.Node)

abbrev bare_arms : Arms → Bool
bare_arms = any_in_arms (wanted sought.Node)

abbrev bare_cond : Cond → Bool
bare_cond = any_in_cond (wanted sought.Node)

module _ (P : ℕ → Bool) where
  abbrev pub Own : List Column → Type 0
  Own cs = (y : Column) → In y cs → P y.quant ≡ true

  module _ (k : ℕ) where
    mutual
      own-term : (x : Term) → Own (columns_in x) → bare x ≡ false → reads k x ≡ true → P k ≡ true
      own-term (int m) h b r = absurd (let z : ⊥ = cc in z)
      own-term (text s) h b r = absurd (let z : ⊥ = cc in z)
      own-term null_int h b r = absurd (let z : ⊥ = cc in z)
      own-term null_text h b r = absurd (let z : ⊥ = cc in z)
      own-term (col q j) h b r = subst (λ z. P z ≡ true) (eqb-true q k r) (h (record { quant = q; place = j }) (inl refl))
      own-term (scalar q) h b r = absurd (let z : ⊥ = cc in z)
      own-term (both o x y) h b r = let n = or_parts (bare x) (bare y) b in elim (or_cases (reads k x) (reads k y) r) [
        | inl a ↦ own-term x (λ z i. h z (in-left z (columns_in x) (columns_in y) i)) n.0 a
        | inr a ↦ own-term y (λ z i. h z (in-right z (columns_in x) (columns_in y) i)) n.1 a
      ]
      own-term (minus_of x) h b r = own-term x h b r
      own-term (choose s x) h b r = let n = or_parts (bare_arms s) (bare x) b in elim (or_cases (reads_arms k s) (reads k x) r) [
        | inl a ↦ own-arms s (λ z i. h z (in-left z (columns_in_arms s) (columns_in x) i)) n.0 a
        | inr a ↦ own-term x (λ z i. h z (in-right z (columns_in_arms s) (columns_in x) i)) n.1 a
      ]
      own-term count_all h b r = absurd (let z : ⊥ = cc in z)
      own-term (fold f t x) h b r = own-term x h b r

      own-arms : (s : Arms) → Own (columns_in_arms s) → bare_arms s ≡ false → reads_arms k s ≡ true → P k ≡ true
      own-arms no_arm h b r = absurd (let z : ⊥ = cc in z)
      own-arms (arm c x s) h b r =
          let n = or_parts (bare_cond c) (bare x || bare_arms s) b in
          let n2 = or_parts (bare x) (bare_arms s) n.1 in
          elim (or_cases (reads_cond k c) (reads k x || reads_arms k s) r) [
            | inl a ↦ own-cond c (λ z i. h z (in-left z (columns_in_cond c) (columns_in x ++ columns_in_arms s) i)) n.0 a
            | inr a ↦ elim (or_cases (reads k x) (reads_arms k s) a) [
              | inl e ↦ own-term x (λ z i. h z (in-right z (columns_in_cond c) (columns_in x ++ columns_in_arms s) (in-left z (columns_in x) (columns_in_arms s) i))) n2.0 e
              | inr e ↦ own-arms s (λ z i. h z (in-right z (columns_in_cond c) (columns_in x ++ columns_in_arms s) (in-right z (columns_in x) (columns_in_arms s) i))) n2.1 e
            ]
          ]

      pub own-cond : (c : Cond) → Own (columns_in_cond c) → bare_cond c ≡ false → reads_cond k c ≡ true → P k ≡ true
      own-cond always h b r = absurd (let z : ⊥ = cc in z)
      own-cond (compare s x y) h b r = let n = or_parts (bare x) (bare y) b in elim (or_cases (reads k x) (reads k y) r) [
        | inl a ↦ own-term x (λ z i. h z (in-left z (columns_in x) (columns_in y) i)) n.0 a
        | inr a ↦ own-term y (λ z i. h z (in-right z (columns_in x) (columns_in y) i)) n.1 a
      ]
      own-cond (is_null x) h b r = own-term x h b r
      own-cond (and c d) h b r = let n = or_parts (bare_cond c) (bare_cond d) b in elim (or_cases (reads_cond k c) (reads_cond k d) r) [
        | inl a ↦ own-cond c (λ z i. h z (in-left z (columns_in_cond c) (columns_in_cond d) i)) n.0 a
        | inr a ↦ own-cond d (λ z i. h z (in-right z (columns_in_cond c) (columns_in_cond d) i)) n.1 a
      ]
      own-cond (or c d) h b r = let n = or_parts (bare_cond c) (bare_cond d) b in elim (or_cases (reads_cond k c) (reads_cond k d) r) [
        | inl a ↦ own-cond c (λ z i. h z (in-left z (columns_in_cond c) (columns_in_cond d) i)) n.0 a
        | inr a ↦ own-cond d (λ z i. h z (in-right z (columns_in_cond c) (columns_in_cond d) i)) n.1 a
      ]
      own-cond (not c) h b r = own-cond c h b r
      own-cond (some q c) h b r = absurd (let z : ⊥ = cc in z)
      own-cond (every q c) h b r = absurd (let z : ⊥ = cc in z)

  -- error-free by what is known of some boxes is so by what is known of others, where columns of these quantifiers are
  module _ (os bs : List Node) (known now : Facts) (same : (q k : ℕ) → P q ≡ true → of_quant os (λ b. known.error_free b k) q ≡ true → of_quant bs (λ b. now.error_free b k) q ≡ true) where
    mutual
      free-term : (x : Term) → Own (columns_in x) → bare x ≡ false → is_free os known false x ≡ true → is_free bs now false x ≡ true
      free-term (int m) h b r = r
      free-term (text s) h b r = r
      free-term null_int h b r = r
      free-term null_text h b r = r
      free-term (col q j) h b r = same q j (h (record { quant = q; place = j }) (inl refl)) r
      free-term (scalar q) h b r = absurd (let z : ⊥ = cc in z)
      free-term (both o x y) h b r =
          let n = or_parts (bare x) (bare y) b in
          let p = and_parts (facts.keeps_free o y) (is_free os known false x && is_free os known false y) r in
          let p2 = and_parts (is_free os known false x) (is_free os known false y) p.1 in
          and_from (facts.keeps_free o y) (is_free bs now false x && is_free bs now false y) p.0
          (and_from (is_free bs now false x) (is_free bs now false y) (free-term x (λ z i. h z (in-left z (columns_in x) (columns_in y) i)) n.0 p2.0) (free-term y (λ z i. h z (in-right z (columns_in x) (columns_in y) i)) n.1 p2.1))
      free-term (minus_of x) h b r = r
      free-term (choose s x) h b r =
          let n = or_parts (bare_arms s) (bare x) b in
          let p = and_parts (arms_free os known false s) (is_free os known false x) r in
          and_from (arms_free bs now false s) (is_free bs now false x) (free-arms s (λ z i. h z (in-left z (columns_in_arms s) (columns_in x) i)) n.0 p.0) (free-term x (λ z i. h z (in-right z (columns_in_arms s) (columns_in x) i)) n.1 p.1)
      free-term count_all h b r = r
      free-term (fold f t x) h b r =
          let p = and_parts (facts.fold_free false f) (is_free os known false x) r in
          and_from (facts.fold_free false f) (is_free bs now false x) p.0 (free-term x h b p.1)

      free-arms : (s : Arms) → Own (columns_in_arms s) → bare_arms s ≡ false → arms_free os known false s ≡ true → arms_free bs now false s ≡ true
      free-arms no_arm h b r = r
      free-arms (arm c x s) h b r =
          let n = or_parts (bare_cond c) (bare x || bare_arms s) b in
          let n2 = or_parts (bare x) (bare_arms s) n.1 in
          let p = and_parts (cond_free os known false c) (is_free os known false x && arms_free os known false s) r in
          let p2 = and_parts (is_free os known false x) (arms_free os known false s) p.1 in
          and_from (cond_free bs now false c) (is_free bs now false x && arms_free bs now false s) (free-cond c (λ z i. h z (in-left z (columns_in_cond c) (columns_in x ++ columns_in_arms s) i)) n.0 p.0)
          (and_from (is_free bs now false x) (arms_free bs now false s)
          (free-term x (λ z i. h z (in-right z (columns_in_cond c) (columns_in x ++ columns_in_arms s) (in-left z (columns_in x) (columns_in_arms s) i))) n2.0 p2.0)
          (free-arms s (λ z i. h z (in-right z (columns_in_cond c) (columns_in x ++ columns_in_arms s) (in-right z (columns_in x) (columns_in_arms s) i))) n2.1 p2.1))

      pub free-cond : (c : Cond) → Own (columns_in_cond c) → bare_cond c ≡ false → cond_free os known false c ≡ true → cond_free bs now false c ≡ true
      free-cond always h b r = r
      free-cond (compare s x y) h b r =
          let n = or_parts (bare x) (bare y) b in
          let p = and_parts (is_free os known false x) (is_free os known false y) r in
          and_from (is_free bs now false x) (is_free bs now false y) (free-term x (λ z i. h z (in-left z (columns_in x) (columns_in y) i)) n.0 p.0) (free-term y (λ z i. h z (in-right z (columns_in x) (columns_in y) i)) n.1 p.1)
      free-cond (is_null x) h b r = free-term x h b r
      free-cond (and c d) h b r =
          let n = or_parts (bare_cond c) (bare_cond d) b in
          let p = and_parts (cond_free os known false c) (cond_free os known false d) r in
          and_from (cond_free bs now false c) (cond_free bs now false d) (free-cond c (λ z i. h z (in-left z (columns_in_cond c) (columns_in_cond d) i)) n.0 p.0) (free-cond d (λ z i. h z (in-right z (columns_in_cond c) (columns_in_cond d) i)) n.1 p.1)
      free-cond (or c d) h b r =
          let n = or_parts (bare_cond c) (bare_cond d) b in
          let p = and_parts (cond_free os known false c) (cond_free os known false d) r in
          and_from (cond_free bs now false c) (cond_free bs now false d) (free-cond c (λ z i. h z (in-left z (columns_in_cond c) (columns_in_cond d) i)) n.0 p.0) (free-cond d (λ z i. h z (in-right z (columns_in_cond c) (columns_in_cond d) i)) n.1 p.1)
      free-cond (not c) h b r = free-cond c h b r
      free-cond (some q c) h b r = absurd (let z : ⊥ = cc in z)
      free-cond (every q c) h b r = absurd (let z : ⊥ = cc in z)
