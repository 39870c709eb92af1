-- Heads whose first cells are the columns of a quantifier.
use Rattle.std.proofs.Common.{ℕ, zero, suc, ◌≡◌, ◌≤◌, ◌<◌, ◌+◌, ◌&&◌, nat_le, nat_lt, Bool, true, List, [], ◌∷◌, ◌++◌, length, Some, slice_get, ◌⊎◌, refl, sym, ap, subst, ◌∙◌, inl, inr, arith}
use Rattle.std.specs.List.{flat_map, list_all}
use Rattle.std.proofs.lemmas.Bool.{and_from, cases_Bool, le-leb, lt-ltb, ltb-false, ltb-true}
use Rattle.std.proofs.lemmas.List.{append-nil}
use Rattle.list_laws.specs.Lists.{In}
use Rattle.list_laws.proofs.Membership.{in-append, in-flat, flat-in}
use Rattle.qgm_meaning.specs.Tags.{columns_from}
use Rattle.qgm_terms.specs.Named.{columns_in}
use Rattle.qgm_terms.specs.Terms.{Term, col}
use Rattle.qgm_terms.specs.declared.named.Column.{Column}
use Rattle.qgm_props.specs.Inferred.{at_place, of_cell}
use Rattle.rule_calm.specs.Settled.{single_free}

-- ---- what stands at a place

pub get-out : (q s w : ℕ) (ys : List Term) (j n : ℕ) → n ≡ w + j → slice_get (columns_from q s w ++ ys) n ≡ slice_get ys j
get-out q s zero ys j n e = ap (slice_get ys) (let z : n ≡ j = omega (arith, e) in z)
get-out q s (suc w) ys j zero e = absurd (let z : ⊥ = omega (arith, e) in z)
get-out q s (suc w) ys j (suc n) e = get-out q (suc s) w ys j n (omega (arith, e))

pub get-in : (q s w : ℕ) (ys : List Term) (j : ℕ) → j < w → slice_get (columns_from q s w ++ ys) j ≡ Some (col q (s + j))
get-in q s zero ys j l = absurd (let z : ⊥ = omega (arith, l) in z)
get-in q s (suc w) ys zero l = ap (λ k. Some (col q k)) (let z : s ≡ s + 0 = omega arith in z)
get-in q s (suc w) ys (suc j) l = get-in q (suc s) w ys j (omega (arith, l)) ∙ ap (λ k. Some (col q k)) (let z : suc s + j ≡ s + suc j = omega arith in z)

module _ (p : Term → Bool) (q w : ℕ) (ys : List Term) where
  -- one of the first cells, or of the others
  pub place-split : (k : ℕ) → at_place p (columns_from q 1 w ++ ys) k ≡ true → ((k ≤ w) × (p (col q k) ≡ true)) ⊎ ((j : ℕ) × ((k ≡ w + j) × (at_place p ys j ≡ true)))
  place-split zero h = absurd (let z : ⊥ = cc in z)
  place-split (suc k) h = elim (cases_Bool (nat_lt k w)) [
    | inl t ↦ (
        let l = ltb-true k w t in
        inl (omega (arith, l), sym (ap (λ n. p (col q n)) (let z : 1 + k ≡ suc k = omega arith in z)) ∙ sym (ap (of_cell p) (get-in q 1 w ys k l)) ∙ h))
    | inr f ↦ (
        let l = ltb-false k w f in
        let d : (j : ℕ) × (k ≡ w + j) = over k w l in
        inr (suc d.0, ((let e = d.1 in omega (arith, e)), sym (ap (of_cell p) (get-out q 1 w ys d.0 k d.1)) ∙ h)))
  ]
    where
      over : (k w : ℕ) → w ≤ k → (j : ℕ) × (k ≡ w + j)
      over k zero l = (k, omega arith)
      over zero (suc w) l = absurd (let z : ⊥ = omega (arith, l) in z)
      over (suc k) (suc w) l = let x = over k w (omega (arith, l)) in (x.0, (let e = x.1 in omega (arith, e)))

  pub place-left : (k : ℕ) → 1 ≤ k → k ≤ w → p (col q k) ≡ true → at_place p (columns_from q 1 w ++ ys) k ≡ true
  place-left zero m l h = absurd (let z : ⊥ = omega (arith, m) in z)
  place-left (suc k) m l h = ap (of_cell p) (get-in q 1 w ys k (omega (arith, l))) ∙ ap (λ n. p (col q n)) (let z : 1 + k ≡ suc k = omega arith in z) ∙ h

  pub place-right : (j k : ℕ) → k ≡ w + j → at_place p ys j ≡ true → at_place p (columns_from q 1 w ++ ys) k ≡ true
  place-right zero k e h = absurd (let z : ⊥ = cc in z)
  place-right (suc j) zero e h = absurd (let z : ⊥ = omega (arith, e) in z)
  place-right (suc j) (suc k) e h = ap (of_cell p) (get-out q 1 w ys j k (omega (arith, e))) ∙ h

-- all cells are columns
pub place-only : (p : Term → Bool) (q w k : ℕ) → at_place p (columns_from q 1 w) k ≡ true → p (col q k) ≡ true
place-only p q w k h = elim (place-split p q w [] k (subst (λ (z : List Term). at_place p z k ≡ true) (sym (append-nil (columns_from q 1 w))) h)) [ inl x ↦ x.1 | inr x ↦ absurd (none x.0 x.1.1) ]
  where
    none : (i : ℕ) → at_place p [] i ≡ true → ⊥
    none zero h = let z : ⊥ = cc in z
    none (suc i) h = let z : ⊥ = cc in z

pub place-alone : (p : Term → Bool) (q w k : ℕ) → 1 ≤ k → k ≤ w → p (col q k) ≡ true → at_place p (columns_from q 1 w) k ≡ true
place-alone p q w k m l h = subst (λ (z : List Term). at_place p z k ≡ true) (append-nil (columns_from q 1 w)) (place-left p q w [] k m l h)

-- columns from the place behind the first w on
pub place-later : (p : Term → Bool) (q w len j : ℕ) → 1 ≤ j → j ≤ len → p (col q (w + j)) ≡ true → at_place p (columns_from q (suc w) len) j ≡ true
place-later p q w len zero m l h = absurd (let z : ⊥ = omega (arith, m) in z)
place-later p q w len (suc j) m l h =
    ap (of_cell p) (ap (λ (z : List Term). slice_get z j) (sym (append-nil (columns_from q (suc w) len))) ∙ get-in q (suc w) len [] j (omega (arith, l))) ∙ ap (λ n. p (col q n)) (let z : suc w + j ≡ w + suc j = omega arith in z) ∙ h

pub place-range : (p : Term → Bool) (head : List Term) (k : ℕ) → at_place p head k ≡ true → (nat_lt 0 k && nat_le k (length head)) ≡ true
place-range p head zero h = absurd (let z : ⊥ = cc in z)
place-range p head (suc k) h = and_from (nat_lt 0 (suc k)) (nat_le (suc k) (length head)) (lt-ltb 0 (suc k) (omega arith)) (le-leb (suc k) (length head) (there head k h))
  where
    there : (xs : List Term) (k : ℕ) → of_cell p (slice_get xs k) ≡ true → suc k ≤ length xs
    there [] k h = absurd (let z : ⊥ = cc in z)
    there (x ∷ xs) zero h = (let e : length (x ∷ xs) ≡ suc (length xs) = refl in omega (arith, e))
    there (x ∷ xs) (suc k) h = (let r = there xs k h in let e : length (x ∷ xs) ≡ suc (length xs) = refl in omega (arith, r, e))

-- ---- what such cells name

pub in-columns : (x : Term) (q s w : ℕ) → In x (columns_from q s w) → (k : ℕ) × ((x ≡ col q k) × ((s ≤ k) × (k < s + w)))
in-columns x q s zero i = elim i [ ]
in-columns x q s (suc w) i = elim i [
  | inl e ↦ (s, (sym e, (omega arith, omega arith)))
  | inr j ↦ (let r = in-columns x q (suc s) w j in let a = r.1.1.0 in let b = r.1.1.1 in (r.0, (r.1.0, (omega (arith, a), omega (arith, b)))))
]

pub column-split : (c : Column) (q s w : ℕ) (ys : List Term) → In c (flat_map columns_in (columns_from q s w ++ ys)) → (c.quant ≡ q) ⊎ In c (flat_map columns_in ys)
column-split c q s w ys i =
    let x = in-flat columns_in c (columns_from q s w ++ ys) i in
    elim (in-append x.0 (columns_from q s w) ys x.1.0) [
      | inl j ↦ (
          let r = in-columns x.0 q s w j in
          let z : In c (columns_in (col q r.0)) = subst (λ (t : Term). In c (columns_in t)) r.1.0 x.1.1 in
          inl (elim z [ inl e ↦ ap (λ (y : Column). y.quant) (sym e) | inr n ↦ elim n [ ] ]))
      | inr j ↦ inr (flat-in columns_in x.0 c ys j x.1.1)
    ]

pub columns-single : (q s w : ℕ) → list_all single_free (columns_from q s w) ≡ true
columns-single q s zero = refl
columns-single q s (suc w) = columns-single q (suc s) w
