-- A column that is read stays read in what is put in for it, and a column that a search finds stands at a quantifier and a place.
use Rattle.std.proofs.Common.{ℕ, ◌==◌, ◌≡◌, ◌&&◌, ◌||◌, cond, Bool, true, false, List, [], ◌∷◌, map, refl, ap, ap₂, ◌∙◌, eqb-true, inl, inr}
use Rattle.std.specs.List.{list_any}
use Rattle.std.proofs.lemmas.Bool.{and_from, and_parts, cases_Bool, or_cases, or_from, or_left, or_parts, or_right}
use Rattle.qgm_terms.specs.Substitution.{cell_at, substituted, substituted_arms, substituted_cond}
use Rattle.qgm_terms.specs.Terms.{Term, int, text, null_int, null_text, col, both, minus_of, choose, count_all, fold, scalar, Arms, no_arm, arm, Cond, always, compare, is_null, and, or, not, some, every}
use Rattle.qgm_terms.specs.Wanted.{any_in, any_in_arms, any_in_cond, reads, reads_at, reads_at_cond, reads_cond}
use Rattle.qgm_meaning.specs.Searches.{looking, names, names_arms, names_cond, reads_at_arms, reads_arms, binds, binds_cond}
use Rattle.qgm_core.specs.declared.node.Node.{Node}
use Rattle.qgm_meaning.specs.Scope.{put_node, read_by}
use Rattle.qgm_edit_laws.specs.Graph.{nodes_in, reads_in}
use Rattle.qgm_edit_laws.proofs.AnyPut.{conds-more, heads-more, conds-names, heads-names}
use Rattle.qgm_edit_laws.proofs.Read.{columns-found, is_at, unbound-reads}
use Rattle.qgm_wellformed.specs.Columns.{columns_of}
use Rattle.std.specs.Prelude as prelude
use Rattle.list_laws.proofs.Membership.{eq-itself}
use Rattle.list_laws.proofs.Booleans.{clash}

-- ---- a column that is read stays read in what stands for it

module _ (q z k : ℕ) (cells : List Term) (hit : reads z (cell_at k cells) ≡ true) where
  two : (a b r s m n m' n' : Bool) → (m || n) ≡ false → (m' || n') ≡ false → (a || b) ≡ true → (m ≡ false → m' ≡ false → a ≡ true → r ≡ true) → (n ≡ false → n' ≡ false → b ≡ true → s ≡ true) → (r || s) ≡ true
  two a b r s m n m' n' o o' t f g = let y = or_parts m n o in let y' = or_parts m' n' o' in elim (or_cases a b t) [ inl u ↦ or_left r s (f y.0 y'.0 u) | inr u ↦ or_right r s (g y.1 y'.1 u) ]

  within : (r : ℕ) (c : Cond) → ((r == q) || names_cond q c) ≡ false → ((r == z) || names_cond z c) ≡ false → (prelude.not (r == q) && reads_at_cond q k c) ≡ true
      → (names_cond q c ≡ false → names_cond z c ≡ false → reads_at_cond q k c ≡ true → reads_cond z (substituted_cond q cells c) ≡ true) → (prelude.not (r == z) && reads_cond z (cond (r == q) c (substituted_cond q cells c))) ≡ true
  within r c o o' t f =
      let y = or_parts (r == q) (names_cond q c) o in
      let y' = or_parts (r == z) (names_cond z c) o' in
      ap₂ (λ (u v : Bool). prelude.not u && reads_cond z (cond v c (substituted_cond q cells c))) y'.0 y.0 ∙ f y.1 y'.1 (and_parts (prelude.not (r == q)) (reads_at_cond q k c) t).1

  mutual
    term-hit : (x : Term) → names q x ≡ false → names z x ≡ false → reads_at q k x ≡ true → reads z (substituted q cells x) ≡ true
    term-hit (int m) o o' t = absurd (let z : ⊥ = cc in z)
    term-hit (text s) o o' t = absurd (let z : ⊥ = cc in z)
    term-hit null_int o o' t = absurd (let z : ⊥ = cc in z)
    term-hit null_text o o' t = absurd (let z : ⊥ = cc in z)
    term-hit (col r j) o o' t =
        let u = and_parts (r == q) (j == k) t in
        ap (λ (b : Bool). reads z (cond b (cell_at j cells) (col r j))) u.0 ∙ ap (λ m. reads z (cell_at m cells)) (eqb-true j k u.1) ∙ hit
    term-hit (both b x y) o o' t = two (reads_at q k x) (reads_at q k y) (reads z (substituted q cells x)) (reads z (substituted q cells y)) (names q x) (names q y) (names z x) (names z y) o o' t (term-hit x) (term-hit y)
    term-hit (minus_of x) o o' t = term-hit x o o' t
    term-hit (choose s x) o o' t = two (reads_at_arms q k s) (reads_at q k x) (reads_arms z (substituted_arms q cells s)) (reads z (substituted q cells x)) (names_arms q s) (names q x) (names_arms z s) (names z x) o o' t (arms-hit s) (term-hit x)
    term-hit count_all o o' t = absurd (let z : ⊥ = cc in z)
    term-hit (fold f d x) o o' t = term-hit x o o' t
    term-hit (scalar r) o o' t = absurd (let z : ⊥ = cc in z)

    arms-hit : (s : Arms) → names_arms q s ≡ false → names_arms z s ≡ false → reads_at_arms q k s ≡ true → reads_arms z (substituted_arms q cells s) ≡ true
    arms-hit no_arm o o' t = absurd (let z : ⊥ = cc in z)
    arms-hit (arm c x s) o o' t = two (reads_at_cond q k c) (reads_at q k x || reads_at_arms q k s) (reads_cond z (substituted_cond q cells c)) (reads z (substituted q cells x) || reads_arms z (substituted_arms q cells s)) (names_cond q c) (names q x || names_arms q s) (names_cond z c) (names z x || names_arms z s) o o' t (cond-hit c)
        (λ o o' t. two (reads_at q k x) (reads_at_arms q k s) (reads z (substituted q cells x)) (reads_arms z (substituted_arms q cells s)) (names q x) (names_arms q s) (names z x) (names_arms z s) o o' t (term-hit x) (arms-hit s))

    cond-hit : (c : Cond) → names_cond q c ≡ false → names_cond z c ≡ false → reads_at_cond q k c ≡ true → reads_cond z (substituted_cond q cells c) ≡ true
    cond-hit always o o' t = absurd (let z : ⊥ = cc in z)
    cond-hit (compare s x y) o o' t = two (reads_at q k x) (reads_at q k y) (reads z (substituted q cells x)) (reads z (substituted q cells y)) (names q x) (names q y) (names z x) (names z y) o o' t (term-hit x) (term-hit y)
    cond-hit (is_null x) o o' t = term-hit x o o' t
    cond-hit (and c d) o o' t = two (reads_at_cond q k c) (reads_at_cond q k d) (reads_cond z (substituted_cond q cells c)) (reads_cond z (substituted_cond q cells d)) (names_cond q c) (names_cond q d) (names_cond z c) (names_cond z d) o o' t (cond-hit c) (cond-hit d)
    cond-hit (or c d) o o' t = two (reads_at_cond q k c) (reads_at_cond q k d) (reads_cond z (substituted_cond q cells c)) (reads_cond z (substituted_cond q cells d)) (names_cond q c) (names_cond q d) (names_cond z c) (names_cond z d) o o' t (cond-hit c) (cond-hit d)
    cond-hit (not c) o o' t = cond-hit c o o' t
    cond-hit (some r c) o o' t = within r c o o' t (cond-hit c)
    cond-hit (every r c) o o' t = within r c o o' t (cond-hit c)

  pub heads-hit : (xs : List Term) → list_any (names q) xs ≡ false → list_any (names z) xs ≡ false → list_any (reads_at q k) xs ≡ true → list_any (reads z) (map (substituted q cells) xs) ≡ true
  heads-hit [] o o' t = absurd (let z : ⊥ = cc in z)
  heads-hit (x ∷ xs) o o' t = two (reads_at q k x) (list_any (reads_at q k) xs) (reads z (substituted q cells x)) (list_any (reads z) (map (substituted q cells) xs)) (names q x) (list_any (names q) xs) (names z x) (list_any (names z) xs) o o' t (term-hit x) (heads-hit xs)

  pub conds-hit : (xs : List Cond) → list_any (names_cond q) xs ≡ false → list_any (names_cond z) xs ≡ false → list_any (reads_at_cond q k) xs ≡ true → list_any (reads_cond z) (map (substituted_cond q cells) xs) ≡ true
  conds-hit [] o o' t = absurd (let z : ⊥ = cc in z)
  conds-hit (x ∷ xs) o o' t = two (reads_at_cond q k x) (list_any (reads_at_cond q k) xs) (reads_cond z (substituted_cond q cells x)) (list_any (reads_cond z) (map (substituted_cond q cells) xs)) (names_cond q x) (list_any (names_cond q) xs) (names_cond z x) (list_any (names_cond z) xs) o o' t (cond-hit x) (conds-hit xs)

-- ---- a column of some search stands at a quantifier and a place

module _ (P : ℕ → ℕ → Bool) where
  abbrev pub in_term : Term → Bool
  in_term = any_in (looking P (λ r. false) (λ r. false) (λ r. true))

  abbrev pub in_arms : Arms → Bool
  in_arms = any_in_arms (looking P (λ r. false) (λ r. false) (λ r. true))

  abbrev pub in_cond : Cond → Bool
  in_cond = any_in_cond (looking P (λ r. false) (λ r. false) (λ r. true))

  abbrev pub At : (ℕ → ℕ → Bool) → Type 0
  At f = (q : ℕ) × ((k : ℕ) × ((P q k ≡ true) × (f q k ≡ true)))

  abbrev pub at_term : Term → ℕ → ℕ → Bool
  at_term x q k = any_in (looking (λ r j. (r == q) && (j == k)) (λ r. false) (λ r. false) (λ r. true)) x

  abbrev pub at_arms : Arms → ℕ → ℕ → Bool
  at_arms x q k = any_in_arms (looking (λ r j. (r == q) && (j == k)) (λ r. false) (λ r. false) (λ r. true)) x

  abbrev pub at_cond : Cond → ℕ → ℕ → Bool
  at_cond x q k = any_in_cond (looking (λ r j. (r == q) && (j == k)) (λ r. false) (λ r. false) (λ r. true)) x

  of : (a b : Bool) (f g : ℕ → ℕ → Bool) → (a || b) ≡ true → (a ≡ true → At f) → (b ≡ true → At g) → At (λ q k. f q k || g q k)
  of a b f g t l r = elim (or_cases a b t) [
    | inl z ↦ (let y = l z in (y.0, (y.1.0, (y.1.1.0, or_left (f y.0 y.1.0) (g y.0 y.1.0) y.1.1.1))))
    | inr z ↦ (let y = r z in (y.0, (y.1.0, (y.1.1.0, or_right (f y.0 y.1.0) (g y.0 y.1.0) y.1.1.1))))
  ]

  mutual
    term-at : (x : Term) → in_term x ≡ true → At (at_term x)
    term-at (int m) t = absurd (let z : ⊥ = cc in z)
    term-at (text s) t = absurd (let z : ⊥ = cc in z)
    term-at null_int t = absurd (let z : ⊥ = cc in z)
    term-at null_text t = absurd (let z : ⊥ = cc in z)
    term-at (col r j) t = (r, (j, (t, and_from (r == r) (j == j) (eq-itself r) (eq-itself j))))
    term-at (both o x y) t = of (in_term x) (in_term y) (at_term x) (at_term y) t (term-at x) (term-at y)
    term-at (minus_of x) t = term-at x t
    term-at (choose s x) t = of (in_arms s) (in_term x) (at_arms s) (at_term x) t (arms-at s) (term-at x)
    term-at count_all t = absurd (let z : ⊥ = cc in z)
    term-at (fold f d x) t = term-at x t
    term-at (scalar r) t = absurd (let z : ⊥ = cc in z)

    arms-at : (s : Arms) → in_arms s ≡ true → At (at_arms s)
    arms-at no_arm t = absurd (let z : ⊥ = cc in z)
    arms-at (arm c x s) t = of (in_cond c) (in_term x || in_arms s) (at_cond c) (λ q k. at_term x q k || at_arms s q k) t (cond-at c) (λ t. of (in_term x) (in_arms s) (at_term x) (at_arms s) t (term-at x) (arms-at s))

    cond-at : (c : Cond) → in_cond c ≡ true → At (at_cond c)
    cond-at always t = absurd (let z : ⊥ = cc in z)
    cond-at (compare s x y) t = of (in_term x) (in_term y) (at_term x) (at_term y) t (term-at x) (term-at y)
    cond-at (is_null x) t = term-at x t
    cond-at (and c d) t = of (in_cond c) (in_cond d) (at_cond c) (at_cond d) t (cond-at c) (cond-at d)
    cond-at (or c d) t = of (in_cond c) (in_cond d) (at_cond c) (at_cond d) t (cond-at c) (cond-at d)
    cond-at (not c) t = cond-at c t
    cond-at (some r c) t = cond-at c t
    cond-at (every r c) t = cond-at c t

  pub heads-at : (xs : List Term) → list_any in_term xs ≡ true → At (λ q k. list_any (λ x. at_term x q k) xs)
  heads-at [] t = absurd (let z : ⊥ = cc in z)
  heads-at (x ∷ xs) t = of (in_term x) (list_any in_term xs) (at_term x) (λ q k. list_any (λ x. at_term x q k) xs) t (term-at x) (heads-at xs)

  pub conds-at : (xs : List Cond) → list_any in_cond xs ≡ true → At (λ q k. list_any (λ x. at_cond x q k) xs)
  conds-at [] t = absurd (let z : ⊥ = cc in z)
  conds-at (x ∷ xs) t = of (in_cond x) (list_any in_cond xs) (at_cond x) (λ q k. list_any (λ x. at_cond x q k) xs) t (cond-at x) (conds-at xs)

-- ---- of a box

-- a column that is read stays so where its cell reads z
pub put-hit : (q z k : ℕ) (cells : List Term) (y : Node) → reads z (cell_at k cells) ≡ true → nodes_in q y ≡ false → nodes_in z y ≡ false → reads_in q k y ≡ true → read_by (put_node q cells y) z ≡ true
put-hit q z k cells y hit nq nz h =
    let a = or_parts (list_any (names q) y.parts.head) (list_any (names_cond q) y.parts.conds.items) nq in
    let o = or_parts (list_any (names z) y.parts.head) (list_any (names_cond z) y.parts.conds.items) nz in
    elim (or_cases (list_any (reads_at q k) y.parts.head) (list_any (reads_at_cond q k) y.parts.conds.items) h) [
      | inl t ↦ or_left (list_any (reads z) (map (substituted q cells) y.parts.head)) (list_any (reads_cond z) (map (substituted_cond q cells) y.parts.conds.items)) (heads-hit q z k cells hit y.parts.head a.0 o.0 t)
      | inr t ↦ or_right (list_any (reads z) (map (substituted q cells) y.parts.head)) (list_any (reads_cond z) (map (substituted_cond q cells) y.parts.conds.items)) (conds-hit q z k cells hit y.parts.conds.items a.1 o.1 t)
    ]

-- a column of a search that a box holds, of a quantifier of which it has no node, is read
pub search-at : (P : ℕ → ℕ → Bool) (enter : ℕ → Bool) (y : Node) → (list_any (any_in (looking P (λ r. false) (λ r. false) enter)) y.parts.head || list_any (any_in_cond (looking P (λ r. false) (λ r. false) enter)) y.parts.conds.items) ≡ true
    → (r : ℕ) × ((j : ℕ) × ((P r j ≡ true) × (nodes_in r y ≡ false → reads_in r j y ≡ true)))
search-at P enter y t = elim (or_cases (list_any (any_in (looking P (λ r. false) (λ r. false) enter)) y.parts.head) (list_any (any_in_cond (looking P (λ r. false) (λ r. false) enter)) y.parts.conds.items) t) [
  | inl a ↦ (let z = heads-at P y.parts.head (heads-more P P (λ r. false) (λ r. false) (λ r. false) (λ r. false) enter (λ r. true) (λ r j e. e) (λ r e. e) (λ r e. e) (λ r e. refl) y.parts.head a) in
      (z.0, (z.1.0, (z.1.1.0, λ nod. read z.0 z.1.0 nod (or_left (list_any (λ x. at_term P x z.0 z.1.0) y.parts.head) (list_any (λ x. at_cond P x z.0 z.1.0) y.parts.conds.items) z.1.1.1)))))
  | inr a ↦ (let z = conds-at P y.parts.conds.items (conds-more P P (λ r. false) (λ r. false) (λ r. false) (λ r. false) enter (λ r. true) (λ r j e. e) (λ r e. e) (λ r e. e) (λ r e. refl) y.parts.conds.items a) in
      (z.0, (z.1.0, (z.1.1.0, λ nod. read z.0 z.1.0 nod (or_right (list_any (λ x. at_term P x z.0 z.1.0) y.parts.head) (list_any (λ x. at_cond P x z.0 z.1.0) y.parts.conds.items) z.1.1.1)))))
]
  where
    none : (a b : Bool) → b ≡ false → (a ≡ true → b ≡ true) → a ≡ false
    none a b f g = elim (cases_Bool a) [ inr e ↦ e | inl e ↦ absurd (clash b (g e) f) ]

    read : (r j : ℕ) → nodes_in r y ≡ false → (list_any (λ x. at_term P x r j) y.parts.head || list_any (λ x. at_cond P x r j) y.parts.conds.items) ≡ true → reads_in r j y ≡ true
    read r j nod h =
        let n = or_parts (list_any (names r) y.parts.head) (list_any (names_cond r) y.parts.conds.items) nod in
        unbound-reads r j y (or_from (list_any (binds r) y.parts.head) (list_any (binds_cond r) y.parts.conds.items) (none (list_any (binds r) y.parts.head) (list_any (names r) y.parts.head) n.0 (heads-names r y.parts.head)) (none (list_any (binds_cond r) y.parts.conds.items) (list_any (names_cond r) y.parts.conds.items) n.1 (conds-names r y.parts.conds.items)))
        (columns-found r j y ∙ h)

-- a column of a search is one that the box names
pub search-is : (P : ℕ → ℕ → Bool) (enter : ℕ → Bool) (y : Node) → (list_any (any_in (looking P (λ r. false) (λ r. false) enter)) y.parts.head || list_any (any_in_cond (looking P (λ r. false) (λ r. false) enter)) y.parts.conds.items) ≡ true
    → (r : ℕ) × ((j : ℕ) × ((P r j ≡ true) × (list_any (is_at r j) (columns_of y) ≡ true)))
search-is P enter y t = elim (or_cases (list_any (any_in (looking P (λ r. false) (λ r. false) enter)) y.parts.head) (list_any (any_in_cond (looking P (λ r. false) (λ r. false) enter)) y.parts.conds.items) t) [
  | inl a ↦ (let z = heads-at P y.parts.head (heads-more P P (λ r. false) (λ r. false) (λ r. false) (λ r. false) enter (λ r. true) (λ r j e. e) (λ r e. e) (λ r e. e) (λ r e. refl) y.parts.head a) in
      (z.0, (z.1.0, (z.1.1.0, columns-found z.0 z.1.0 y ∙ or_left (list_any (λ x. at_term P x z.0 z.1.0) y.parts.head) (list_any (λ x. at_cond P x z.0 z.1.0) y.parts.conds.items) z.1.1.1))))
  | inr a ↦ (let z = conds-at P y.parts.conds.items (conds-more P P (λ r. false) (λ r. false) (λ r. false) (λ r. false) enter (λ r. true) (λ r j e. e) (λ r e. e) (λ r e. e) (λ r e. refl) y.parts.conds.items a) in
      (z.0, (z.1.0, (z.1.1.0, columns-found z.0 z.1.0 y ∙ or_right (list_any (λ x. at_term P x z.0 z.1.0) y.parts.head) (list_any (λ x. at_cond P x z.0 z.1.0) y.parts.conds.items) z.1.1.1))))
]
