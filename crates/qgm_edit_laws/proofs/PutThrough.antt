-- A condition put through cells that hold no node and no aggregate, and read one quantifier.
use Rattle.std.proofs.Common.{ℕ, ◌==◌, ◌≡◌, cond, Bool, true, false, List, ◌∷◌, ◌++◌, refl, sym, ap, ap₂, subst, ◌∙◌, eqb-true, inl, inr, [], ◌||◌}
use Rattle.std.specs.Prelude.{⊤}
use Rattle.std.specs.Prelude as prelude
use Rattle.std.proofs.lemmas.Bool.{and_from, cases_Bool, eq-eqb, or_from, or_left, or_parts, or_right}
use Rattle.qgm_meaning.specs.Searches.{reads_at_arms}
use Rattle.qgm_terms.specs.Gathered.{listed_arms}
use Rattle.qgm_terms.specs.Named as named
use Rattle.qgm_terms.specs.Named.{nodes_in, nodes_in_cond}
use Rattle.qgm_terms.specs.Substitution.{cell_at, substituted, substituted_arms, substituted_cond}
use Rattle.qgm_terms.specs.Terms.{Term, int, text, null_int, null_text, col, both, minus_of, choose, count_all, fold, scalar, Arms, no_arm, arm, Cond, always, compare, is_null, and, or, not, some, every}
use Rattle.qgm_terms.specs.Wanted.{any_in, any_in_arms, any_in_cond, has_aggregate, has_aggregate_cond, reads, reads_at, reads_at_cond, reads_cond, wanted}
use Rattle.qgm_terms.specs.declared.sought.Sought.TheVariants as sought
use Rattle.qgm_edit_laws.proofs.AnyPut as put
use Rattle.qgm_edit_laws.proofs.ConjunctForms.{names-none}
use Rattle.list_laws.proofs.Membership.{eq-itself}
use Rattle.list_laws.proofs.Booleans.{clash}

-- ---- nodes that are listed are found

abbrev pub some_of : {X : Type 0} → List X → Bool
some_of [] = false
some_of (x ∷ xs) = true

some-append : {X : Type 0} (xs ys : List X) → some_of (xs ++ ys) ≡ (some_of xs || some_of ys)
some-append [] ys = refl
some-append (x ∷ xs) ys = refl

mutual
  pub node-found : (x : Term) → any_in (wanted sought.Node) x ≡ some_of (nodes_in x)
  node-found (int n) = refl
  node-found (text s) = refl
  node-found null_int = refl
  node-found null_text = refl
  node-found (col q k) = refl
  node-found (both o x y) = ap₂ (λ (a b : Bool). a || b) (node-found x) (node-found y) ∙ sym (some-append (nodes_in x) (nodes_in y))
  node-found (minus_of x) = node-found x
  node-found (choose s x) = ap₂ (λ (a b : Bool). a || b) (node-found-arms s) (node-found x) ∙ sym (some-append (listed_arms named.nodes s) (nodes_in x))
  node-found count_all = refl
  node-found (fold f t x) = node-found x
  node-found (scalar q) = refl

  node-found-arms : (s : Arms) → any_in_arms (wanted sought.Node) s ≡ some_of (listed_arms named.nodes s)
  node-found-arms no_arm = refl
  node-found-arms (arm c x s) =
      ap₂ (λ (a b : Bool). a || b) (node-found-cond c) (ap₂ (λ (a b : Bool). a || b) (node-found x) (node-found-arms s) ∙ sym (some-append (nodes_in x) (listed_arms named.nodes s)))
      ∙ sym (some-append (nodes_in_cond c) (nodes_in x ++ listed_arms named.nodes s))

  pub node-found-cond : (c : Cond) → any_in_cond (wanted sought.Node) c ≡ some_of (nodes_in_cond c)
  node-found-cond always = refl
  node-found-cond (compare sign x y) = ap₂ (λ (a b : Bool). a || b) (node-found x) (node-found y) ∙ sym (some-append (nodes_in x) (nodes_in y))
  node-found-cond (is_null x) = node-found x
  node-found-cond (and c d) = ap₂ (λ (a b : Bool). a || b) (node-found-cond c) (node-found-cond d) ∙ sym (some-append (nodes_in_cond c) (nodes_in_cond d))
  node-found-cond (or c d) = ap₂ (λ (a b : Bool). a || b) (node-found-cond c) (node-found-cond d) ∙ sym (some-append (nodes_in_cond c) (nodes_in_cond d))
  node-found-cond (not c) = node-found-cond c
  node-found-cond (some q c) = refl
  node-found-cond (every q c) = refl

-- ---- aggregates

module _ (q : ℕ) (cells : List Term) where
  mutual
    fold-put : (x : Term) → has_aggregate x ≡ false → any_in (wanted sought.Node) x ≡ false → ((j : ℕ) → reads_at q j x ≡ true → has_aggregate (cell_at j cells) ≡ false) → has_aggregate (substituted q cells x) ≡ false
    fold-put (int n) a h f = refl
    fold-put (text s) a h f = refl
    fold-put null_int a h f = refl
    fold-put null_text a h f = refl
    fold-put (col r k) a h f = elim (cases_Bool (r == q)) [
      | inl t ↦ ap (λ (b : Bool). has_aggregate (cond b (cell_at k cells) (col r k))) t ∙ f k (and_from (r == q) (k == k) t (eq-itself k))
      | inr n ↦ ap (λ (b : Bool). has_aggregate (cond b (cell_at k cells) (col r k))) n
    ]
    fold-put (both o x y) a h f =
        let aa = or_parts (has_aggregate x) (has_aggregate y) a in
        let hs = or_parts (any_in (wanted sought.Node) x) (any_in (wanted sought.Node) y) h in
        or_from (has_aggregate (substituted q cells x)) (has_aggregate (substituted q cells y)) (fold-put x aa.0 hs.0 (λ j t. f j (or_left (reads_at q j x) (reads_at q j y) t))) (fold-put y aa.1 hs.1 (λ j t. f j (or_right (reads_at q j x) (reads_at q j y) t)))
    fold-put (minus_of x) a h f = fold-put x a h f
    fold-put (choose s x) a h f =
        let aa = or_parts (any_in_arms (wanted sought.Aggregate) s) (has_aggregate x) a in
        let hs = or_parts (any_in_arms (wanted sought.Node) s) (any_in (wanted sought.Node) x) h in
        or_from (any_in_arms (wanted sought.Aggregate) (substituted_arms q cells s)) (has_aggregate (substituted q cells x)) (arms-put s aa.0 hs.0 (λ j t. f j (or_left (reads_at_arms q j s) (reads_at q j x) t))) (fold-put x aa.1 hs.1 (λ j t. f j (or_right (reads_at_arms q j s) (reads_at q j x) t)))
    fold-put count_all a h f = absurd (let z : ⊥ = cc in z)
    fold-put (fold g t x) a h f = absurd (let z : ⊥ = cc in z)
    fold-put (scalar r) a h f = refl

    arms-put : (s : Arms) → any_in_arms (wanted sought.Aggregate) s ≡ false → any_in_arms (wanted sought.Node) s ≡ false → ((j : ℕ) → reads_at_arms q j s ≡ true → has_aggregate (cell_at j cells) ≡ false) → any_in_arms (wanted sought.Aggregate) (substituted_arms q cells s) ≡ false
    arms-put no_arm a h f = refl
    arms-put (arm c x s) a h f =
        let aa = or_parts (has_aggregate_cond c) (has_aggregate x || any_in_arms (wanted sought.Aggregate) s) a in
        let bs = or_parts (has_aggregate x) (any_in_arms (wanted sought.Aggregate) s) aa.1 in
        let hs = or_parts (any_in_cond (wanted sought.Node) c) (any_in (wanted sought.Node) x || any_in_arms (wanted sought.Node) s) h in
        let ks = or_parts (any_in (wanted sought.Node) x) (any_in_arms (wanted sought.Node) s) hs.1 in
        or_from (has_aggregate_cond (substituted_cond q cells c)) (has_aggregate (substituted q cells x) || any_in_arms (wanted sought.Aggregate) (substituted_arms q cells s))
        (cond-unfolded c aa.0 hs.0 (λ j t. f j (or_left (reads_at_cond q j c) (reads_at q j x || reads_at_arms q j s) t)))
        (or_from (has_aggregate (substituted q cells x)) (any_in_arms (wanted sought.Aggregate) (substituted_arms q cells s))
        (fold-put x bs.0 ks.0 (λ j t. f j (or_right (reads_at_cond q j c) (reads_at q j x || reads_at_arms q j s) (or_left (reads_at q j x) (reads_at_arms q j s) t))))
        (arms-put s bs.1 ks.1 (λ j t. f j (or_right (reads_at_cond q j c) (reads_at q j x || reads_at_arms q j s) (or_right (reads_at q j x) (reads_at_arms q j s) t)))))

    pub cond-unfolded : (c : Cond) → has_aggregate_cond c ≡ false → any_in_cond (wanted sought.Node) c ≡ false → ((j : ℕ) → reads_at_cond q j c ≡ true → has_aggregate (cell_at j cells) ≡ false) → has_aggregate_cond (substituted_cond q cells c) ≡ false
    cond-unfolded always a h f = refl
    cond-unfolded (compare sign x y) a h f =
        let aa = or_parts (has_aggregate x) (has_aggregate y) a in
        let hs = or_parts (any_in (wanted sought.Node) x) (any_in (wanted sought.Node) y) h in
        or_from (has_aggregate (substituted q cells x)) (has_aggregate (substituted q cells y)) (fold-put x aa.0 hs.0 (λ j t. f j (or_left (reads_at q j x) (reads_at q j y) t))) (fold-put y aa.1 hs.1 (λ j t. f j (or_right (reads_at q j x) (reads_at q j y) t)))
    cond-unfolded (is_null x) a h f = fold-put x a h f
    cond-unfolded (and c d) a h f =
        let aa = or_parts (has_aggregate_cond c) (has_aggregate_cond d) a in
        let hs = or_parts (any_in_cond (wanted sought.Node) c) (any_in_cond (wanted sought.Node) d) h in
        or_from (has_aggregate_cond (substituted_cond q cells c)) (has_aggregate_cond (substituted_cond q cells d)) (cond-unfolded c aa.0 hs.0 (λ j t. f j (or_left (reads_at_cond q j c) (reads_at_cond q j d) t))) (cond-unfolded d aa.1 hs.1 (λ j t. f j (or_right (reads_at_cond q j c) (reads_at_cond q j d) t)))
    cond-unfolded (or c d) a h f =
        let aa = or_parts (has_aggregate_cond c) (has_aggregate_cond d) a in
        let hs = or_parts (any_in_cond (wanted sought.Node) c) (any_in_cond (wanted sought.Node) d) h in
        or_from (has_aggregate_cond (substituted_cond q cells c)) (has_aggregate_cond (substituted_cond q cells d)) (cond-unfolded c aa.0 hs.0 (λ j t. f j (or_left (reads_at_cond q j c) (reads_at_cond q j d) t))) (cond-unfolded d aa.1 hs.1 (λ j t. f j (or_right (reads_at_cond q j c) (reads_at_cond q j d) t)))
    cond-unfolded (not c) a h f = cond-unfolded c a h f
    cond-unfolded (some r c) a h f = absurd (let z : ⊥ = cc in z)
    cond-unfolded (every r c) a h f = absurd (let z : ⊥ = cc in z)

-- ---- the condition

module _ (q : ℕ) (cells : List Term) (s : ℕ) (p : Cond) (free : any_in_cond (wanted sought.Node) p ≡ false) (own : (x : ℕ) → reads_cond x p ≡ true → x ≡ q)
    (bare : (j : ℕ) → reads_at_cond q j p ≡ true → any_in (wanted sought.Node) (cell_at j cells) ≡ false) (reads_s : (j : ℕ) → reads_at_cond q j p ≡ true → (x : ℕ) → reads x (cell_at j cells) ≡ true → x ≡ s) where
  pub through-free : any_in_cond (wanted sought.Node) (substituted_cond q cells p) ≡ false
  through-free = elim (cases_Bool (any_in_cond (wanted sought.Node) (substituted_cond q cells p))) [
    | inr n ↦ n
    | inl h ↦ absurd (elim (put.cond-put q cells (λ r j. false) (λ r. true) (λ r. true) (λ r. true) ⊤ (λ r j m h. tt) (λ r m h. tt) (λ r m h. tt) p (names-none p free q) h) [
      | inl a ↦ clash (any_in_cond (wanted sought.Node) p) a.0 free
      | inr a ↦ clash (any_in (wanted sought.Node) (cell_at a.0 cells)) a.1.1 (bare a.0 a.1.0)
    ])
  ]

  pub through-own : (x : ℕ) → reads_cond x (substituted_cond q cells p) ≡ true → x ≡ s
  through-own x h = elim (put.cond-put q cells (λ r k. r == x) (λ r. false) (λ r. false) (λ r. prelude.not (r == x)) ((x == q) ≡ false) (λ r k m h. subst (λ z. (z == q) ≡ false) (eqb-true r x h) m) (λ r m h. absurd (let z : ⊥ = cc in z)) (λ r m h. absurd (let z : ⊥ = cc in z)) p (names-none p free q) h) [
    | inl a ↦ absurd (clash (x == q) (eq-eqb x q (own x a.0)) a.1)
    | inr a ↦ reads_s a.0 a.1.0 x a.1.1
  ]
