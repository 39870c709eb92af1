-- What stands in expressions into which cells were put, for all searches at once.
use Rattle.std.proofs.Common.{ℕ, zero, suc, ◌==◌, ◌≡◌, ◌&&◌, ◌||◌, cond, Bool, true, false, List, [], ◌∷◌, map, get_or, refl, ap, subst, ◌⊎◌, inl, inr}
use Rattle.std.specs.List.{list_any, list_all}
use Rattle.std.proofs.lemmas.Bool.{and_from, and_parts, cases_Bool, or_cases, or_from, or_left, or_parts, or_right}
use Rattle.qgm_terms.specs.Terms.{Term, int, text, null_int, null_text, col, both, minus_of, choose, count_all, fold, scalar, Arms, no_arm, arm, Cond, always, compare, is_null, and, or, not, some, every}
use Rattle.qgm_terms.specs.Wanted.{any_in, any_in_arms, any_in_cond, reads_at, reads_at_cond}
use Rattle.qgm_meaning.specs.Searches.{looking, binds, binds_cond, names, names_arms, names_cond, reads_at_arms, bare, bare_arms, bare_cond}
use Rattle.qgm_terms.specs.Substitution.{cell_at, substituted, substituted_arms, substituted_cond}
use Rattle.std.specs.Prelude as p
use Rattle.list_laws.proofs.Membership.{eq-itself}
use Rattle.list_laws.proofs.Booleans.{clash}

either : (a b c d : Bool) → (a ≡ true → c ≡ true) → (b ≡ true → d ≡ true) → (a || b) ≡ true → (c || d) ≡ true
either true b c d h k t = or_left c d (h refl)
either false b c d h k t = or_right c d (k t)

-- ---- a search that asks less finds less

module _ (c1 c2 : ℕ → ℕ → Bool) (s1 s2 n1 n2 e1 e2 : ℕ → Bool) (hc : (r k : ℕ) → c1 r k ≡ true → c2 r k ≡ true) (hs : (r : ℕ) → s1 r ≡ true → s2 r ≡ true) (hn : (r : ℕ) → n1 r ≡ true → n2 r ≡ true) (he : (r : ℕ) → e1 r ≡ true → e2 r ≡ true) where
  both-more : (a a' b b' : Bool) → (a ≡ true → a' ≡ true) → (b ≡ true → b' ≡ true) → (a && b) ≡ true → (a' && b') ≡ true
  both-more a a' b b' h k t = let ps = and_parts a b t in and_from a' b' (h ps.0) (k ps.1)

  mutual
    pub term-more : (x : Term) → any_in (looking c1 s1 n1 e1) x ≡ true → any_in (looking c2 s2 n2 e2) x ≡ true
    term-more (int n) h = h
    term-more (text s) h = h
    term-more null_int h = h
    term-more null_text h = h
    term-more (col r k) h = hc r k h
    term-more (both o x y) h = either (any_in (looking c1 s1 n1 e1) x) (any_in (looking c1 s1 n1 e1) y) (any_in (looking c2 s2 n2 e2) x) (any_in (looking c2 s2 n2 e2) y) (term-more x) (term-more y) h
    term-more (minus_of x) h = term-more x h
    term-more (choose s x) h = either (any_in_arms (looking c1 s1 n1 e1) s) (any_in (looking c1 s1 n1 e1) x) (any_in_arms (looking c2 s2 n2 e2) s) (any_in (looking c2 s2 n2 e2) x) (arms-more s) (term-more x) h
    term-more count_all h = h
    term-more (fold f t x) h = term-more x h
    term-more (scalar r) h = hs r h

    arms-more : (s : Arms) → any_in_arms (looking c1 s1 n1 e1) s ≡ true → any_in_arms (looking c2 s2 n2 e2) s ≡ true
    arms-more no_arm h = h
    arms-more (arm c x s) h =
        either (any_in_cond (looking c1 s1 n1 e1) c) (any_in (looking c1 s1 n1 e1) x || any_in_arms (looking c1 s1 n1 e1) s) (any_in_cond (looking c2 s2 n2 e2) c) (any_in (looking c2 s2 n2 e2) x || any_in_arms (looking c2 s2 n2 e2) s) (cond-more c)
        (either (any_in (looking c1 s1 n1 e1) x) (any_in_arms (looking c1 s1 n1 e1) s) (any_in (looking c2 s2 n2 e2) x) (any_in_arms (looking c2 s2 n2 e2) s) (term-more x) (arms-more s)) h

    pub cond-more : (c : Cond) → any_in_cond (looking c1 s1 n1 e1) c ≡ true → any_in_cond (looking c2 s2 n2 e2) c ≡ true
    cond-more always h = h
    cond-more (compare sign x y) h = either (any_in (looking c1 s1 n1 e1) x) (any_in (looking c1 s1 n1 e1) y) (any_in (looking c2 s2 n2 e2) x) (any_in (looking c2 s2 n2 e2) y) (term-more x) (term-more y) h
    cond-more (is_null x) h = term-more x h
    cond-more (and c d) h = either (any_in_cond (looking c1 s1 n1 e1) c) (any_in_cond (looking c1 s1 n1 e1) d) (any_in_cond (looking c2 s2 n2 e2) c) (any_in_cond (looking c2 s2 n2 e2) d) (cond-more c) (cond-more d) h
    cond-more (or c d) h = either (any_in_cond (looking c1 s1 n1 e1) c) (any_in_cond (looking c1 s1 n1 e1) d) (any_in_cond (looking c2 s2 n2 e2) c) (any_in_cond (looking c2 s2 n2 e2) d) (cond-more c) (cond-more d) h
    cond-more (not c) h = cond-more c h
    cond-more (some r c) h = either (n1 r) (e1 r && any_in_cond (looking c1 s1 n1 e1) c) (n2 r) (e2 r && any_in_cond (looking c2 s2 n2 e2) c) (hn r) (both-more (e1 r) (e2 r) (any_in_cond (looking c1 s1 n1 e1) c) (any_in_cond (looking c2 s2 n2 e2) c) (he r) (cond-more c)) h
    cond-more (every r c) h = either (n1 r) (e1 r && any_in_cond (looking c1 s1 n1 e1) c) (n2 r) (e2 r && any_in_cond (looking c2 s2 n2 e2) c) (hn r) (both-more (e1 r) (e2 r) (any_in_cond (looking c1 s1 n1 e1) c) (any_in_cond (looking c2 s2 n2 e2) c) (he r) (cond-more c)) h

  pub heads-more : (xs : List Term) → list_any (any_in (looking c1 s1 n1 e1)) xs ≡ true → list_any (any_in (looking c2 s2 n2 e2)) xs ≡ true
  heads-more [] h = h
  heads-more (x ∷ xs) h = either (any_in (looking c1 s1 n1 e1) x) (list_any (any_in (looking c1 s1 n1 e1)) xs) (any_in (looking c2 s2 n2 e2) x) (list_any (any_in (looking c2 s2 n2 e2)) xs) (term-more x) (heads-more xs) h

  pub conds-more : (xs : List Cond) → list_any (any_in_cond (looking c1 s1 n1 e1)) xs ≡ true → list_any (any_in_cond (looking c2 s2 n2 e2)) xs ≡ true
  conds-more [] h = h
  conds-more (x ∷ xs) h = either (any_in_cond (looking c1 s1 n1 e1) x) (list_any (any_in_cond (looking c1 s1 n1 e1)) xs) (any_in_cond (looking c2 s2 n2 e2) x) (list_any (any_in_cond (looking c2 s2 n2 e2)) xs) (cond-more x) (conds-more xs) h

-- what binds is named
pub heads-names : (q : ℕ) (xs : List Term) → list_any (binds q) xs ≡ true → list_any (names q) xs ≡ true
heads-names q xs h = heads-more (λ r k. false) (λ r k. false) (λ r. false) (λ r. r == q) (λ r. r == q) (λ r. r == q) (λ r. true) (λ r. true) (λ r k h. h) (λ r h. absurd (let z : ⊥ = cc in z)) (λ r h. h) (λ r h. h) xs h

pub conds-names : (q : ℕ) (xs : List Cond) → list_any (binds_cond q) xs ≡ true → list_any (names_cond q) xs ≡ true
conds-names q xs h = conds-more (λ r k. false) (λ r k. false) (λ r. false) (λ r. r == q) (λ r. r == q) (λ r. r == q) (λ r. true) (λ r. true) (λ r k h. h) (λ r h. absurd (let z : ⊥ = cc in z)) (λ r h. h) (λ r h. h) xs h

-- ---- cells put in: what is found was there, at another quantifier than q (then A), or is found in a cell whose column is read

module _ (q : ℕ) (cells : List Term) (column : ℕ → ℕ → Bool) (cell node enter : ℕ → Bool) (A : Type 0)
    (hc : (r k : ℕ) → (r == q) ≡ false → column r k ≡ true → A) (hs : (r : ℕ) → (r == q) ≡ false → cell r ≡ true → A) (hn : (r : ℕ) → (r == q) ≡ false → node r ≡ true → A) where
  abbrev found : Term → Bool
  found x = any_in (looking column cell node enter) x

  abbrev found_arms : Arms → Bool
  found_arms x = any_in_arms (looking column cell node enter) x

  abbrev found_cond : Cond → Bool
  found_cond x = any_in_cond (looking column cell node enter) x

  abbrev pub From : Bool → (ℕ → Bool) → Type 0
  From old read = ((old ≡ true) × A) ⊎ ((j : ℕ) × ((read j ≡ true) × (found (cell_at j cells) ≡ true)))

  widen : (old old' : Bool) (read read' : ℕ → Bool) → (old ≡ true → old' ≡ true) → ((j : ℕ) → read j ≡ true → read' j ≡ true) → From old read → From old' read'
  widen old old' read read' f g x = elim x [ inl y ↦ inl (f y.0, y.1) | inr y ↦ inr (y.0, (g y.0 y.1.0, y.1.1)) ]

  -- of two parts
  parts : (n m a b o o' : Bool) (r r' : ℕ → Bool) → (n || m) ≡ false → (a || b) ≡ true → (n ≡ false → a ≡ true → From o r) → (m ≡ false → b ≡ true → From o' r') → From (o || o') (λ j. r j || r' j)
  parts n m a b o o' r r' ms h f g = let x = or_parts n m ms in elim (or_cases a b h) [
    | inl i ↦ widen o (o || o') r (λ j. r j || r' j) (or_left o o') (λ j. or_left (r j) (r' j)) (f x.0 i)
    | inr i ↦ widen o' (o || o') r' (λ j. r j || r' j) (or_right o o') (λ j. or_right (r j) (r' j)) (g x.1 i)
  ]

  node-put : (r : ℕ) (c : Cond) → ((names_cond q c ≡ false) → found_cond (substituted_cond q cells c) ≡ true → From (found_cond c) (λ j. reads_at_cond q j c)) → ((r == q) || (true && names_cond q c)) ≡ false
      → (node r || (enter r && found_cond (cond (r == q) c (substituted_cond q cells c)))) ≡ true → From (node r || (enter r && found_cond c)) (λ j. false || (p.not (r == q) && reads_at_cond q j c))
  node-put r c f ms h =
      let x = or_parts (r == q) (names_cond q c) ms in
      elim (or_cases (node r) (enter r && found_cond (cond (r == q) c (substituted_cond q cells c))) h) [
        | inl i ↦ inl (or_left (node r) (enter r && found_cond c) i, hn r x.0 i)
        | inr i ↦ (
            let e = and_parts (enter r) (found_cond (cond (r == q) c (substituted_cond q cells c))) i in
            widen (found_cond c) (node r || (enter r && found_cond c)) (λ j. reads_at_cond q j c) (λ j. p.not (r == q) && reads_at_cond q j c)
            (λ t. or_right (node r) (enter r && found_cond c) (and_from (enter r) (found_cond c) e.0 t)) (λ j t. and_from (p.not (r == q)) (reads_at_cond q j c) (ap p.not x.0) t)
            (f x.1 (subst (λ (b : Bool). found_cond (cond b c (substituted_cond q cells c)) ≡ true) x.0 e.1)))
      ]

  mutual
    pub term-put : (x : Term) → names q x ≡ false → found (substituted q cells x) ≡ true → From (found x) (λ j. reads_at q j x)
    term-put (int n) m h = absurd (let z : ⊥ = cc in z)
    term-put (text s) m h = absurd (let z : ⊥ = cc in z)
    term-put null_int m h = absurd (let z : ⊥ = cc in z)
    term-put null_text m h = absurd (let z : ⊥ = cc in z)
    term-put (col r k) m h = elim (cases_Bool (r == q)) [
      | inl t ↦ inr (k, (and_from (r == q) (k == k) t (eq-itself k), subst (λ b. found (cond b (cell_at k cells) (col r k)) ≡ true) t h))
      | inr f ↦ (let i : column r k ≡ true = subst (λ b. found (cond b (cell_at k cells) (col r k)) ≡ true) f h in inl (i, hc r k f i))
    ]
    term-put (both o x y) m h = parts (names q x) (names q y) (found (substituted q cells x)) (found (substituted q cells y)) (found x) (found y) (λ j. reads_at q j x) (λ j. reads_at q j y) m h (term-put x) (term-put y)
    term-put (minus_of x) m h = term-put x m h
    term-put (choose s x) m h = parts (names_arms q s) (names q x) (found_arms (substituted_arms q cells s)) (found (substituted q cells x)) (found_arms s) (found x) (λ j. reads_at_arms q j s) (λ j. reads_at q j x) m h (arms-put s) (term-put x)
    term-put count_all m h = absurd (let z : ⊥ = cc in z)
    term-put (fold f t x) m h = term-put x m h
    term-put (scalar r) m h = inl (h, hs r m h)

    arms-put : (s : Arms) → names_arms q s ≡ false → found_arms (substituted_arms q cells s) ≡ true → From (found_arms s) (λ j. reads_at_arms q j s)
    arms-put no_arm m h = absurd (let z : ⊥ = cc in z)
    arms-put (arm c x s) m h =
        parts (names_cond q c) (names q x || names_arms q s) (found_cond (substituted_cond q cells c)) (found (substituted q cells x) || found_arms (substituted_arms q cells s)) (found_cond c) (found x || found_arms s) (λ j. reads_at_cond q j c) (λ j. reads_at q j x || reads_at_arms q j s) m h (cond-put c)
        (λ m h. parts (names q x) (names_arms q s) (found (substituted q cells x)) (found_arms (substituted_arms q cells s)) (found x) (found_arms s) (λ j. reads_at q j x) (λ j. reads_at_arms q j s) m h (term-put x) (arms-put s))

    pub cond-put : (c : Cond) → names_cond q c ≡ false → found_cond (substituted_cond q cells c) ≡ true → From (found_cond c) (λ j. reads_at_cond q j c)
    cond-put always m h = absurd (let z : ⊥ = cc in z)
    cond-put (compare sign x y) m h = parts (names q x) (names q y) (found (substituted q cells x)) (found (substituted q cells y)) (found x) (found y) (λ j. reads_at q j x) (λ j. reads_at q j y) m h (term-put x) (term-put y)
    cond-put (is_null x) m h = term-put x m h
    cond-put (and c d) m h = parts (names_cond q c) (names_cond q d) (found_cond (substituted_cond q cells c)) (found_cond (substituted_cond q cells d)) (found_cond c) (found_cond d) (λ j. reads_at_cond q j c) (λ j. reads_at_cond q j d) m h (cond-put c) (cond-put d)
    cond-put (or c d) m h = parts (names_cond q c) (names_cond q d) (found_cond (substituted_cond q cells c)) (found_cond (substituted_cond q cells d)) (found_cond c) (found_cond d) (λ j. reads_at_cond q j c) (λ j. reads_at_cond q j d) m h (cond-put c) (cond-put d)
    cond-put (not c) m h = cond-put c m h
    cond-put (some r c) m h = node-put r c (cond-put c) m h
    cond-put (every r c) m h = node-put r c (cond-put c) m h

  pub heads-put : (xs : List Term) → list_any (names q) xs ≡ false → list_any found (map (substituted q cells) xs) ≡ true → From (list_any found xs) (λ j. list_any (reads_at q j) xs)
  heads-put [] m h = absurd (let z : ⊥ = cc in z)
  heads-put (x ∷ xs) m h = parts (names q x) (list_any (names q) xs) (found (substituted q cells x)) (list_any found (map (substituted q cells) xs)) (found x) (list_any found xs) (λ j. reads_at q j x) (λ j. list_any (reads_at q j) xs) m h (term-put x) (heads-put xs)

  pub conds-put : (xs : List Cond) → list_any (names_cond q) xs ≡ false → list_any found_cond (map (substituted_cond q cells) xs) ≡ true → From (list_any found_cond xs) (λ j. list_any (reads_at_cond q j) xs)
  conds-put [] m h = absurd (let z : ⊥ = cc in z)
  conds-put (x ∷ xs) m h = parts (names_cond q x) (list_any (names_cond q) xs) (found_cond (substituted_cond q cells x)) (list_any found_cond (map (substituted_cond q cells) xs)) (found_cond x) (list_any found_cond xs) (λ j. reads_at_cond q j x) (λ j. list_any (reads_at_cond q j) xs) m h (cond-put x) (conds-put xs)

-- what is found in a column's cell is found in one of the cells
pub cell-any : (P : Term → Bool) (cells : List Term) (k : ℕ) → P null_int ≡ false → P (cell_at k cells) ≡ true → list_any P cells ≡ true
cell-any P cells k n h = elim (at (null_int ∷ cells) k h) [ inl x ↦ absurd (clash (P null_int) x n) | inr y ↦ y ]
  where
    more : (xs : List Term) (k : ℕ) → P (get_or xs k null_int) ≡ true → (P null_int ≡ true) ⊎ (list_any P xs ≡ true)
    more [] k h = inl h
    more (x ∷ xs) zero h = inr (or_left (P x) (list_any P xs) h)
    more (x ∷ xs) (suc k) h = elim (more xs k h) [ inl y ↦ inl y | inr y ↦ inr (or_right (P x) (list_any P xs) y) ]

    at : (xs : List Term) (k : ℕ) → P (get_or (null_int ∷ cells) k null_int) ≡ true → (P null_int ≡ true) ⊎ (list_any P cells ≡ true)
    at xs zero h = inl h
    at xs (suc k) h = more cells k h

-- a bare cell has no node
module _ (q : ℕ) where
  mutual
    names-bare : (x : Term) → bare x ≡ true → names q x ≡ false
    names-bare (int n) b = refl
    names-bare (text s) b = refl
    names-bare null_int b = refl
    names-bare null_text b = refl
    names-bare (col r k) b = refl
    names-bare (both o x y) b = let n = and_parts (bare x) (bare y) b in or_from (names q x) (names q y) (names-bare x n.0) (names-bare y n.1)
    names-bare (minus_of x) b = names-bare x b
    names-bare (choose s x) b = let n = and_parts (bare_arms s) (bare x) b in or_from (names_arms q s) (names q x) (arms-bare s n.0) (names-bare x n.1)
    names-bare count_all b = absurd (let z : ⊥ = cc in z)
    names-bare (fold f t x) b = absurd (let z : ⊥ = cc in z)
    names-bare (scalar r) b = absurd (let z : ⊥ = cc in z)

    arms-bare : (s : Arms) → bare_arms s ≡ true → names_arms q s ≡ false
    arms-bare no_arm b = refl
    arms-bare (arm c x s) b =
        let n = and_parts (bare_cond c) (bare x && bare_arms s) b in let k = and_parts (bare x) (bare_arms s) n.1 in
        or_from (names_cond q c) (names q x || names_arms q s) (cond-bare c n.0) (or_from (names q x) (names_arms q s) (names-bare x k.0) (arms-bare s k.1))

    cond-bare : (c : Cond) → bare_cond c ≡ true → names_cond q c ≡ false
    cond-bare always b = refl
    cond-bare (compare sign x y) b = let n = and_parts (bare x) (bare y) b in or_from (names q x) (names q y) (names-bare x n.0) (names-bare y n.1)
    cond-bare (is_null x) b = names-bare x b
    cond-bare (and c d) b = let n = and_parts (bare_cond c) (bare_cond d) b in or_from (names_cond q c) (names_cond q d) (cond-bare c n.0) (cond-bare d n.1)
    cond-bare (or c d) b = let n = and_parts (bare_cond c) (bare_cond d) b in or_from (names_cond q c) (names_cond q d) (cond-bare c n.0) (cond-bare d n.1)
    cond-bare (not c) b = cond-bare c b
    cond-bare (some r c) b = absurd (let z : ⊥ = cc in z)
    cond-bare (every r c) b = absurd (let z : ⊥ = cc in z)

  pub heads-bare : (xs : List Term) → list_all bare xs ≡ true → list_any (names q) xs ≡ false
  heads-bare [] b = refl
  heads-bare (x ∷ xs) b = let n = and_parts (bare x) (list_all bare xs) b in or_from (names q x) (list_any (names q) xs) (names-bare x n.0) (heads-bare xs n.1)
