-- Columns renamed, put in for others, and back.
use Rattle.std.specs.Prelude as prelude
use Rattle.std.specs.Prelude.{nat_le, nat_lt}
use Rattle.std.proofs.Common.{ℕ, zero, suc, ◌==◌, ◌≡◌, ◌&&◌, ◌||◌, ◌+◌, ◌≤◌, ◌<◌, cond, Bool, true, false, List, [], ◌∷◌, ◌++◌, map, length, get_or, refl, sym, ap, ap₂, subst, ◌∙◌, eqb-true, inl, inr, arith}
use Rattle.std.specs.List.{list_any}
use Rattle.std.proofs.lemmas.Bool.{and_parts, cases_Bool}
use Rattle.qgm_terms.specs.Terms.{Term, int, text, null_int, null_text, col, both, minus_of, choose, count_all, fold, scalar, Arms, no_arm, arm, Cond, always, compare, is_null, and, or, not, some, every}
use Rattle.qgm_terms.specs.Substitution.{cell_at, column_substituted, substituted, substituted_arms, substituted_cond}
use Rattle.qgm_terms.specs.Wanted.{any_in, any_in_arms, any_in_cond}
use Rattle.qgm_meaning.specs.Searches.{looking, names, names_arms, names_cond}
use Rattle.qgm_meaning.specs.Tags.{columns_from}
use Rattle.rule_feed.specs.Split.{heads, into, renamed, renamed_arms, renamed_cond, start, stays_in, strays}
use Rattle.list_laws.proofs.Booleans.{neither-left, neither-right}

-- where no scalar, some or every of q stands, cells put in for its columns are columns renamed; names of q stay as they are
module _ (q : ℕ) (cells : List Term) (g : ℕ → ℕ → Term) where
  abbrev f : ℕ → ℕ → Term
  f r k = column_substituted q cells r k

  abbrev h : ℕ → ℕ → Term
  h r k = substituted q cells (g r k)

  -- first g, and then the cells
  mutual
    pub put-renamed : (x : Term) → names q x ≡ false → substituted q cells (renamed g x) ≡ renamed (λ r k. substituted q cells (g r k)) x
    put-renamed (int m) n = refl
    put-renamed (text s) n = refl
    put-renamed null_int n = refl
    put-renamed null_text n = refl
    put-renamed (col r j) n = refl
    put-renamed (both o x y) n = ap₂ (both o) (put-renamed x (neither-left (names q x) (names q y) n)) (put-renamed y (neither-right (names q x) (names q y) n))
    put-renamed (minus_of x) n = ap minus_of (put-renamed x n)
    put-renamed (choose s x) n = ap₂ choose (put-renamed_arms s (neither-left (names_arms q s) (names q x) n)) (put-renamed x (neither-right (names_arms q s) (names q x) n))
    put-renamed count_all n = refl
    put-renamed (fold a d x) n = ap (fold a d) (put-renamed x n)
    put-renamed (scalar r) n = refl

    put-renamed_arms : (s : Arms) → names_arms q s ≡ false → substituted_arms q cells (renamed_arms g s) ≡ renamed_arms (λ r k. substituted q cells (g r k)) s
    put-renamed_arms no_arm n = refl
    put-renamed_arms (arm c x s) n =
        let m = neither-right (names_cond q c) (names q x || names_arms q s) n in
        ap₂ (λ (a : Cond) (p : Term × Arms). arm a p.0 p.1) (put-renamed_cond c (neither-left (names_cond q c) (names q x || names_arms q s) n))
        (ap₂ (λ (a : Term) (b : Arms). (a, b)) (put-renamed x (neither-left (names q x) (names_arms q s) m)) (put-renamed_arms s (neither-right (names q x) (names_arms q s) m)))

    pub put-renamed_cond : (c : Cond) → names_cond q c ≡ false → substituted_cond q cells (renamed_cond g c) ≡ renamed_cond (λ r k. substituted q cells (g r k)) c
    put-renamed_cond always n = refl
    put-renamed_cond (compare s x y) n = ap₂ (compare s) (put-renamed x (neither-left (names q x) (names q y) n)) (put-renamed y (neither-right (names q x) (names q y) n))
    put-renamed_cond (is_null x) n = ap is_null (put-renamed x n)
    put-renamed_cond (and c d) n = ap₂ and (put-renamed_cond c (neither-left (names_cond q c) (names_cond q d) n)) (put-renamed_cond d (neither-right (names_cond q c) (names_cond q d) n))
    put-renamed_cond (or c d) n = ap₂ or (put-renamed_cond c (neither-left (names_cond q c) (names_cond q d) n)) (put-renamed_cond d (neither-right (names_cond q c) (names_cond q d) n))
    put-renamed_cond (not c) n = ap not (put-renamed_cond c n)
    put-renamed_cond (some r c) n =
        ap (λ (b : Bool). some r (cond b (renamed_cond g c) (substituted_cond q cells (renamed_cond g c)))) (neither-left (r == q) (names_cond q c) n)
        ∙ ap (some r) (put-renamed_cond c (neither-right (r == q) (names_cond q c) n))
    put-renamed_cond (every r c) n =
        ap (λ (b : Bool). every r (cond b (renamed_cond g c) (substituted_cond q cells (renamed_cond g c)))) (neither-left (r == q) (names_cond q c) n)
        ∙ ap (every r) (put-renamed_cond c (neither-right (r == q) (names_cond q c) n))

-- where each column within is one that stays
module _ (f : ℕ → ℕ → Term) (ok : ℕ → ℕ → Bool) (same : (r k : ℕ) → ok r k ≡ true → f r k ≡ col r k) where
  not-not : (b : Bool) → prelude.not b ≡ false → b ≡ true
  not-not true h = refl
  not-not false h = absurd (let z : ⊥ = cc in z)

  abbrev bad : Term → Bool
  bad = any_in (looking (λ r j. prelude.not (ok r j)) (λ r. false) (λ r. false) (λ r. true))

  abbrev bad_arms : Arms → Bool
  bad_arms = any_in_arms (looking (λ r j. prelude.not (ok r j)) (λ r. false) (λ r. false) (λ r. true))

  abbrev bad_cond : Cond → Bool
  bad_cond = any_in_cond (looking (λ r j. prelude.not (ok r j)) (λ r. false) (λ r. false) (λ r. true))

  mutual
    renamed-same : (x : Term) → bad x ≡ false → renamed f x ≡ x
    renamed-same (int m) n = refl
    renamed-same (text s) n = refl
    renamed-same null_int n = refl
    renamed-same null_text n = refl
    renamed-same (col r j) n = same r j (not-not (ok r j) n)
    renamed-same (both o x y) n = ap₂ (both o) (renamed-same x (neither-left (bad x) (bad y) n)) (renamed-same y (neither-right (bad x) (bad y) n))
    renamed-same (minus_of x) n = ap minus_of (renamed-same x n)
    renamed-same (choose s x) n = ap₂ choose (renamed-same_arms s (neither-left (bad_arms s) (bad x) n)) (renamed-same x (neither-right (bad_arms s) (bad x) n))
    renamed-same count_all n = refl
    renamed-same (fold a d x) n = ap (fold a d) (renamed-same x n)
    renamed-same (scalar r) n = refl

    renamed-same_arms : (s : Arms) → bad_arms s ≡ false → renamed_arms f s ≡ s
    renamed-same_arms no_arm n = refl
    renamed-same_arms (arm c x s) n =
        let m = neither-right (bad_cond c) (bad x || bad_arms s) n in
        ap₂ (λ (a : Cond) (p : Term × Arms). arm a p.0 p.1) (renamed-same_cond c (neither-left (bad_cond c) (bad x || bad_arms s) n))
        (ap₂ (λ (a : Term) (b : Arms). (a, b)) (renamed-same x (neither-left (bad x) (bad_arms s) m)) (renamed-same_arms s (neither-right (bad x) (bad_arms s) m)))

    renamed-same_cond : (c : Cond) → bad_cond c ≡ false → renamed_cond f c ≡ c
    renamed-same_cond always n = refl
    renamed-same_cond (compare s x y) n = ap₂ (compare s) (renamed-same x (neither-left (bad x) (bad y) n)) (renamed-same y (neither-right (bad x) (bad y) n))
    renamed-same_cond (is_null x) n = ap is_null (renamed-same x n)
    renamed-same_cond (and c d) n = ap₂ and (renamed-same_cond c (neither-left (bad_cond c) (bad_cond d) n)) (renamed-same_cond d (neither-right (bad_cond c) (bad_cond d) n))
    renamed-same_cond (or c d) n = ap₂ or (renamed-same_cond c (neither-left (bad_cond c) (bad_cond d) n)) (renamed-same_cond d (neither-right (bad_cond c) (bad_cond d) n))
    renamed-same_cond (not c) n = ap not (renamed-same_cond c n)
    renamed-same_cond (some r c) n = ap (some r) (renamed-same_cond c n)
    renamed-same_cond (every r c) n = ap (every r) (renamed-same_cond c n)

  pub terms-same : (xs : List Term) → list_any bad xs ≡ false → map (renamed f) xs ≡ xs
  terms-same [] n = refl
  terms-same (x ∷ xs) n = ap₂ (λ (a : Term) (b : List Term). a ∷ b) (renamed-same x (neither-left (bad x) (list_any bad xs) n)) (terms-same xs (neither-right (bad x) (list_any bad xs) n))

  pub conds-same : (xs : List Cond) → list_any bad_cond xs ≡ false → map (renamed_cond f) xs ≡ xs
  conds-same [] n = refl
  conds-same (x ∷ xs) n = ap₂ (λ (a : Cond) (b : List Cond). a ∷ b) (renamed-same_cond x (neither-left (bad_cond x) (list_any bad_cond xs) n)) (conds-same xs (neither-right (bad_cond x) (list_any bad_cond xs) n))

-- ---- columns of several quantifiers are those of one

get-append : (xs ys : List Term) (k : ℕ) → get_or (xs ++ ys) (length xs + k) null_int ≡ get_or ys k null_int
get-append [] ys k = ap (λ n. get_or ys n null_int) (let e : 0 + k ≡ k = omega arith in e)
get-append (x ∷ xs) ys k = ap (λ n. get_or (x ∷ (xs ++ ys)) n null_int) (let e : suc (length xs) + k ≡ suc (length xs + k) = omega arith in e) ∙ get-append xs ys k

get-left : (xs ys : List Term) (k : ℕ) → k < length xs → get_or (xs ++ ys) k null_int ≡ get_or xs k null_int
get-left [] ys k h = absurd (let z : ⊥ = omega (arith, h) in z)
get-left (x ∷ xs) ys zero h = refl
get-left (x ∷ xs) ys (suc k) h = get-left xs ys k (let m : k < length xs = omega (arith, h) in m)

length-columns : (q k w : ℕ) → length (columns_from q k w) ≡ w
length-columns q k zero = refl
length-columns q k (suc w) = ap suc (length-columns q (suc k) w)

pub column-there : (q k w j : ℕ) → j < w → get_or (columns_from q k w) j null_int ≡ col q (k + j)
column-there q k zero j h = absurd (let z : ⊥ = omega (arith, h) in z)
column-there q k (suc w) zero h = ap (col q) (let e : k ≡ k + zero = omega arith in e)
column-there q k (suc w) (suc j) h = column-there q (suc k) w j (let m : j < w = omega (arith, h) in m) ∙ ap (col q) (let e : suc k + j ≡ k + suc j = omega arith in e)

lt-from : (a b : ℕ) → nat_lt a b ≡ true → a < b
lt-from a b h = grind (arith, h)

le-from : (a b : ℕ) → nat_le a b ≡ true → a ≤ b
le-from a b h = grind (arith, h)

-- a column in range stands at its place
head-at : (ps : List (ℕ × ℕ)) (q r k : ℕ) → list_any (λ p. p.0 == r) ps ≡ true → stays_in ps q r (suc k) ≡ true → get_or (heads ps) (start ps r + k) null_int ≡ col r (suc k)
head-at [] q r k h t = absurd (let z : ⊥ = cc in z)
head-at (p ∷ ps) q r k h t = elim (cases_Bool (p.0 == r)) [
  | inl e ↦ (
      let u = and_parts (nat_lt 0 (suc k)) (nat_le (suc k) p.1) (sym (ap (λ (b : Bool). cond b (nat_lt 0 (suc k) && nat_le (suc k) p.1) (stays_in ps q r (suc k))) e) ∙ t) in
      let le = le-from (suc k) p.1 u.1 in
      ap (λ (b : Bool). get_or (columns_from p.0 1 p.1 ++ heads ps) (cond b 0 (p.1 + start ps r) + k) null_int) e
      ∙ ap (λ n. get_or (columns_from p.0 1 p.1 ++ heads ps) n null_int) (let z : 0 + k ≡ k = omega arith in z)
      ∙ get-left (columns_from p.0 1 p.1) (heads ps) k (subst (λ n. k < n) (sym (length-columns p.0 1 p.1)) (omega (arith, le)))
      ∙ column-there p.0 1 p.1 k (omega (arith, le)) ∙ ap₂ (λ n j. col n j) (eqb-true p.0 r e) (let e : 1 + k ≡ suc k = omega arith in e))
  | inr f ↦ (
      let h' : list_any (λ p. p.0 == r) ps ≡ true = sym (ap (λ (b : Bool). b || list_any (λ (p : ℕ × ℕ). p.0 == r) ps) f) ∙ h in
      let t' : stays_in ps q r (suc k) ≡ true = sym (ap (λ (b : Bool). cond b (nat_lt 0 (suc k) && nat_le (suc k) p.1) (stays_in ps q r (suc k))) f) ∙ t in
      ap (λ (b : Bool). get_or (columns_from p.0 1 p.1 ++ heads ps) (cond b 0 (p.1 + start ps r) + k) null_int) f
      ∙ ap (λ n. get_or (columns_from p.0 1 p.1 ++ heads ps) n null_int) (let e : (p.1 + start ps r) + k ≡ p.1 + (start ps r + k) = omega arith in e ∙ ap (λ n. n + (start ps r + k)) (sym (length-columns p.0 1 p.1)))
      ∙ get-append (columns_from p.0 1 p.1) (heads ps) (start ps r + k) ∙ head-at ps q r k h' t')
]

none-zero : (ps : List (ℕ × ℕ)) (q r : ℕ) → list_any (λ p. p.0 == r) ps ≡ true → stays_in ps q r 0 ≡ true → ⊥
none-zero [] q r h t = let z : ⊥ = cc in z
none-zero (p ∷ ps) q r h t = elim (cases_Bool (p.0 == r)) [
  | inl e ↦ (let u : (nat_lt 0 0 && nat_le 0 p.1) ≡ true = sym (ap (λ (b : Bool). cond b (nat_lt 0 0 && nat_le 0 p.1) (stays_in ps q r 0)) e) ∙ t in let v = lt-from 0 0 (and_parts (nat_lt 0 0) (nat_le 0 p.1) u).0 in omega (arith, v))
  | inr f ↦ none-zero ps q r (sym (ap (λ (b : Bool). b || list_any (λ (p : ℕ × ℕ). p.0 == r) ps) f) ∙ h) (sym (ap (λ (b : Bool). cond b (nat_lt 0 0 && nat_le 0 p.1) (stays_in ps q r 0)) f) ∙ t)
]

not-q : (ps : List (ℕ × ℕ)) (q r k : ℕ) → list_any (λ p. p.0 == r) ps ≡ false → stays_in ps q r k ≡ true → (r == q) ≡ false
not-q [] q r k h t = neg (r == q) t
  where
    neg : (b : Bool) → prelude.not b ≡ true → b ≡ false
    neg true t = absurd (let z : ⊥ = cc in z)
    neg false t = refl
not-q (p ∷ ps) q r k h t =
    let f = neither-left (p.0 == r) (list_any (λ (p : ℕ × ℕ). p.0 == r) ps) h in
    not-q ps q r k (neither-right (p.0 == r) (list_any (λ (p : ℕ × ℕ). p.0 == r) ps) h) (sym (ap (λ (b : Bool). cond b (nat_lt 0 k && nat_le k p.1) (stays_in ps q r k)) f) ∙ t)

-- there and back
back : (ps : List (ℕ × ℕ)) (q r k : ℕ) → stays_in ps q r k ≡ true → substituted q (heads ps) (into ps q r k) ≡ col r k
back ps q r k t = elim (cases_Bool (list_any (λ p. p.0 == r) ps)) [
  | inl h ↦
      ap (λ (b : Bool). substituted q (heads ps) (cond b (col q (start ps r + k)) (col r k))) h
      ∙ ap (λ (b : Bool). cond b (cell_at (start ps r + k) (heads ps)) (col q (start ps r + k))) (Rattle.list_laws.proofs.Membership.eq-itself q)
      ∙ at k h t
  | inr h ↦
      ap (λ (b : Bool). substituted q (heads ps) (cond b (col q (start ps r + k)) (col r k))) h
      ∙ ap (λ (b : Bool). cond b (cell_at k (heads ps)) (col r k)) (not-q ps q r k h t)
]
  where
    at : (k : ℕ) → list_any (λ p. p.0 == r) ps ≡ true → stays_in ps q r k ≡ true → cell_at (start ps r + k) (heads ps) ≡ col r k
    at zero h t = absurd (none-zero ps q r h t)
    at (suc k) h t = ap (λ n. get_or (null_int ∷ heads ps) n null_int) (let e : start ps r + suc k ≡ suc (start ps r + k) = omega arith in e) ∙ head-at ps q r k h t

module _ (ps : List (ℕ × ℕ)) (q : ℕ) where
  pub heads-back : (xs : List Term) → list_any (names q) xs ≡ false → list_any (any_in (strays ps q)) xs ≡ false → map (substituted q (heads ps)) (map (renamed (into ps q)) xs) ≡ xs
  heads-back xs n m = both xs n ∙ terms-same (λ r k. substituted q (heads ps) (into ps q r k)) (stays_in ps q) (back ps q) xs m
    where
      both : (xs : List Term) → list_any (names q) xs ≡ false → map (substituted q (heads ps)) (map (renamed (into ps q)) xs) ≡ map (renamed (λ r k. substituted q (heads ps) (into ps q r k))) xs
      both [] n = refl
      both (x ∷ xs) n = ap₂ (λ (a : Term) (b : List Term). a ∷ b) (put-renamed q (heads ps) (into ps q) x (neither-left (names q x) (list_any (names q) xs) n)) (both xs (neither-right (names q x) (list_any (names q) xs) n))

  pub conds-back : (xs : List Cond) → list_any (names_cond q) xs ≡ false → list_any (any_in_cond (strays ps q)) xs ≡ false → map (substituted_cond q (heads ps)) (map (renamed_cond (into ps q)) xs) ≡ xs
  conds-back xs n m = both xs n ∙ conds-same (λ r k. substituted q (heads ps) (into ps q r k)) (stays_in ps q) (back ps q) xs m
    where
      both : (xs : List Cond) → list_any (names_cond q) xs ≡ false → map (substituted_cond q (heads ps)) (map (renamed_cond (into ps q)) xs) ≡ map (renamed_cond (λ r k. substituted q (heads ps) (into ps q r k))) xs
      both [] n = refl
      both (x ∷ xs) n = ap₂ (λ (a : Cond) (b : List Cond). a ∷ b) (put-renamed_cond q (heads ps) (into ps q) x (neither-left (names_cond q x) (list_any (names_cond q) xs) n)) (both xs (neither-right (names_cond q x) (list_any (names_cond q) xs) n))
