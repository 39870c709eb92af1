-- Columns put in, one quantifier after the other, come to the names of one quantifier.
use Rattle.std.proofs.Common.{ℕ, zero, suc, ◌==◌, ◌≡◌, ◌≤◌, ◌<◌, ◌+◌, ◌&&◌, ◌||◌, nat_lt, nat_le, cond, not, Bool, true, false, List, [], ◌∷◌, map, refl, sym, ap, ap₂, ◌∙◌, eqb-true, inl, inr, arith}
use Rattle.std.specs.Prelude.{⊤}
use Rattle.std.specs.List.{list_any}
use Rattle.std.proofs.lemmas.Bool.{and_parts, cases_Bool, eq-eqb, leb-true, ltb-true, or_parts}
use Rattle.qgm_terms.specs.Substitution.{cell_at, substituted, substituted_cond}
use Rattle.qgm_terms.specs.Terms as t
use Rattle.qgm_terms.specs.Terms.{Arms, Cond, Term, always, and, arm, both, choose, col, compare, count_all, every, fold, int, is_null, minus_of, no_arm, null_int, null_text, or, scalar, some, text}
use Rattle.qgm_terms.specs.Wanted.{any_in, any_in_arms, any_in_cond}
use Rattle.qgm_core.specs.Edits.{put_cells}
use Rattle.qgm_core.specs.declared.node.Node.{Node}
use Rattle.qgm_meaning.specs.Searches.{names, names_cond}
use Rattle.qgm_meaning.specs.Tags.{columns_from}
use Rattle.rule_feed.specs.Split.{into, renamed, renamed_arms, renamed_cond, renamed_node, start, stays_in, strays}
use Rattle.rule_feed.proofs.SplitNames.{column-there, conds-same, put-renamed, put-renamed_cond, terms-same}
use Rattle.list_laws.proofs.Booleans.{neither-left, neither-right}
use Rattle.list_laws.proofs.Membership.{eq-false-sym}

-- ---- renaming by functions that agree on the columns within

module _ (f h : ℕ → ℕ → Term) (ws : List (ℕ × ℕ)) (q : ℕ) (same : (r k : ℕ) → stays_in ws q r k ≡ true → f r k ≡ h r k) where
  abbrev bad : Term → Bool
  bad = any_in (strays ws q)

  abbrev bad_arms : Arms → Bool
  bad_arms = any_in_arms (strays ws q)

  abbrev bad_cond : Cond → Bool
  bad_cond = any_in_cond (strays ws q)

  not-not : (b : Bool) → not b ≡ false → b ≡ true
  not-not true h = refl
  not-not false h = absurd (let z : ⊥ = cc in z)

  mutual
    alike : (x : Term) → bad x ≡ false → renamed f x ≡ renamed h x
    alike (int m) n = refl
    alike (text s) n = refl
    alike null_int n = refl
    alike null_text n = refl
    alike (col r j) n = same r j (not-not (stays_in ws q r j) n)
    alike (both o x y) n = ap₂ (both o) (alike x (neither-left (bad x) (bad y) n)) (alike y (neither-right (bad x) (bad y) n))
    alike (minus_of x) n = ap minus_of (alike x n)
    alike (choose s x) n = ap₂ choose (alike-arms s (neither-left (bad_arms s) (bad x) n)) (alike x (neither-right (bad_arms s) (bad x) n))
    alike count_all n = refl
    alike (fold a d x) n = ap (fold a d) (alike x n)
    alike (scalar r) n = refl

    alike-arms : (s : Arms) → bad_arms s ≡ false → renamed_arms f s ≡ renamed_arms h s
    alike-arms no_arm n = refl
    alike-arms (arm c x s) n =
        let m = neither-right (bad_cond c) (bad x || bad_arms s) n in
        ap₂ (λ (a : Cond) (p : Term × Arms). arm a p.0 p.1) (alike-cond c (neither-left (bad_cond c) (bad x || bad_arms s) n))
        (ap₂ (λ (a : Term) (b : Arms). (a, b)) (alike x (neither-left (bad x) (bad_arms s) m)) (alike-arms s (neither-right (bad x) (bad_arms s) m)))

    alike-cond : (c : Cond) → bad_cond c ≡ false → renamed_cond f c ≡ renamed_cond h c
    alike-cond always n = refl
    alike-cond (compare s x y) n = ap₂ (compare s) (alike x (neither-left (bad x) (bad y) n)) (alike y (neither-right (bad x) (bad y) n))
    alike-cond (is_null x) n = ap is_null (alike x n)
    alike-cond (and c d) n = ap₂ and (alike-cond c (neither-left (bad_cond c) (bad_cond d) n)) (alike-cond d (neither-right (bad_cond c) (bad_cond d) n))
    alike-cond (or c d) n = ap₂ or (alike-cond c (neither-left (bad_cond c) (bad_cond d) n)) (alike-cond d (neither-right (bad_cond c) (bad_cond d) n))
    alike-cond (t.not c) n = ap t.not (alike-cond c n)
    alike-cond (some r c) n = ap (some r) (alike-cond c n)
    alike-cond (every r c) n = ap (every r) (alike-cond c n)

  heads-alike : (xs : List Term) → list_any bad xs ≡ false → map (renamed f) xs ≡ map (renamed h) xs
  heads-alike [] n = refl
  heads-alike (x ∷ xs) n = ap₂ (λ (a : Term) (b : List Term). a ∷ b) (alike x (neither-left (bad x) (list_any bad xs) n)) (heads-alike xs (neither-right (bad x) (list_any bad xs) n))

  conds-alike : (xs : List Cond) → list_any bad_cond xs ≡ false → map (renamed_cond f) xs ≡ map (renamed_cond h) xs
  conds-alike [] n = refl
  conds-alike (x ∷ xs) n = ap₂ (λ (a : Cond) (b : List Cond). a ∷ b) (alike-cond x (neither-left (bad_cond x) (list_any bad_cond xs) n)) (conds-alike xs (neither-right (bad_cond x) (list_any bad_cond xs) n))

-- ---- one after the other

-- the cells put in for each of these, behind so many columns
abbrev pub put_all : ℕ → ℕ → List (ℕ × ℕ) → Node → Node
put_all q n [] y = y
put_all q n (w ∷ ws) y = put_all q (n + w.1) ws (put_cells w.0 (columns_from q (suc n) w.1) y)

-- what a column is after
abbrev gone : ℕ → ℕ → List (ℕ × ℕ) → (ℕ → ℕ → Term) → ℕ → ℕ → Term
gone q n [] f r k = f r k
gone q n (w ∷ ws) f r k = gone q (n + w.1) ws (λ r k. substituted w.0 (columns_from q (suc n) w.1) (f r k)) r k

-- no node of these stands there
abbrev pub Bare : List (ℕ × ℕ) → Node → Type 0
Bare [] y = ⊤
Bare (w ∷ ws) y = ((list_any (names w.0) y.parts.head ≡ false) × (list_any (names_cond w.0) y.parts.conds.items ≡ false)) × Bare ws y

put-heads : (q : ℕ) (cells : List Term) (f : ℕ → ℕ → Term) (xs : List Term) → list_any (names q) xs ≡ false → map (substituted q cells) (map (renamed f) xs) ≡ map (renamed (λ r k. substituted q cells (f r k))) xs
put-heads q cells f [] h = refl
put-heads q cells f (x ∷ xs) h = ap₂ (λ (a : Term) (b : List Term). a ∷ b) (put-renamed q cells f x (neither-left (names q x) (list_any (names q) xs) h)) (put-heads q cells f xs (neither-right (names q x) (list_any (names q) xs) h))

put-conds : (q : ℕ) (cells : List Term) (f : ℕ → ℕ → Term) (xs : List Cond) → list_any (names_cond q) xs ≡ false → map (substituted_cond q cells) (map (renamed_cond f) xs) ≡ map (renamed_cond (λ r k. substituted q cells (f r k))) xs
put-conds q cells f [] h = refl
put-conds q cells f (x ∷ xs) h = ap₂ (λ (a : Cond) (b : List Cond). a ∷ b) (put-renamed_cond q cells f x (neither-left (names_cond q x) (list_any (names_cond q) xs) h)) (put-conds q cells f xs (neither-right (names_cond q x) (list_any (names_cond q) xs) h))

abbrev with : List Term → List Cond → Node → Node
with h c y = record y { parts = record y.parts { head = h; conds = record y.parts.conds { items = c } } }

put-all : (q n : ℕ) (ws : List (ℕ × ℕ)) (f : ℕ → ℕ → Term) (y : Node) → Bare ws y → put_all q n ws (renamed_node f y) ≡ renamed_node (gone q n ws f) y
put-all q n [] f y h = refl
put-all q n (w ∷ ws) f y h =
    ap (put_all q (n + w.1) ws) (ap₂ (λ (a : List Term) (b : List Cond). with a b y) (put-heads w.0 (columns_from q (suc n) w.1) f y.parts.head h.0.0) (put-conds w.0 (columns_from q (suc n) w.1) f y.parts.conds.items h.0.1))
    ∙ put-all q (n + w.1) ws (λ r k. substituted w.0 (columns_from q (suc n) w.1) (f r k)) y h.1

-- ---- what becomes of a column

-- q is none of these
abbrev pub Other : ℕ → List (ℕ × ℕ) → Type 0
Other q [] = ⊤
Other q (w ∷ ws) = ((q == w.0) ≡ false) × Other q ws

-- it stays, if it is of none of these
gone-none : (q n : ℕ) (ws : List (ℕ × ℕ)) (f : ℕ → ℕ → Term) (r k z j : ℕ) → f r k ≡ col z j → list_any (λ p. z == p.0) ws ≡ false → gone q n ws f r k ≡ col z j
gone-none q n [] f r k z j e h = e
gone-none q n (w ∷ ws) f r k z j e h =
    let o = or_parts (z == w.0) (list_any (λ (p : ℕ × ℕ). z == p.0) ws) h in
    gone-none q (n + w.1) ws (λ r k. substituted w.0 (columns_from q (suc n) w.1) (f r k)) r k z j
    (ap (substituted w.0 (columns_from q (suc n) w.1)) e ∙ ap (λ b. cond b (cell_at j (columns_from q (suc n) w.1)) (col z j)) o.0) o.1

other-any : (q : ℕ) (ws : List (ℕ × ℕ)) → Other q ws → list_any (λ p. q == p.0) ws ≡ false
other-any q [] h = refl
other-any q (w ∷ ws) h = ap₂ (λ (a b : Bool). a || b) h.0 (other-any q ws h.1)

gone-into : (q n : ℕ) (ws : List (ℕ × ℕ)) (f : ℕ → ℕ → Term) (r k : ℕ) → f r k ≡ col r k → Other q ws → stays_in ws q r k ≡ true → gone q n ws f r k ≡ cond (list_any (λ p. p.0 == r) ws) (col q (n + (start ws r + k))) (col r k)
gone-into q n [] f r k e o h = e
gone-into q n (w ∷ ws) f r k e o h = elim (cases_Bool (w.0 == r)) [
  | inl z ↦ (
      let g = and_parts (nat_lt 0 k) (nat_le k w.1) (sym (ap (λ b. cond b (nat_lt 0 k && nat_le k w.1) (stays_in ws q r k)) z) ∙ h) in
      let lo = ltb-true 0 k g.0 in let hi = leb-true k w.1 g.1 in
      gone-none q (n + w.1) ws (λ r k. substituted w.0 (columns_from q (suc n) w.1) (f r k)) r k q (n + k)
      (ap (substituted w.0 (columns_from q (suc n) w.1)) e ∙ ap (λ b. cond b (cell_at k (columns_from q (suc n) w.1)) (col r k)) (eq-eqb r w.0 (sym (eqb-true w.0 r z))) ∙ cell k w.1 lo hi)
      (other-any q ws o.1)
      ∙ sym (ap (λ b. cond (b || list_any (λ (p : ℕ × ℕ). p.0 == r) ws) (col q (n + (cond b 0 (w.1 + start ws r) + k))) (col r k)) z ∙ ap (λ j. col q (n + j)) (let x : 0 + k ≡ k = omega arith in x)))
  | inr z ↦ (
      let h2 : stays_in ws q r k ≡ true = sym (ap (λ b. cond b (nat_lt 0 k && nat_le k w.1) (stays_in ws q r k)) z) ∙ h in
      gone-into q (n + w.1) ws (λ r k. substituted w.0 (columns_from q (suc n) w.1) (f r k)) r k
      (ap (substituted w.0 (columns_from q (suc n) w.1)) e ∙ ap (λ b. cond b (cell_at k (columns_from q (suc n) w.1)) (col r k)) (eq-false-sym w.0 r z)) o.1 h2
      ∙ sym (ap (λ b. cond (b || list_any (λ (p : ℕ × ℕ). p.0 == r) ws) (col q (n + (cond b 0 (w.1 + start ws r) + k))) (col r k)) z
      ∙ ap (λ j. cond (list_any (λ (p : ℕ × ℕ). p.0 == r) ws) (col q j) (col r k)) (let x : n + (w.1 + start ws r + k) ≡ n + w.1 + (start ws r + k) = omega arith in x)))
]
  where
    cell : (k w : ℕ) → 0 < k → k ≤ w → cell_at k (columns_from q (suc n) w) ≡ col q (n + k)
    cell zero w a b = absurd (omega arith)
    cell (suc k) w a b = column-there q (suc n) w k (omega arith) ∙ ap (col q) (let x : suc n + k ≡ n + suc k = omega arith in x)

-- all of them: their columns are columns of q
pub put-into : (q : ℕ) (ws : List (ℕ × ℕ)) (y : Node) → Other q ws → Bare ws y → (list_any (any_in (strays ws q)) y.parts.head ≡ false) × (list_any (any_in_cond (strays ws q)) y.parts.conds.items ≡ false) → put_all q 0 ws y ≡ renamed_node (into ws q) y
put-into q ws y o b s =
    ap (put_all q 0 ws) (sym as-is) ∙ put-all q 0 ws col y b
    ∙ ap₂ (λ (h : List Term) (c : List Cond). with h c y) (heads-alike (gone q 0 ws col) (into ws q) ws q there y.parts.head s.0) (conds-alike (gone q 0 ws col) (into ws q) ws q there y.parts.conds.items s.1)
  where
    there : (r k : ℕ) → stays_in ws q r k ≡ true → gone q 0 ws col r k ≡ into ws q r k
    there r k h = gone-into q 0 ws col r k refl o h ∙ ap (λ j. cond (list_any (λ (p : ℕ × ℕ). p.0 == r) ws) (col q j) (col r k)) (let x : 0 + (start ws r + k) ≡ start ws r + k = omega arith in x)

    as-is : renamed_node col y ≡ y
    as-is = ap₂ (λ (h : List Term) (c : List Cond). with h c y) (terms-same col (stays_in ws q) (λ r k h. refl) y.parts.head s.0) (conds-same col (stays_in ws q) (λ r k h. refl) y.parts.conds.items s.1)
