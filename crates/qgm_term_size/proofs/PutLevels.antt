-- What substitution adds to the levels of expressions and conditions.
use Rattle.std.proofs.Common.{◌≡◌, ℕ, zero, suc, ◌+◌, ◌≤◌, ◌==◌, ◌++◌, refl, max, List, [], ◌∷◌, Bool, true, false, if◌then◌else◌, arith}
use Rattle.qgm_term_size.specs.Levels.{arms_levels, cell_levels, cond_levels, deepest, is_and, is_chain, is_or, put_levels, under}
use Rattle.qgm_terms.specs.Gathered.{listed_arms}
use Rattle.qgm_terms.specs.Named.{columns, columns_in, columns_in_cond}
use Rattle.qgm_terms.specs.Substitution.{cell_at, substituted, substituted_arms, substituted_cond, substituted_within}
use Rattle.qgm_terms.specs.Terms.{Term, int, text, null_int, null_text, col, scalar, both, minus_of, choose, count_all, fold}
use Rattle.qgm_terms.specs.Terms.{Arms, no_arm, arm, Cond, always, compare, is_null, and, or, not, some, every}
use Rattle.qgm_terms.specs.declared.named.Column.{Column}

put-append : (q : ℕ) (cells : List Term) (cs ds : List Column) → put_levels q cells (cs ++ ds) ≡ max (put_levels q cells cs) (put_levels q cells ds)
put-append q cells [] ds = omega arith
put-append q cells (c ∷ cs) ds = let h : put_levels q cells (cs ++ ds) ≡ max (put_levels q cells cs) (put_levels q cells ds) = put-append q cells cs ds in omega (arith, h)

-- of two parts: one level of a column goes where a cell comes
put-both : (q : ℕ) (cells : List Term) (cs ds : List Column) (a b m n : ℕ)
    → m + 1 ≤ a + max 1 (put_levels q cells cs) → n + 1 ≤ b + max 1 (put_levels q cells ds) → max m n + 1 ≤ max a b + max 1 (put_levels q cells (cs ++ ds))
put-both q cells cs ds a b m n h k = let e : put_levels q cells (cs ++ ds) ≡ max (put_levels q cells cs) (put_levels q cells ds) = put-append q cells cs ds in omega (arith, h, k, e)

at-column : (b : Bool) (x : Term) (r k : ℕ) → cell_levels (if b then x else col r k) + 1 ≤ 1 + max 1 (max (if b then cell_levels x else 0) 0)
at-column true x r k = omega arith
at-column false x r k = omega arith

-- the first operand: what was of the same list still is
put-under : (s t : Bool) (m a p : ℕ) → (s ≡ true → t ≡ true) → m + 1 ≤ a + p → under t m + 1 ≤ under s a + p
put-under true true m a p e h = h
put-under true false m a p e h = absurd (let k : false ≡ true = e refl in let z : ⊥ = cc in z)
put-under false true m a p e h = omega (arith, h)
put-under false false m a p e h = omega (arith, h)

no : (t : Bool) → false ≡ true → t ≡ true
no t e = absurd (let z : ⊥ = cc in z)

above : (m a p : ℕ) → m + 1 ≤ a + p → 1 + m + 1 ≤ 1 + a + p
above m a p h = omega (arith, h)

within : (b : Bool) (p : ℕ) (x y : Cond) → cond_levels y + 1 ≤ cond_levels x + max 1 p → cond_levels (if b then x else y) + 1 ≤ cond_levels x + max 1 p
within true p x y h = omega arith
within false p x y h = h

module _ (q : ℕ) (cells : List Term) where
  chain-kept : (x : Term) → is_chain x ≡ true → is_chain (substituted q cells x) ≡ true
  chain-kept (int n) e = no _ e
  chain-kept (text t) e = no _ e
  chain-kept null_int e = no _ e
  chain-kept null_text e = no _ e
  chain-kept (col r k) e = no _ e
  chain-kept (scalar r) e = no _ e
  chain-kept (both op a b) e = refl
  chain-kept (minus_of a) e = no _ e
  chain-kept (choose s a) e = no _ e
  chain-kept count_all e = no _ e
  chain-kept (fold f t a) e = no _ e

  and-kept : (c : Cond) → is_and c ≡ true → is_and (substituted_cond q cells c) ≡ true
  and-kept always e = no _ e
  and-kept (compare sign a b) e = no _ e
  and-kept (is_null a) e = no _ e
  and-kept (and a b) e = refl
  and-kept (or a b) e = no _ e
  and-kept (not a) e = no _ e
  and-kept (some r a) e = no _ e
  and-kept (every r a) e = no _ e

  or-kept : (c : Cond) → is_or c ≡ true → is_or (substituted_cond q cells c) ≡ true
  or-kept always e = no _ e
  or-kept (compare sign a b) e = no _ e
  or-kept (is_null a) e = no _ e
  or-kept (and a b) e = no _ e
  or-kept (or a b) e = refl
  or-kept (not a) e = no _ e
  or-kept (some r a) e = no _ e
  or-kept (every r a) e = no _ e

  mutual
    put-cell : (x : Term) → cell_levels (substituted q cells x) + 1 ≤ cell_levels x + max 1 (put_levels q cells (columns_in x))
    put-cell (int n) = omega arith
    put-cell (text t) = omega arith
    put-cell null_int = omega arith
    put-cell null_text = omega arith
    put-cell (col r k) = at-column (r == q) (cell_at k cells) r k
    put-cell (scalar r) = omega arith
    put-cell (both op a b) =
        put-both q cells (columns_in a) (columns_in b) (under (is_chain a) (cell_levels a)) (1 + cell_levels b)
        (under (is_chain (substituted q cells a)) (cell_levels (substituted q cells a))) (1 + cell_levels (substituted q cells b))
        (put-under (is_chain a) (is_chain (substituted q cells a)) (cell_levels (substituted q cells a)) (cell_levels a) (max 1 (put_levels q cells (columns_in a))) (chain-kept a) (put-cell a))
        (above (cell_levels (substituted q cells b)) (cell_levels b) (max 1 (put_levels q cells (columns_in b))) (put-cell b))
    put-cell (minus_of a) = above (cell_levels (substituted q cells a)) (cell_levels a) (max 1 (put_levels q cells (columns_in a))) (put-cell a)
    put-cell (choose s a) =
        above (max (arms_levels (substituted_arms q cells s)) (cell_levels (substituted q cells a))) (max (arms_levels s) (cell_levels a)) (max 1 (put_levels q cells (listed_arms columns s ++ columns_in a)))
        (put-both q cells (listed_arms columns s) (columns_in a) (arms_levels s) (cell_levels a) (arms_levels (substituted_arms q cells s)) (cell_levels (substituted q cells a)) (put-arms s) (put-cell a))
    put-cell count_all = omega arith
    put-cell (fold f t a) = above (cell_levels (substituted q cells a)) (cell_levels a) (max 1 (put_levels q cells (columns_in a))) (put-cell a)

    put-arms : (s : Arms) → arms_levels (substituted_arms q cells s) + 1 ≤ arms_levels s + max 1 (put_levels q cells (listed_arms columns s))
    put-arms no_arm = omega arith
    put-arms (arm c a s) =
        let k = put-both q cells (columns_in a) (listed_arms columns s) (cell_levels a) (arms_levels s) (cell_levels (substituted q cells a)) (arms_levels (substituted_arms q cells s)) (put-cell a) (put-arms s) in
        let h = put-both q cells (columns_in_cond c) (columns_in a ++ listed_arms columns s) (cond_levels c) (max (cell_levels a) (arms_levels s)) (cond_levels (substituted_cond q cells c)) (max (cell_levels (substituted q cells a)) (arms_levels (substituted_arms q cells s))) (put-cond c) k in
        omega (arith, h)

    put-cond : (c : Cond) → cond_levels (substituted_cond q cells c) + 1 ≤ cond_levels c + max 1 (put_levels q cells (columns_in_cond c))
    put-cond always = omega arith
    put-cond (compare sign a b) =
        above (max (cell_levels (substituted q cells a)) (cell_levels (substituted q cells b))) (max (cell_levels a) (cell_levels b)) (max 1 (put_levels q cells (columns_in a ++ columns_in b)))
        (put-both q cells (columns_in a) (columns_in b) (cell_levels a) (cell_levels b) (cell_levels (substituted q cells a)) (cell_levels (substituted q cells b)) (put-cell a) (put-cell b))
    put-cond (is_null a) = above (cell_levels (substituted q cells a)) (cell_levels a) (max 1 (put_levels q cells (columns_in a))) (put-cell a)
    put-cond (and a b) =
        put-both q cells (columns_in_cond a) (columns_in_cond b) (under (is_and a) (cond_levels a)) (1 + cond_levels b)
        (under (is_and (substituted_cond q cells a)) (cond_levels (substituted_cond q cells a))) (1 + cond_levels (substituted_cond q cells b))
        (put-under (is_and a) (is_and (substituted_cond q cells a)) (cond_levels (substituted_cond q cells a)) (cond_levels a) (max 1 (put_levels q cells (columns_in_cond a))) (and-kept a) (put-cond a))
        (above (cond_levels (substituted_cond q cells b)) (cond_levels b) (max 1 (put_levels q cells (columns_in_cond b))) (put-cond b))
    put-cond (or a b) =
        put-both q cells (columns_in_cond a) (columns_in_cond b) (under (is_or a) (cond_levels a)) (1 + cond_levels b)
        (under (is_or (substituted_cond q cells a)) (cond_levels (substituted_cond q cells a))) (1 + cond_levels (substituted_cond q cells b))
        (put-under (is_or a) (is_or (substituted_cond q cells a)) (cond_levels (substituted_cond q cells a)) (cond_levels a) (max 1 (put_levels q cells (columns_in_cond a))) (or-kept a) (put-cond a))
        (above (cond_levels (substituted_cond q cells b)) (cond_levels b) (max 1 (put_levels q cells (columns_in_cond b))) (put-cond b))
    put-cond (not a) = above (cond_levels (substituted_cond q cells a)) (cond_levels a) (max 1 (put_levels q cells (columns_in_cond a))) (put-cond a)
    put-cond (some r a) =
        above (cond_levels (substituted_within q cells r a)) (cond_levels a) (max 1 (put_levels q cells (columns_in_cond a)))
        (within (r == q) (put_levels q cells (columns_in_cond a)) a (substituted_cond q cells a) (put-cond a))
    put-cond (every r a) =
        above (cond_levels (substituted_within q cells r a)) (cond_levels a) (max 1 (put_levels q cells (columns_in_cond a)))
        (within (r == q) (put_levels q cells (columns_in_cond a)) a (substituted_cond q cells a) (put-cond a))

  -- the deepest cell that is put is one of the cells, or null
  cell-deep : (xs : List Term) (k : ℕ) → cell_levels (cell_at k xs) ≤ max 1 (deepest xs)
  cell-deep xs zero = omega arith
  cell-deep [] (suc k) = omega arith
  cell-deep (x ∷ xs) (suc zero) = omega arith
  cell-deep (x ∷ xs) (suc (suc k)) = let h : cell_levels (cell_at (suc k) xs) ≤ max 1 (deepest xs) = cell-deep xs (suc k) in omega (arith, h)

  one-deep : (b : Bool) (k : ℕ) → (if b then cell_levels (cell_at k cells) else 0) ≤ max 1 (deepest cells)
  one-deep true k = cell-deep cells k
  one-deep false k = omega arith

  pub put-deep : (cs : List Column) → put_levels q cells cs ≤ max 1 (deepest cells)
  put-deep [] = omega arith
  put-deep (c ∷ cs) = let h = one-deep (c.quant == q) c.place in let k = put-deep cs in omega (arith, h, k)

  pub cell-levels : (x : Term) → cell_levels (substituted q cells x) ≤ cell_levels x + put_levels q cells (columns_in x)
  cell-levels x = let h = put-cell x in omega (arith, h)

  pub cond-levels : (c : Cond) → cond_levels (substituted_cond q cells c) ≤ cond_levels c + put_levels q cells (columns_in_cond c)
  cond-levels c = let h = put-cond c in omega (arith, h)

  pub cell-deepest : (x : Term) → cell_levels (substituted q cells x) ≤ cell_levels x + deepest cells
  cell-deepest x = let h = put-cell x in let k = put-deep (columns_in x) in omega (arith, h, k)

  pub cond-deepest : (c : Cond) → cond_levels (substituted_cond q cells c) ≤ cond_levels c + deepest cells
  cond-deepest c = let h = put-cond c in let k = put-deep (columns_in_cond c) in omega (arith, h, k)
