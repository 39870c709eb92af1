-- What substitution adds to the nodes of expressions and conditions.
use Rattle.std.proofs.Common.{◌≡◌, ℕ, ◌+◌, ◌-◌, ◌≤◌, ◌==◌, ◌++◌, refl, List, [], ◌∷◌, Bool, true, false, if◌then◌else◌, arith}
use Rattle.qgm_term_size.specs.Size.{arms_size, cell_size, cond_size, put_size}
use Rattle.qgm_terms.specs.Gathered.{listed_arms}
use Rattle.qgm_terms.specs.Named.{columns, columns_in, columns_in_cond}
use Rattle.qgm_terms.specs.Substitution.{cell_at, substituted, substituted_arms, substituted_cond}
use Rattle.qgm_terms.specs.Terms.{Term, int, text, null_int, null_text, col, scalar, both, minus_of, choose, count_all, fold}
use Rattle.qgm_terms.specs.Terms.{Arms, no_arm, arm, Cond, always, compare, is_null, and, or, not, some, every}
use Rattle.qgm_terms.specs.declared.named.Column.{Column}

pub put-append : (q : ℕ) (cells : List Term) (cs ds : List Column) → put_size q cells (cs ++ ds) ≡ put_size q cells cs + put_size q cells ds
put-append q cells [] ds = omega arith
put-append q cells (c ∷ cs) ds = let h : put_size q cells (cs ++ ds) ≡ put_size q cells cs + put_size q cells ds = put-append q cells cs ds in omega (arith, h)

-- of two parts
put-both : (q : ℕ) (cells : List Term) (cs ds : List Column) (a b m n : ℕ) → m ≤ a + put_size q cells cs → n ≤ b + put_size q cells ds → m + n ≤ a + b + put_size q cells (cs ++ ds)
put-both q cells cs ds a b m n h k = let e : put_size q cells (cs ++ ds) ≡ put_size q cells cs + put_size q cells ds = put-append q cells cs ds in omega (arith, h, k, e)

at-column : (b : Bool) (x : Term) (r k : ℕ) → cell_size (if b then x else col r k) ≤ 1 + ((if b then cell_size x - 1 else 0) + 0)
at-column true x r k = omega arith
at-column false x r k = omega arith

within : (b : Bool) (m p : ℕ) (x y : Cond) → cond_size x ≡ m → cond_size y ≤ m + p → cond_size (if b then x else y) ≤ m + p
within true m p x y e h = omega (arith, e)
within false m p x y e h = h

module _ (q : ℕ) (cells : List Term) where
  mutual
    pub put-cell : (x : Term) → cell_size (substituted q cells x) ≤ cell_size x + put_size q cells (columns_in x)
    put-cell (int n) = omega arith
    put-cell (text t) = omega arith
    put-cell null_int = omega arith
    put-cell null_text = omega arith
    put-cell (col r k) = at-column (r == q) (cell_at k cells) r k
    put-cell (scalar r) = omega arith
    put-cell (both op a b) = let h = put-both q cells (columns_in a) (columns_in b) (cell_size a) (cell_size b) (cell_size (substituted q cells a)) (cell_size (substituted q cells b)) (put-cell a) (put-cell b) in omega (arith, h)
    put-cell (minus_of a) = let h = put-cell a in omega (arith, h)
    put-cell (choose s a) = let h = put-both q cells (listed_arms columns s) (columns_in a) (arms_size s) (cell_size a) (arms_size (substituted_arms q cells s)) (cell_size (substituted q cells a)) (put-arms s) (put-cell a) in omega (arith, h)
    put-cell count_all = omega arith
    put-cell (fold f t a) = let h = put-cell a in omega (arith, h)

    put-arms : (s : Arms) → arms_size (substituted_arms q cells s) ≤ arms_size s + put_size q cells (listed_arms columns s)
    put-arms no_arm = omega arith
    put-arms (arm c a s) =
        let k = put-both q cells (columns_in a) (listed_arms columns s) (cell_size a) (arms_size s) (cell_size (substituted q cells a)) (arms_size (substituted_arms q cells s)) (put-cell a) (put-arms s) in
        let h = put-both q cells (columns_in_cond c) (columns_in a ++ listed_arms columns s) (cond_size c) (cell_size a + arms_size s) (cond_size (substituted_cond q cells c)) (cell_size (substituted q cells a) + arms_size (substituted_arms q cells s)) (put-cond c) k in
        omega (arith, h)

    pub put-cond : (c : Cond) → cond_size (substituted_cond q cells c) ≤ cond_size c + put_size q cells (columns_in_cond c)
    put-cond always = omega arith
    put-cond (compare sign a b) = let h = put-both q cells (columns_in a) (columns_in b) (cell_size a) (cell_size b) (cell_size (substituted q cells a)) (cell_size (substituted q cells b)) (put-cell a) (put-cell b) in omega (arith, h)
    put-cond (is_null a) = let h = put-cell a in omega (arith, h)
    put-cond (and a b) = let h = put-both q cells (columns_in_cond a) (columns_in_cond b) (cond_size a) (cond_size b) (cond_size (substituted_cond q cells a)) (cond_size (substituted_cond q cells b)) (put-cond a) (put-cond b) in omega (arith, h)
    put-cond (or a b) = let h = put-both q cells (columns_in_cond a) (columns_in_cond b) (cond_size a) (cond_size b) (cond_size (substituted_cond q cells a)) (cond_size (substituted_cond q cells b)) (put-cond a) (put-cond b) in omega (arith, h)
    put-cond (not a) = let h = put-cond a in omega (arith, h)
    put-cond (some r a) = let h = within (r == q) (cond_size a) (put_size q cells (columns_in_cond a)) a (substituted_cond q cells a) refl (put-cond a) in omega (arith, h)
    put-cond (every r a) = let h = within (r == q) (cond_size a) (put_size q cells (columns_in_cond a)) a (substituted_cond q cells a) refl (put-cond a) in omega (arith, h)
