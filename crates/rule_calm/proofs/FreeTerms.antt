-- Error-free expressions, by what is known of the quantifiers that they name.
use Rattle.std.proofs.Common.{ℕ, ◌==◌, ◌≡◌, ◌&&◌, cond, Bool, true, false, List, ◌++◌, refl, sym, ap, ap₂, subst, inl, inr}
use Rattle.std.proofs.lemmas.Bool.{and_from, and_parts}
use Rattle.list_laws.specs.Lists.{In}
use Rattle.list_laws.proofs.Membership.{in-left, in-right}
use Rattle.qgm_core.specs.declared.node.Node.{Node}
use Rattle.sql_value.specs.Arithmetic.{fits_i64}
use Rattle.qgm_terms.specs.Gathered.{listed_arms}
use Rattle.qgm_terms.specs.Named as named
use Rattle.qgm_terms.specs.Named.{columns_in, columns_in_cond, nodes_in, nodes_in_cond}
use Rattle.qgm_terms.specs.Substitution.{column_substituted, substituted, substituted_arms, substituted_cond}
use Rattle.qgm_terms.specs.Terms as t
use Rattle.qgm_terms.specs.Terms.{Term, int, text, null_int, null_text, col, scalar, both, minus_of, choose, count_all, fold, Arms, no_arm, arm, Cond, always, compare, is_null, and, or, not, some, every}
use Rattle.qgm_terms.specs.declared.named.Column.{Column}
use Rattle.qgm_terms.specs.declared.named.QuantNode.{QuantNode}
use Rattle.qgm_terms.specs.declared.named.QuantNode.TheVariants as node
use Rattle.qgm_terms.specs.declared.tree.Op.{Op}
use Rattle.qgm_terms.specs.declared.tree.Op.TheVariants.{Add, Sub, Mul, Div, Cat}
use Rattle.qgm_props.specs.Inferred.{Facts, arms_free, clean_under, cond_free, error_free_under, fold_free, is_free, divides, keeps_free, single_under}
use Rattle.rule_calm.specs.Settled.{not_single, single_free, single_free_arms, single_free_cond}

-- columns that are error-free, quantifiers over clean boxes, and over boxes of at most one row
module _ (ef : ℕ → ℕ → Bool) (cl one : ℕ → Bool) where
  abbrev mutual
    pub free_with : Bool → Term → Bool
    free_with s (int n) = fits_i64 n
    free_with s (text x) = true
    free_with s null_int = true
    free_with s null_text = true
    free_with s (col q k) = ef q k
    free_with s (scalar q) = cl q && (one q && ef q 1)
    free_with s (both o x y) = keeps_free o y && (free_with s x && free_with s y)
    free_with s (minus_of x) = false
    free_with s (choose a x) = arms_with s a && free_with s x
    free_with s count_all = true
    free_with s (fold f d x) = fold_free s f && free_with s x

    pub arms_with : Bool → Arms → Bool
    arms_with s no_arm = true
    arms_with s (arm p x a) = cond_with s p && (free_with s x && arms_with s a)

    pub cond_with : Bool → Cond → Bool
    cond_with s always = true
    cond_with s (compare sign x y) = free_with s x && free_with s y
    cond_with s (is_null x) = free_with s x
    cond_with s (and p q) = cond_with s p && cond_with s q
    cond_with s (or p q) = cond_with s p && cond_with s q
    cond_with s (not p) = cond_with s p
    cond_with s (some q p) = cl q && cond_with s p
    cond_with s (every q p) = cl q && cond_with s p

-- so it is said of facts
module _ (boxes : List Node) (known : Facts) where
  abbrev pub ef_of : ℕ → ℕ → Bool
  ef_of = error_free_under boxes known

  abbrev pub cl_of : ℕ → Bool
  cl_of = clean_under boxes known

  abbrev pub one_of : ℕ → Bool
  one_of = single_under boxes known

  mutual
    pub free-is : (s : Bool) (x : Term) → is_free boxes known s x ≡ free_with ef_of cl_of one_of s x
    free-is s (int n) = refl
    free-is s (text x) = refl
    free-is s null_int = refl
    free-is s null_text = refl
    free-is s (col q k) = refl
    free-is s (scalar q) = refl
    free-is s (both o x y) = ap₂ (λ a b. keeps_free o y && (a && b)) (free-is s x) (free-is s y)
    free-is s (minus_of x) = refl
    free-is s (choose a x) = ap₂ (λ a b. a && b) (arms-is s a) (free-is s x)
    free-is s count_all = refl
    free-is s (fold f d x) = ap (λ z. fold_free s f && z) (free-is s x)

    pub arms-is : (s : Bool) (a : Arms) → arms_free boxes known s a ≡ arms_with ef_of cl_of one_of s a
    arms-is s no_arm = refl
    arms-is s (arm p x a) = ap₂ (λ a b. a && b) (cond-is s p) (ap₂ (λ a b. a && b) (free-is s x) (arms-is s a))

    pub cond-is : (s : Bool) (p : Cond) → cond_free boxes known s p ≡ cond_with ef_of cl_of one_of s p
    cond-is s always = refl
    cond-is s (compare sign x y) = ap₂ (λ a b. a && b) (free-is s x) (free-is s y)
    cond-is s (is_null x) = free-is s x
    cond-is s (and p q) = ap₂ (λ a b. a && b) (cond-is s p) (cond-is s q)
    cond-is s (or p q) = ap₂ (λ a b. a && b) (cond-is s p) (cond-is s q)
    cond-is s (not p) = cond-is s p
    cond-is s (some q p) = ap (λ z. cl_of q && z) (cond-is s p)
    cond-is s (every q p) = ap (λ z. cl_of q && z) (cond-is s p)

pair : (a b c d : Bool) → (a ≡ true → c ≡ true) → (b ≡ true → d ≡ true) → (a && b) ≡ true → (c && d) ≡ true
pair a b c d f g h = let p = and_parts a b h in and_from c d (f p.0) (g p.1)

pub fold-any : (s two : Bool) (f : t.Aggregate) → not_single f ≡ true → fold_free s f ≡ true → fold_free two f ≡ true
fold-any s two t.single n h = absurd (let z : ⊥ = cc in z)
fold-any s two t.count n h = refl
fold-any s two t.sum n h = h
fold-any s two t.avg n h = refl
fold-any s two t.least n h = refl
fold-any s two t.greatest n h = refl

-- ---- the same expressions where as much is known of what they name

module _ (ef ef' : ℕ → ℕ → Bool) (cl cl' one one' : ℕ → Bool) where
  -- as much is known of a column, and of the quantifier of a node
  abbrev pub SameColumns : List Column → Type 0
  SameColumns cs = (c : Column) → In c cs → ef c.quant c.place ≡ true → ef' c.quant c.place ≡ true

  abbrev pub SameNode : QuantNode → Type 0
  SameNode (node.Scalar r) = (cl r ≡ true → cl' r ≡ true) × ((one' r ≡ true) × (ef r 1 ≡ true → ef' r 1 ≡ true))
  SameNode (node.Some r) = cl r ≡ true → cl' r ≡ true
  SameNode (node.Every r) = cl r ≡ true → cl' r ≡ true

  abbrev pub SameNodes : List QuantNode → Type 0
  SameNodes zs = (z : QuantNode) → In z zs → SameNode z

  module _ (s two : Bool) where
    mutual
      pub same-free : (x : Term) → SameColumns (columns_in x) → SameNodes (nodes_in x) → single_free x ≡ true → free_with ef cl one s x ≡ true → free_with ef' cl' one' two x ≡ true
      same-free (int n) hc hn v h = h
      same-free (text x) hc hn v h = refl
      same-free null_int hc hn v h = refl
      same-free null_text hc hn v h = refl
      same-free (col r k) hc hn v h = hc (record { quant = r; place = k }) (inl refl) h
      same-free (scalar r) hc hn v h = let n = hn (node.Scalar r) (inl refl) in let p = and_parts (cl r) (one r && ef r 1) h in and_from (cl' r) (one' r && ef' r 1) (n.0 p.0) (and_from (one' r) (ef' r 1) n.1.0 (n.1.1 (and_parts (one r) (ef r 1) p.1).1))
      same-free (both o x y) hc hn v h =
          let u = and_parts (single_free x) (single_free y) v in
          pair (keeps_free o y) (free_with ef cl one s x && free_with ef cl one s y) (keeps_free o y) (free_with ef' cl' one' two x && free_with ef' cl' one' two y) (λ k. k)
          (pair (free_with ef cl one s x) (free_with ef cl one s y) (free_with ef' cl' one' two x) (free_with ef' cl' one' two y) (same-free x (λ c i. hc c (in-left c (columns_in x) (columns_in y) i)) (λ c i. hn c (in-left c (nodes_in x) (nodes_in y) i)) u.0) (same-free y (λ c i. hc c (in-right c (columns_in x) (columns_in y) i)) (λ c i. hn c (in-right c (nodes_in x) (nodes_in y) i)) u.1)) h
      same-free (minus_of x) hc hn v h = h
      same-free (choose a x) hc hn v h =
          let u = and_parts (single_free_arms a) (single_free x) v in
          pair (arms_with ef cl one s a) (free_with ef cl one s x) (arms_with ef' cl' one' two a) (free_with ef' cl' one' two x) (same-arms a (λ c i. hc c (in-left c (listed_arms named.columns a) (columns_in x) i)) (λ c i. hn c (in-left c (listed_arms named.nodes a) (nodes_in x) i)) u.0) (same-free x (λ c i. hc c (in-right c (listed_arms named.columns a) (columns_in x) i)) (λ c i. hn c (in-right c (listed_arms named.nodes a) (nodes_in x) i)) u.1) h
      same-free count_all hc hn v h = refl
      same-free (fold f d x) hc hn v h = let u = and_parts (not_single f) (single_free x) v in pair (fold_free s f) (free_with ef cl one s x) (fold_free two f) (free_with ef' cl' one' two x) (fold-any s two f u.0) (same-free x hc hn u.1) h

      same-arms : (a : Arms) → SameColumns (listed_arms named.columns a) → SameNodes (listed_arms named.nodes a) → single_free_arms a ≡ true → arms_with ef cl one s a ≡ true → arms_with ef' cl' one' two a ≡ true
      same-arms no_arm hc hn v h = refl
      same-arms (arm p x a) hc hn v h =
          let u = and_parts (single_free_cond p) (single_free x && single_free_arms a) v in
          let z = and_parts (single_free x) (single_free_arms a) u.1 in
          pair (cond_with ef cl one s p) (free_with ef cl one s x && arms_with ef cl one s a) (cond_with ef' cl' one' two p) (free_with ef' cl' one' two x && arms_with ef' cl' one' two a)
          (same-cond p (λ c i. hc c (in-left c (columns_in_cond p) (columns_in x ++ listed_arms named.columns a) i)) (λ c i. hn c (in-left c (nodes_in_cond p) (nodes_in x ++ listed_arms named.nodes a) i)) u.0)
          (pair (free_with ef cl one s x) (arms_with ef cl one s a) (free_with ef' cl' one' two x) (arms_with ef' cl' one' two a)
          (same-free x (λ c i. hc c (in-right c (columns_in_cond p) (columns_in x ++ listed_arms named.columns a) (in-left c (columns_in x) (listed_arms named.columns a) i))) (λ c i. hn c (in-right c (nodes_in_cond p) (nodes_in x ++ listed_arms named.nodes a) (in-left c (nodes_in x) (listed_arms named.nodes a) i))) z.0)
          (same-arms a (λ c i. hc c (in-right c (columns_in_cond p) (columns_in x ++ listed_arms named.columns a) (in-right c (columns_in x) (listed_arms named.columns a) i))) (λ c i. hn c (in-right c (nodes_in_cond p) (nodes_in x ++ listed_arms named.nodes a) (in-right c (nodes_in x) (listed_arms named.nodes a) i))) z.1)) h

      pub same-cond : (p : Cond) → SameColumns (columns_in_cond p) → SameNodes (nodes_in_cond p) → single_free_cond p ≡ true → cond_with ef cl one s p ≡ true → cond_with ef' cl' one' two p ≡ true
      same-cond always hc hn v h = refl
      same-cond (compare sign x y) hc hn v h =
          let u = and_parts (single_free x) (single_free y) v in
          pair (free_with ef cl one s x) (free_with ef cl one s y) (free_with ef' cl' one' two x) (free_with ef' cl' one' two y) (same-free x (λ c i. hc c (in-left c (columns_in x) (columns_in y) i)) (λ c i. hn c (in-left c (nodes_in x) (nodes_in y) i)) u.0) (same-free y (λ c i. hc c (in-right c (columns_in x) (columns_in y) i)) (λ c i. hn c (in-right c (nodes_in x) (nodes_in y) i)) u.1) h
      same-cond (is_null x) hc hn v h = same-free x hc hn v h
      same-cond (and p r) hc hn v h =
          let u = and_parts (single_free_cond p) (single_free_cond r) v in
          pair (cond_with ef cl one s p) (cond_with ef cl one s r) (cond_with ef' cl' one' two p) (cond_with ef' cl' one' two r) (same-cond p (λ c i. hc c (in-left c (columns_in_cond p) (columns_in_cond r) i)) (λ c i. hn c (in-left c (nodes_in_cond p) (nodes_in_cond r) i)) u.0) (same-cond r (λ c i. hc c (in-right c (columns_in_cond p) (columns_in_cond r) i)) (λ c i. hn c (in-right c (nodes_in_cond p) (nodes_in_cond r) i)) u.1) h
      same-cond (or p r) hc hn v h =
          let u = and_parts (single_free_cond p) (single_free_cond r) v in
          pair (cond_with ef cl one s p) (cond_with ef cl one s r) (cond_with ef' cl' one' two p) (cond_with ef' cl' one' two r) (same-cond p (λ c i. hc c (in-left c (columns_in_cond p) (columns_in_cond r) i)) (λ c i. hn c (in-left c (nodes_in_cond p) (nodes_in_cond r) i)) u.0) (same-cond r (λ c i. hc c (in-right c (columns_in_cond p) (columns_in_cond r) i)) (λ c i. hn c (in-right c (nodes_in_cond p) (nodes_in_cond r) i)) u.1) h
      same-cond (not p) hc hn v h = same-cond p hc hn v h
      same-cond (some r p) hc hn v h = pair (cl r) (cond_with ef cl one s p) (cl' r) (cond_with ef' cl' one' two p) (hn (node.Some r) (inl refl)) (same-cond p hc (λ c i. hn c (inr i)) v) h
      same-cond (every r p) hc hn v h = pair (cl r) (cond_with ef cl one s p) (cl' r) (cond_with ef' cl' one' two p) (hn (node.Every r) (inl refl)) (same-cond p hc (λ c i. hn c (inr i)) v) h

-- ---- and where cells stand for the columns of a quantifier

divides-put : (q : ℕ) (cells : List Term) (y : Term) → divides y ≡ true → divides (substituted q cells y) ≡ true
divides-put q cells (int n) h = h
divides-put q cells (text s) h = h
divides-put q cells null_int h = h
divides-put q cells null_text h = h
divides-put q cells (col r k) h = absurd (let z : ⊥ = cc in z)
divides-put q cells (scalar r) h = h
divides-put q cells (both o x y) h = h
divides-put q cells (minus_of x) h = h
divides-put q cells (choose s x) h = h
divides-put q cells count_all h = h
divides-put q cells (fold f d x) h = h

keeps-put : (q : ℕ) (cells : List Term) (o : Op) (y : Term) → keeps_free o y ≡ true → keeps_free o (substituted q cells y) ≡ true
keeps-put q cells Add y h = h
keeps-put q cells Sub y h = h
keeps-put q cells Mul y h = h
keeps-put q cells Div y h = divides-put q cells y h
keeps-put q cells Cat y h = refl

module _ (ef ef' : ℕ → ℕ → Bool) (cl cl' one one' : ℕ → Bool) (q : ℕ) (cells : List Term) where
  -- a column, or the cell in its place, is error-free, and as much is known of the quantifier of a node, which is another
  abbrev pub PutColumns : Bool → List Column → Type 0
  PutColumns two cs = (c : Column) → In c cs → ef c.quant c.place ≡ true → free_with ef' cl' one' two (column_substituted q cells c.quant c.place) ≡ true

  abbrev pub PutNode : QuantNode → Type 0
  PutNode (node.Scalar r) = (cl r ≡ true → cl' r ≡ true) × ((one' r ≡ true) × (ef r 1 ≡ true → ef' r 1 ≡ true))
  PutNode (node.Some r) = ((r == q) ≡ false) × (cl r ≡ true → cl' r ≡ true)
  PutNode (node.Every r) = ((r == q) ≡ false) × (cl r ≡ true → cl' r ≡ true)

  abbrev pub PutNodes : List QuantNode → Type 0
  PutNodes zs = (z : QuantNode) → In z zs → PutNode z

  module _ (s two : Bool) where
    mutual
      pub put-free : (x : Term) → PutColumns two (columns_in x) → PutNodes (nodes_in x) → single_free x ≡ true → free_with ef cl one s x ≡ true → free_with ef' cl' one' two (substituted q cells x) ≡ true
      put-free (int n) hc hn v h = h
      put-free (text x) hc hn v h = refl
      put-free null_int hc hn v h = refl
      put-free null_text hc hn v h = refl
      put-free (col r k) hc hn v h = hc (record { quant = r; place = k }) (inl refl) h
      put-free (scalar r) hc hn v h = let n = hn (node.Scalar r) (inl refl) in let p = and_parts (cl r) (one r && ef r 1) h in and_from (cl' r) (one' r && ef' r 1) (n.0 p.0) (and_from (one' r) (ef' r 1) n.1.0 (n.1.1 (and_parts (one r) (ef r 1) p.1).1))
      put-free (both o x y) hc hn v h =
          let u = and_parts (single_free x) (single_free y) v in
          pair (keeps_free o y) (free_with ef cl one s x && free_with ef cl one s y) (keeps_free o (substituted q cells y)) (free_with ef' cl' one' two (substituted q cells x) && free_with ef' cl' one' two (substituted q cells y)) (keeps-put q cells o y)
          (pair (free_with ef cl one s x) (free_with ef cl one s y) (free_with ef' cl' one' two (substituted q cells x)) (free_with ef' cl' one' two (substituted q cells y)) (put-free x (λ c i. hc c (in-left c (columns_in x) (columns_in y) i)) (λ c i. hn c (in-left c (nodes_in x) (nodes_in y) i)) u.0) (put-free y (λ c i. hc c (in-right c (columns_in x) (columns_in y) i)) (λ c i. hn c (in-right c (nodes_in x) (nodes_in y) i)) u.1)) h
      put-free (minus_of x) hc hn v h = h
      put-free (choose a x) hc hn v h =
          let u = and_parts (single_free_arms a) (single_free x) v in
          pair (arms_with ef cl one s a) (free_with ef cl one s x) (arms_with ef' cl' one' two (substituted_arms q cells a)) (free_with ef' cl' one' two (substituted q cells x)) (put-arms a (λ c i. hc c (in-left c (listed_arms named.columns a) (columns_in x) i)) (λ c i. hn c (in-left c (listed_arms named.nodes a) (nodes_in x) i)) u.0) (put-free x (λ c i. hc c (in-right c (listed_arms named.columns a) (columns_in x) i)) (λ c i. hn c (in-right c (listed_arms named.nodes a) (nodes_in x) i)) u.1) h
      put-free count_all hc hn v h = refl
      put-free (fold f d x) hc hn v h = let u = and_parts (not_single f) (single_free x) v in pair (fold_free s f) (free_with ef cl one s x) (fold_free two f) (free_with ef' cl' one' two (substituted q cells x)) (fold-any s two f u.0) (put-free x hc hn u.1) h

      put-arms : (a : Arms) → PutColumns two (listed_arms named.columns a) → PutNodes (listed_arms named.nodes a) → single_free_arms a ≡ true → arms_with ef cl one s a ≡ true → arms_with ef' cl' one' two (substituted_arms q cells a) ≡ true
      put-arms no_arm hc hn v h = refl
      put-arms (arm p x a) hc hn v h =
          let u = and_parts (single_free_cond p) (single_free x && single_free_arms a) v in
          let z = and_parts (single_free x) (single_free_arms a) u.1 in
          pair (cond_with ef cl one s p) (free_with ef cl one s x && arms_with ef cl one s a) (cond_with ef' cl' one' two (substituted_cond q cells p)) (free_with ef' cl' one' two (substituted q cells x) && arms_with ef' cl' one' two (substituted_arms q cells a))
          (put-cond p (λ c i. hc c (in-left c (columns_in_cond p) (columns_in x ++ listed_arms named.columns a) i)) (λ c i. hn c (in-left c (nodes_in_cond p) (nodes_in x ++ listed_arms named.nodes a) i)) u.0)
          (pair (free_with ef cl one s x) (arms_with ef cl one s a) (free_with ef' cl' one' two (substituted q cells x)) (arms_with ef' cl' one' two (substituted_arms q cells a))
          (put-free x (λ c i. hc c (in-right c (columns_in_cond p) (columns_in x ++ listed_arms named.columns a) (in-left c (columns_in x) (listed_arms named.columns a) i))) (λ c i. hn c (in-right c (nodes_in_cond p) (nodes_in x ++ listed_arms named.nodes a) (in-left c (nodes_in x) (listed_arms named.nodes a) i))) z.0)
          (put-arms a (λ c i. hc c (in-right c (columns_in_cond p) (columns_in x ++ listed_arms named.columns a) (in-right c (columns_in x) (listed_arms named.columns a) i))) (λ c i. hn c (in-right c (nodes_in_cond p) (nodes_in x ++ listed_arms named.nodes a) (in-right c (nodes_in x) (listed_arms named.nodes a) i))) z.1)) h

      pub put-cond : (p : Cond) → PutColumns two (columns_in_cond p) → PutNodes (nodes_in_cond p) → single_free_cond p ≡ true → cond_with ef cl one s p ≡ true → cond_with ef' cl' one' two (substituted_cond q cells p) ≡ true
      put-cond always hc hn v h = refl
      put-cond (compare sign x y) hc hn v h =
          let u = and_parts (single_free x) (single_free y) v in
          pair (free_with ef cl one s x) (free_with ef cl one s y) (free_with ef' cl' one' two (substituted q cells x)) (free_with ef' cl' one' two (substituted q cells y)) (put-free x (λ c i. hc c (in-left c (columns_in x) (columns_in y) i)) (λ c i. hn c (in-left c (nodes_in x) (nodes_in y) i)) u.0) (put-free y (λ c i. hc c (in-right c (columns_in x) (columns_in y) i)) (λ c i. hn c (in-right c (nodes_in x) (nodes_in y) i)) u.1) h
      put-cond (is_null x) hc hn v h = put-free x hc hn v h
      put-cond (and p r) hc hn v h =
          let u = and_parts (single_free_cond p) (single_free_cond r) v in
          pair (cond_with ef cl one s p) (cond_with ef cl one s r) (cond_with ef' cl' one' two (substituted_cond q cells p)) (cond_with ef' cl' one' two (substituted_cond q cells r)) (put-cond p (λ c i. hc c (in-left c (columns_in_cond p) (columns_in_cond r) i)) (λ c i. hn c (in-left c (nodes_in_cond p) (nodes_in_cond r) i)) u.0) (put-cond r (λ c i. hc c (in-right c (columns_in_cond p) (columns_in_cond r) i)) (λ c i. hn c (in-right c (nodes_in_cond p) (nodes_in_cond r) i)) u.1) h
      put-cond (or p r) hc hn v h =
          let u = and_parts (single_free_cond p) (single_free_cond r) v in
          pair (cond_with ef cl one s p) (cond_with ef cl one s r) (cond_with ef' cl' one' two (substituted_cond q cells p)) (cond_with ef' cl' one' two (substituted_cond q cells r)) (put-cond p (λ c i. hc c (in-left c (columns_in_cond p) (columns_in_cond r) i)) (λ c i. hn c (in-left c (nodes_in_cond p) (nodes_in_cond r) i)) u.0) (put-cond r (λ c i. hc c (in-right c (columns_in_cond p) (columns_in_cond r) i)) (λ c i. hn c (in-right c (nodes_in_cond p) (nodes_in_cond r) i)) u.1) h
      put-cond (not p) hc hn v h = put-cond p hc hn v h
      put-cond (some r p) hc hn v h =
          let n = hn (node.Some r) (inl refl) in
          subst (λ (z : Bool). (cl' r && cond_with ef' cl' one' two (cond z p (substituted_cond q cells p))) ≡ true) (sym n.0)
          (pair (cl r) (cond_with ef cl one s p) (cl' r) (cond_with ef' cl' one' two (substituted_cond q cells p)) n.1 (put-cond p hc (λ c i. hn c (inr i)) v) h)
      put-cond (every r p) hc hn v h =
          let n = hn (node.Every r) (inl refl) in
          subst (λ (z : Bool). (cl' r && cond_with ef' cl' one' two (cond z p (substituted_cond q cells p))) ≡ true) (sym n.0)
          (pair (cl r) (cond_with ef cl one s p) (cl' r) (cond_with ef' cl' one' two (substituted_cond q cells p)) n.1 (put-cond p hc (λ c i. hn c (inr i)) v) h)
