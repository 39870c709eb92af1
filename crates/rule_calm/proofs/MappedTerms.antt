-- Terms in which columns become terms, and what stands within a some or every becomes another condition.
use Rattle.std.proofs.Common.{ℕ, ◌==◌, ◌≡◌, ◌&&◌, cond, Bool, true, false, List, ◌++◌, refl, ap, ap₂, ◌∙◌, inl, inr}
use Rattle.std.proofs.lemmas.Bool.{and_from, and_parts}
use Rattle.list_laws.specs.Lists.{In}
use Rattle.list_laws.proofs.Membership.{in-append, in-left, in-right}
use Rattle.qgm_meaning.specs.Searches.{names, names_cond}
use Rattle.qgm_terms.specs.Gathered.{listed_arms}
use Rattle.qgm_terms.specs.Named as named
use Rattle.qgm_terms.specs.Named.{columns_in, columns_in_cond, nodes_in, nodes_in_cond}
use Rattle.qgm_terms.specs.Substitution.{column_substituted, substituted, substituted_cond}
use Rattle.qgm_terms.specs.Terms as t
use Rattle.qgm_terms.specs.Terms.{Term, int, text, null_int, null_text, col, scalar, both, minus_of, choose, count_all, fold, Arms, no_arm, arm, Cond, always, compare, is_null, and, or, not, some, every}
use Rattle.qgm_terms.specs.declared.named.Column.{Column}
use Rattle.qgm_terms.specs.declared.named.QuantNode.TheVariants as node
use Rattle.qgm_terms.specs.declared.tree.Op.{Op}
use Rattle.qgm_terms.specs.declared.tree.Op.TheVariants.{Add, Sub, Mul, Div, Cat}
use Rattle.qgm_props.specs.Inferred.{divides, fold_free, keeps_free}
use Rattle.rule_feed.specs.Feed.{fed_arms, fed_cond, fed_term, up}
use Rattle.rule_feed.specs.Split.{renamed, renamed_arms, renamed_cond}
use Rattle.rule_calm.specs.Settled.{not_single, single_free, single_free_arms, single_free_cond}
use Rattle.rule_calm.proofs.FreeTerms.{SameNodes, arms_with, cond_with, free_with}
use Rattle.rule_calm.proofs.MovedTerms.{put-renamed, put-renamed-cond}
use Rattle.rule_calm.proofs.SameFacts.{both-of}

-- column r k becomes f r k; condition d within a some of r becomes w r d, within an every e r d
module _ (f : ℕ → ℕ → Term) (w e : ℕ → Cond → Cond) where
  abbrev mutual
    pub mapped : Term → Term
    mapped (int n) = int n
    mapped (text s) = text s
    mapped null_int = null_int
    mapped null_text = null_text
    mapped (col r k) = f r k
    mapped (scalar r) = scalar r
    mapped (both o x y) = both o (mapped x) (mapped y)
    mapped (minus_of x) = minus_of (mapped x)
    mapped (choose s x) = choose (mapped_arms s) (mapped x)
    mapped count_all = count_all
    mapped (fold g d x) = fold g d (mapped x)

    pub mapped_arms : Arms → Arms
    mapped_arms no_arm = no_arm
    mapped_arms (arm p x s) = arm (mapped_cond p) (mapped x) (mapped_arms s)

    pub mapped_cond : Cond → Cond
    mapped_cond always = always
    mapped_cond (compare sign x y) = compare sign (mapped x) (mapped y)
    mapped_cond (is_null x) = is_null (mapped x)
    mapped_cond (and p q) = and (mapped_cond p) (mapped_cond q)
    mapped_cond (or p q) = or (mapped_cond p) (mapped_cond q)
    mapped_cond (not p) = not (mapped_cond p)
    mapped_cond (some r p) = some r (w r (mapped_cond p))
    mapped_cond (every r p) = every r (e r (mapped_cond p))

  divides-mapped : (y : Term) → divides y ≡ true → divides (mapped y) ≡ true
  divides-mapped (int n) h = h
  divides-mapped (text s) h = h
  divides-mapped null_int h = h
  divides-mapped null_text h = h
  divides-mapped (col r k) h = absurd (let z : ⊥ = cc in z)
  divides-mapped (scalar r) h = h
  divides-mapped (both o x y) h = h
  divides-mapped (minus_of x) h = h
  divides-mapped (choose s x) h = h
  divides-mapped count_all h = h
  divides-mapped (fold g d x) h = h

  pub keeps-mapped : (o : Op) (y : Term) → keeps_free o y ≡ true → keeps_free o (mapped y) ≡ true
  keeps-mapped Add y h = h
  keeps-mapped Sub y h = h
  keeps-mapped Mul y h = h
  keeps-mapped Div y h = divides-mapped y h
  keeps-mapped Cat y h = refl

  -- ---- no `single` comes in

  module _ (new : (r k : ℕ) → single_free (f r k) ≡ true) (wraps : (r : ℕ) (d : Cond) → single_free_cond d ≡ true → (single_free_cond (w r d) ≡ true) × (single_free_cond (e r d) ≡ true)) where
    mutual
      pub single-mapped : (x : Term) → single_free x ≡ true → single_free (mapped x) ≡ true
      single-mapped (int n) h = refl
      single-mapped (text s) h = refl
      single-mapped null_int h = refl
      single-mapped null_text h = refl
      single-mapped (col r k) h = new r k
      single-mapped (scalar r) h = refl
      single-mapped (both o x y) h = both-of (single_free x) (single_free y) (single_free (mapped x)) (single_free (mapped y)) (single-mapped x) (single-mapped y) h
      single-mapped (minus_of x) h = single-mapped x h
      single-mapped (choose s x) h = both-of (single_free_arms s) (single_free x) (single_free_arms (mapped_arms s)) (single_free (mapped x)) (single-mapped-arms s) (single-mapped x) h
      single-mapped count_all h = refl
      single-mapped (fold g d x) h = both-of (not_single g) (single_free x) (not_single g) (single_free (mapped x)) (λ z. z) (single-mapped x) h

      single-mapped-arms : (s : Arms) → single_free_arms s ≡ true → single_free_arms (mapped_arms s) ≡ true
      single-mapped-arms no_arm h = refl
      single-mapped-arms (arm p x s) h =
          both-of (single_free_cond p) (single_free x && single_free_arms s) (single_free_cond (mapped_cond p)) (single_free (mapped x) && single_free_arms (mapped_arms s)) (single-mapped-cond p)
          (both-of (single_free x) (single_free_arms s) (single_free (mapped x)) (single_free_arms (mapped_arms s)) (single-mapped x) (single-mapped-arms s)) h

      pub single-mapped-cond : (p : Cond) → single_free_cond p ≡ true → single_free_cond (mapped_cond p) ≡ true
      single-mapped-cond always h = refl
      single-mapped-cond (compare sign x y) h = both-of (single_free x) (single_free y) (single_free (mapped x)) (single_free (mapped y)) (single-mapped x) (single-mapped y) h
      single-mapped-cond (is_null x) h = single-mapped x h
      single-mapped-cond (and p r) h = both-of (single_free_cond p) (single_free_cond r) (single_free_cond (mapped_cond p)) (single_free_cond (mapped_cond r)) (single-mapped-cond p) (single-mapped-cond r) h
      single-mapped-cond (or p r) h = both-of (single_free_cond p) (single_free_cond r) (single_free_cond (mapped_cond p)) (single_free_cond (mapped_cond r)) (single-mapped-cond p) (single-mapped-cond r) h
      single-mapped-cond (not p) h = single-mapped-cond p h
      single-mapped-cond (some r p) h = (wraps r (mapped_cond p) (single-mapped-cond p h)).0
      single-mapped-cond (every r p) h = (wraps r (mapped_cond p) (single-mapped-cond p h)).1

  -- ---- which columns stand there

  module _ (Q : Column → Type 0) (wraps : (r : ℕ) (d : Cond) → ((c : Column) → In c (columns_in_cond d) → Q c) → ((c : Column) → In c (columns_in_cond (w r d)) → Q c) × ((c : Column) → In c (columns_in_cond (e r d)) → Q c)) where
    -- those of the terms that stand for these
    abbrev pub Become : List Column → Type 0
    Become cs = (c : Column) → In c cs → (d : Column) → In d (columns_in (f c.quant c.place)) → Q d

    two-lists : (xs ys : List Column) → ((c : Column) → In c xs → Q c) → ((c : Column) → In c ys → Q c) → (c : Column) → In c (xs ++ ys) → Q c
    two-lists xs ys a b c i = elim (in-append c xs ys i) [ inl j ↦ a c j | inr j ↦ b c j ]

    mutual
      pub come : (x : Term) → Become (columns_in x) → (c : Column) → In c (columns_in (mapped x)) → Q c
      come (int n) h c i = elim i [ ]
      come (text s) h c i = elim i [ ]
      come null_int h c i = elim i [ ]
      come null_text h c i = elim i [ ]
      come (col r k) h c i = h (record { quant = r; place = k }) (inl refl) c i
      come (scalar r) h c i = elim i [ ]
      come (both o x y) h c i = two-lists (columns_in (mapped x)) (columns_in (mapped y)) (come x (λ d j. h d (in-left d (columns_in x) (columns_in y) j))) (come y (λ d j. h d (in-right d (columns_in x) (columns_in y) j))) c i
      come (minus_of x) h c i = come x h c i
      come (choose s x) h c i = two-lists (listed_arms named.columns (mapped_arms s)) (columns_in (mapped x)) (come-arms s (λ d j. h d (in-left d (listed_arms named.columns s) (columns_in x) j))) (come x (λ d j. h d (in-right d (listed_arms named.columns s) (columns_in x) j))) c i
      come count_all h c i = elim i [ ]
      come (fold g d x) h c i = come x h c i

      come-arms : (s : Arms) → Become (listed_arms named.columns s) → (c : Column) → In c (listed_arms named.columns (mapped_arms s)) → Q c
      come-arms no_arm h c i = elim i [ ]
      come-arms (arm p x s) h c i =
          two-lists (columns_in_cond (mapped_cond p)) (columns_in (mapped x) ++ listed_arms named.columns (mapped_arms s)) (come-cond p (λ d j. h d (in-left d (columns_in_cond p) (columns_in x ++ listed_arms named.columns s) j)))
          (two-lists (columns_in (mapped x)) (listed_arms named.columns (mapped_arms s))
          (come x (λ d j. h d (in-right d (columns_in_cond p) (columns_in x ++ listed_arms named.columns s) (in-left d (columns_in x) (listed_arms named.columns s) j))))
          (come-arms s (λ d j. h d (in-right d (columns_in_cond p) (columns_in x ++ listed_arms named.columns s) (in-right d (columns_in x) (listed_arms named.columns s) j))))) c i

      pub come-cond : (p : Cond) → Become (columns_in_cond p) → (c : Column) → In c (columns_in_cond (mapped_cond p)) → Q c
      come-cond always h c i = elim i [ ]
      come-cond (compare sign x y) h c i = two-lists (columns_in (mapped x)) (columns_in (mapped y)) (come x (λ d j. h d (in-left d (columns_in x) (columns_in y) j))) (come y (λ d j. h d (in-right d (columns_in x) (columns_in y) j))) c i
      come-cond (is_null x) h c i = come x h c i
      come-cond (and p r) h c i = two-lists (columns_in_cond (mapped_cond p)) (columns_in_cond (mapped_cond r)) (come-cond p (λ d j. h d (in-left d (columns_in_cond p) (columns_in_cond r) j))) (come-cond r (λ d j. h d (in-right d (columns_in_cond p) (columns_in_cond r) j))) c i
      come-cond (or p r) h c i = two-lists (columns_in_cond (mapped_cond p)) (columns_in_cond (mapped_cond r)) (come-cond p (λ d j. h d (in-left d (columns_in_cond p) (columns_in_cond r) j))) (come-cond r (λ d j. h d (in-right d (columns_in_cond p) (columns_in_cond r) j))) c i
      come-cond (not p) h c i = come-cond p h c i
      come-cond (some r p) h c i = (wraps r (mapped_cond p) (come-cond p h)).0 c i
      come-cond (every r p) h c i = (wraps r (mapped_cond p) (come-cond p h)).1 c i

fold-any : (s two : Bool) (f : t.Aggregate) → not_single f ≡ true → fold_free s f ≡ true → fold_free two f ≡ true
fold-any s two t.single n h = absurd (let z : ⊥ = cc in z)
fold-any s two t.count n h = refl
fold-any s two t.sum n h = h
fold-any s two t.avg n h = refl
fold-any s two t.least n h = refl
fold-any s two t.greatest n h = refl

-- ---- where what stands for an error-free column is error-free, so is the whole

module _ (ef ef' : ℕ → ℕ → Bool) (cl cl' one one' : ℕ → Bool) (f : ℕ → ℕ → Term) (w e : ℕ → Cond → Cond) where
  abbrev pub MapColumns : Bool → List Column → Type 0
  MapColumns two cs = (c : Column) → In c cs → ef c.quant c.place ≡ true → free_with ef' cl' one' two (f c.quant c.place) ≡ true

  module _ (s two : Bool) (wraps : (r : ℕ) (d : Cond) → cond_with ef' cl' one' two d ≡ true → (cond_with ef' cl' one' two (w r d) ≡ true) × (cond_with ef' cl' one' two (e r d) ≡ true)) where
    mutual
      pub map-free : (x : Term) → MapColumns two (columns_in x) → SameNodes ef ef' cl cl' one one' (nodes_in x) → single_free x ≡ true → free_with ef cl one s x ≡ true → free_with ef' cl' one' two (mapped f w e x) ≡ true
      map-free (int n) hc hn v h = h
      map-free (text x) hc hn v h = refl
      map-free null_int hc hn v h = refl
      map-free null_text hc hn v h = refl
      map-free (col r k) hc hn v h = hc (record { quant = r; place = k }) (inl refl) h
      map-free (scalar r) hc hn v h = let n = hn (node.Scalar r) (inl refl) in let p = and_parts (cl r) (one r && ef r 1) h in and_from (cl' r) (one' r && ef' r 1) (n.0 p.0) (and_from (one' r) (ef' r 1) n.1.0 (n.1.1 (and_parts (one r) (ef r 1) p.1).1))
      map-free (both o x y) hc hn v h =
          let u = and_parts (single_free x) (single_free y) v in
          both-of (keeps_free o y) (free_with ef cl one s x && free_with ef cl one s y) (keeps_free o (mapped f w e y)) (free_with ef' cl' one' two (mapped f w e x) && free_with ef' cl' one' two (mapped f w e y)) (keeps-mapped f w e o y)
          (both-of (free_with ef cl one s x) (free_with ef cl one s y) (free_with ef' cl' one' two (mapped f w e x)) (free_with ef' cl' one' two (mapped f w e y)) (map-free x (λ c i. hc c (in-left c (columns_in x) (columns_in y) i)) (λ c i. hn c (in-left c (nodes_in x) (nodes_in y) i)) u.0) (map-free y (λ c i. hc c (in-right c (columns_in x) (columns_in y) i)) (λ c i. hn c (in-right c (nodes_in x) (nodes_in y) i)) u.1)) h
      map-free (minus_of x) hc hn v h = h
      map-free (choose a x) hc hn v h =
          let u = and_parts (single_free_arms a) (single_free x) v in
          both-of (arms_with ef cl one s a) (free_with ef cl one s x) (arms_with ef' cl' one' two (mapped_arms f w e a)) (free_with ef' cl' one' two (mapped f w e x)) (map-arms a (λ c i. hc c (in-left c (listed_arms named.columns a) (columns_in x) i)) (λ c i. hn c (in-left c (listed_arms named.nodes a) (nodes_in x) i)) u.0) (map-free x (λ c i. hc c (in-right c (listed_arms named.columns a) (columns_in x) i)) (λ c i. hn c (in-right c (listed_arms named.nodes a) (nodes_in x) i)) u.1) h
      map-free count_all hc hn v h = refl
      map-free (fold g d x) hc hn v h = let u = and_parts (not_single g) (single_free x) v in both-of (fold_free s g) (free_with ef cl one s x) (fold_free two g) (free_with ef' cl' one' two (mapped f w e x)) (fold-any s two g u.0) (map-free x hc hn u.1) h

      map-arms : (a : Arms) → MapColumns two (listed_arms named.columns a) → SameNodes ef ef' cl cl' one one' (listed_arms named.nodes a) → single_free_arms a ≡ true → arms_with ef cl one s a ≡ true → arms_with ef' cl' one' two (mapped_arms f w e a) ≡ true
      map-arms no_arm hc hn v h = refl
      map-arms (arm p x a) hc hn v h =
          let u = and_parts (single_free_cond p) (single_free x && single_free_arms a) v in
          let z = and_parts (single_free x) (single_free_arms a) u.1 in
          both-of (cond_with ef cl one s p) (free_with ef cl one s x && arms_with ef cl one s a) (cond_with ef' cl' one' two (mapped_cond f w e p)) (free_with ef' cl' one' two (mapped f w e x) && arms_with ef' cl' one' two (mapped_arms f w e a))
          (map-cond p (λ c i. hc c (in-left c (columns_in_cond p) (columns_in x ++ listed_arms named.columns a) i)) (λ c i. hn c (in-left c (nodes_in_cond p) (nodes_in x ++ listed_arms named.nodes a) i)) u.0)
          (both-of (free_with ef cl one s x) (arms_with ef cl one s a) (free_with ef' cl' one' two (mapped f w e x)) (arms_with ef' cl' one' two (mapped_arms f w e a))
          (map-free x (λ c i. hc c (in-right c (columns_in_cond p) (columns_in x ++ listed_arms named.columns a) (in-left c (columns_in x) (listed_arms named.columns a) i))) (λ c i. hn c (in-right c (nodes_in_cond p) (nodes_in x ++ listed_arms named.nodes a) (in-left c (nodes_in x) (listed_arms named.nodes a) i))) z.0)
          (map-arms a (λ c i. hc c (in-right c (columns_in_cond p) (columns_in x ++ listed_arms named.columns a) (in-right c (columns_in x) (listed_arms named.columns a) i))) (λ c i. hn c (in-right c (nodes_in_cond p) (nodes_in x ++ listed_arms named.nodes a) (in-right c (nodes_in x) (listed_arms named.nodes a) i))) z.1)) h

      pub map-cond : (p : Cond) → MapColumns two (columns_in_cond p) → SameNodes ef ef' cl cl' one one' (nodes_in_cond p) → single_free_cond p ≡ true → cond_with ef cl one s p ≡ true → cond_with ef' cl' one' two (mapped_cond f w e p) ≡ true
      map-cond always hc hn v h = refl
      map-cond (compare sign x y) hc hn v h =
          let u = and_parts (single_free x) (single_free y) v in
          both-of (free_with ef cl one s x) (free_with ef cl one s y) (free_with ef' cl' one' two (mapped f w e x)) (free_with ef' cl' one' two (mapped f w e y)) (map-free x (λ c i. hc c (in-left c (columns_in x) (columns_in y) i)) (λ c i. hn c (in-left c (nodes_in x) (nodes_in y) i)) u.0) (map-free y (λ c i. hc c (in-right c (columns_in x) (columns_in y) i)) (λ c i. hn c (in-right c (nodes_in x) (nodes_in y) i)) u.1) h
      map-cond (is_null x) hc hn v h = map-free x hc hn v h
      map-cond (and p r) hc hn v h =
          let u = and_parts (single_free_cond p) (single_free_cond r) v in
          both-of (cond_with ef cl one s p) (cond_with ef cl one s r) (cond_with ef' cl' one' two (mapped_cond f w e p)) (cond_with ef' cl' one' two (mapped_cond f w e r)) (map-cond p (λ c i. hc c (in-left c (columns_in_cond p) (columns_in_cond r) i)) (λ c i. hn c (in-left c (nodes_in_cond p) (nodes_in_cond r) i)) u.0) (map-cond r (λ c i. hc c (in-right c (columns_in_cond p) (columns_in_cond r) i)) (λ c i. hn c (in-right c (nodes_in_cond p) (nodes_in_cond r) i)) u.1) h
      map-cond (or p r) hc hn v h =
          let u = and_parts (single_free_cond p) (single_free_cond r) v in
          both-of (cond_with ef cl one s p) (cond_with ef cl one s r) (cond_with ef' cl' one' two (mapped_cond f w e p)) (cond_with ef' cl' one' two (mapped_cond f w e r)) (map-cond p (λ c i. hc c (in-left c (columns_in_cond p) (columns_in_cond r) i)) (λ c i. hn c (in-left c (nodes_in_cond p) (nodes_in_cond r) i)) u.0) (map-cond r (λ c i. hc c (in-right c (columns_in_cond p) (columns_in_cond r) i)) (λ c i. hn c (in-right c (nodes_in_cond p) (nodes_in_cond r) i)) u.1) h
      map-cond (not p) hc hn v h = map-cond p hc hn v h
      map-cond (some r p) hc hn v h = both-of (cl r) (cond_with ef cl one s p) (cl' r) (cond_with ef' cl' one' two (w r (mapped_cond f w e p))) (hn (node.Some r) (inl refl)) (λ k. (wraps r (mapped_cond f w e p) (map-cond p hc (λ c i. hn c (inr i)) v k)).0) h
      map-cond (every r p) hc hn v h = both-of (cl r) (cond_with ef cl one s p) (cl' r) (cond_with ef' cl' one' two (e r (mapped_cond f w e p))) (hn (node.Every r) (inl refl)) (λ k. (wraps r (mapped_cond f w e p) (map-cond p hc (λ c i. hn c (inr i)) v k)).1) h

-- ---- what is so made

abbrev pub as_it_is : ℕ → Cond → Cond
as_it_is r d = d

-- columns that are renamed
module _ (f : ℕ → ℕ → Term) where
  mutual
    pub renamed-mapped : (x : Term) → renamed f x ≡ mapped f as_it_is as_it_is x
    renamed-mapped (int n) = refl
    renamed-mapped (text s) = refl
    renamed-mapped null_int = refl
    renamed-mapped null_text = refl
    renamed-mapped (col r k) = refl
    renamed-mapped (scalar r) = refl
    renamed-mapped (both o x y) = ap₂ (both o) (renamed-mapped x) (renamed-mapped y)
    renamed-mapped (minus_of x) = ap minus_of (renamed-mapped x)
    renamed-mapped (choose s x) = ap₂ choose (renamed-mapped-arms s) (renamed-mapped x)
    renamed-mapped count_all = refl
    renamed-mapped (fold g d x) = ap (fold g d) (renamed-mapped x)

    renamed-mapped-arms : (s : Arms) → renamed_arms f s ≡ mapped_arms f as_it_is as_it_is s
    renamed-mapped-arms no_arm = refl
    renamed-mapped-arms (arm p x s) = ap (λ p. arm p (renamed f x) (renamed_arms f s)) (renamed-mapped-cond p) ∙ ap₂ (arm (mapped_cond f as_it_is as_it_is p)) (renamed-mapped x) (renamed-mapped-arms s)

    pub renamed-mapped-cond : (p : Cond) → renamed_cond f p ≡ mapped_cond f as_it_is as_it_is p
    renamed-mapped-cond always = refl
    renamed-mapped-cond (compare sign x y) = ap₂ (compare sign) (renamed-mapped x) (renamed-mapped y)
    renamed-mapped-cond (is_null x) = ap is_null (renamed-mapped x)
    renamed-mapped-cond (and p r) = ap₂ and (renamed-mapped-cond p) (renamed-mapped-cond r)
    renamed-mapped-cond (or p r) = ap₂ or (renamed-mapped-cond p) (renamed-mapped-cond r)
    renamed-mapped-cond (not p) = ap not (renamed-mapped-cond p)
    renamed-mapped-cond (some r p) = ap (some r) (renamed-mapped-cond p)
    renamed-mapped-cond (every r p) = ap (every r) (renamed-mapped-cond p)

-- cells put in for the columns of q, of which no node stands there
module _ (q : ℕ) (cells : List Term) where
  pub put-mapped : (x : Term) → names q x ≡ false → substituted q cells x ≡ mapped (column_substituted q cells) as_it_is as_it_is x
  put-mapped x n = put-renamed q cells x n ∙ renamed-mapped (column_substituted q cells) x

  pub put-mapped-cond : (p : Cond) → names_cond q p ≡ false → substituted_cond q cells p ≡ mapped_cond (column_substituted q cells) as_it_is as_it_is p
  put-mapped-cond p n = put-renamed-cond q cells p n ∙ renamed-mapped-cond (column_substituted q cells) p

-- what becomes of the box that owns a fed one
module _ (i n : ℕ) (k : Cond) where
  abbrev pub behind_i : ℕ → ℕ → Term
  behind_i r j = cond (r == i) (col r (up n j)) (col r j)

  abbrev pub some_i : ℕ → Cond → Cond
  some_i r d = cond (r == i) (and k d) d

  abbrev pub every_i : ℕ → Cond → Cond
  every_i r d = cond (r == i) (or (not k) d) d

  mutual
    pub fed-mapped : (x : Term) → fed_term i n k x ≡ mapped behind_i some_i every_i x
    fed-mapped (int m) = refl
    fed-mapped (text s) = refl
    fed-mapped null_int = refl
    fed-mapped null_text = refl
    fed-mapped (col r j) = refl
    fed-mapped (scalar r) = refl
    fed-mapped (both o x y) = ap₂ (both o) (fed-mapped x) (fed-mapped y)
    fed-mapped (minus_of x) = ap minus_of (fed-mapped x)
    fed-mapped (choose s x) = ap₂ choose (fed-mapped-arms s) (fed-mapped x)
    fed-mapped count_all = refl
    fed-mapped (fold g d x) = ap (fold g d) (fed-mapped x)

    fed-mapped-arms : (s : Arms) → fed_arms i n k s ≡ mapped_arms behind_i some_i every_i s
    fed-mapped-arms no_arm = refl
    fed-mapped-arms (arm p x s) = ap (λ p. arm p (fed_term i n k x) (fed_arms i n k s)) (fed-mapped-cond p) ∙ ap₂ (arm (mapped_cond behind_i some_i every_i p)) (fed-mapped x) (fed-mapped-arms s)

    pub fed-mapped-cond : (p : Cond) → fed_cond i n k p ≡ mapped_cond behind_i some_i every_i p
    fed-mapped-cond always = refl
    fed-mapped-cond (compare sign x y) = ap₂ (compare sign) (fed-mapped x) (fed-mapped y)
    fed-mapped-cond (is_null x) = ap is_null (fed-mapped x)
    fed-mapped-cond (and p r) = ap₂ and (fed-mapped-cond p) (fed-mapped-cond r)
    fed-mapped-cond (or p r) = ap₂ or (fed-mapped-cond p) (fed-mapped-cond r)
    fed-mapped-cond (not p) = ap not (fed-mapped-cond p)
    fed-mapped-cond (some r p) = ap (λ d. some r (some_i r d)) (fed-mapped-cond p)
    fed-mapped-cond (every r p) = ap (λ d. every r (every_i r d)) (fed-mapped-cond p)
