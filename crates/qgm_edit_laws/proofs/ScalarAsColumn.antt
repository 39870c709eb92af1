-- The first column of a quantifier in the place of its scalar.
use Rattle.std.proofs.Common.{ℕ, ◌==◌, ◌≡◌, ◌&&◌, ◌||◌, cond, Bool, true, false, List, [], ◌∷◌, ◌++◌, map, Option, refl, sym, ap, ap₂, ◌∙◌, eqb-true, inl, inr}
use Rattle.std.specs.List.{flat_map, list_all, list_any}
use Rattle.std.proofs.lemmas.Bool.{and_from, and_parts, cases_Bool}
use mathlib.Core.Path.{fun_ext}
use Rattle.sql_value.specs.declared.order_key.SqlType.{SqlType}
use Rattle.qgm_terms.specs.Gathered.{Search, gathered, gathered_arms, gathered_cond, listed_arms}
use Rattle.qgm_terms.specs.Named.{columns, columns_in, nodes, columns_in_cond, nodes_in, nodes_in_cond}
use Rattle.qgm_terms.specs.Terms.{Term, int, text, null_int, null_text, col, scalar, both, minus_of, choose, count_all, fold, Arms, no_arm, arm, Cond, always, compare, is_null, and, or, some, every}
use Rattle.qgm_terms.specs.Wanted.{Wanted, any_in, any_in_cond, found, wanted}
use Rattle.qgm_terms.specs.declared.named.Column.{Column}
use Rattle.qgm_terms.specs.declared.named.QuantNode.{QuantNode}
use Rattle.qgm_terms.specs.Terms as t
use Rattle.qgm_terms.specs.declared.sought.Sought.TheVariants as sought
use Rattle.qgm_terms.specs.declared.named.QuantNode.TheVariants as node
use Rattle.qgm_wellformed.specs.Types.{Lookup, arms_fit, cond_fits, agree, integer_if, is_integer, is_known, op_type, sign_fits, term_type, type_if, aggregate_type}
use Rattle.qgm_meaning.specs.Searches.{as_column, as_column_arms, as_column_cond, binding}
use Rattle.qgm_edit_laws.proofs.ConjunctsOf.{all-both}

-- ---- what is gathered

module _ (i : ℕ) {A : Type 0} (none : A) (with : A → A → A) (s : Search A) where
  -- a scalar of i counts as its first column
  abbrev pub scalared : Search A
  scalared = record { at_column = s.at_column; at_scalar = λ r. cond (r == i) (s.at_column i 1) (s.at_scalar r); at_some = s.at_some; at_every = s.at_every; at_aggregate = s.at_aggregate }

  mutual
    pub column-gathered : (x : Term) → gathered none with s (as_column i x) ≡ gathered none with scalared x
    column-gathered (int n) = refl
    column-gathered (text z) = refl
    column-gathered null_int = refl
    column-gathered null_text = refl
    column-gathered (col q k) = refl
    column-gathered (scalar r) = elim (r == i) as (λ t. gathered none with s (cond t (col i 1) (scalar r)) ≡ cond t (s.at_column i 1) (s.at_scalar r)) [ true ↦ refl | false ↦ refl ]
    column-gathered (both op x y) = ap₂ with (column-gathered x) (column-gathered y)
    column-gathered (minus_of x) = column-gathered x
    column-gathered (choose a x) = ap₂ with (arms-gathered a) (column-gathered x)
    column-gathered count_all = refl
    column-gathered (fold f d x) = ap s.at_aggregate (column-gathered x)

    pub arms-gathered : (a : Arms) → gathered_arms none with s (as_column_arms i a) ≡ gathered_arms none with scalared a
    arms-gathered no_arm = refl
    arms-gathered (arm c x a) = ap₂ with (cond-gathered c) (ap₂ with (column-gathered x) (arms-gathered a))

    pub cond-gathered : (c : Cond) → gathered_cond none with s (as_column_cond i c) ≡ gathered_cond none with scalared c
    cond-gathered always = refl
    cond-gathered (compare sign x y) = ap₂ with (column-gathered x) (column-gathered y)
    cond-gathered (is_null x) = column-gathered x
    cond-gathered (and c d) = ap₂ with (cond-gathered c) (cond-gathered d)
    cond-gathered (or c d) = ap₂ with (cond-gathered c) (cond-gathered d)
    cond-gathered (t.not c) = cond-gathered c
    cond-gathered (some q c) = ap (s.at_some q) (cond-gathered c)
    cond-gathered (every q c) = ap (s.at_every q) (cond-gathered c)

-- ---- what is looked for

module _ (i : ℕ) (w v : Wanted) (same : scalared i false (λ x y. x || y) (found w) ≡ found v) where
  pub any-column : (x : Term) → any_in w (as_column i x) ≡ any_in v x
  any-column x = column-gathered i false (λ x y. x || y) (found w) x ∙ ap (λ s. gathered false (λ x y. x || y) s x) same

  pub any-column-cond : (c : Cond) → any_in_cond w (as_column_cond i c) ≡ any_in_cond v c
  any-column-cond c = cond-gathered i false (λ x y. x || y) (found w) c ∙ ap (λ s. gathered_cond false (λ x y. x || y) s c) same

  pub any-heads : (xs : List Term) → list_any (any_in w) (map (as_column i) xs) ≡ list_any (any_in v) xs
  any-heads [] = refl
  any-heads (x ∷ xs) = ap₂ (λ a b. a || b) (any-column x) (any-heads xs)

  pub any-conds : (cs : List Cond) → list_any (any_in_cond w) (map (as_column_cond i) cs) ≡ list_any (any_in_cond v) cs
  any-conds [] = refl
  any-conds (c ∷ cs) = ap₂ (λ a b. a || b) (any-column-cond c) (any-conds cs)

-- where both are the same, a test by cases of the number is none
both-same : {A : Type 0} (b : Bool) (a : A) → cond b a a ≡ a
both-same true a = refl
both-same false a = refl

abbrev with-scalar : Wanted → (ℕ → Bool) → Search Bool
with-scalar w at = record { at_column = w.column; at_scalar = at; at_some = λ q b. w.node q || (w.enter q && b); at_every = λ q b. w.node q || (w.enter q && b); at_aggregate = λ b. w.aggregate || b }

-- the rows of another quantifier are looked up as before
pub row-same : (i q : ℕ) → (i == q) ≡ false → scalared i false (λ x y. x || y) (found (wanted (sought.Row q))) ≡ found (wanted (sought.Row q))
row-same i q f = ap (with-scalar (wanted (sought.Row q))) (fun_ext (λ r. ap (λ b. cond (r == i) b false) f ∙ both-same (r == i) false))

pub aggregate-same : (i : ℕ) → scalared i false (λ x y. x || y) (found (wanted sought.Aggregate)) ≡ found (wanted sought.Aggregate)
aggregate-same i = ap (with-scalar (wanted sought.Aggregate)) (fun_ext (λ r. both-same (r == i) false))

-- only some and every are nodes of it then
pub node-same : (i : ℕ) → scalared i false (λ x y. x || y) (found (wanted (sought.NodeOf i))) ≡ found (binding (λ r. r == i))
node-same i = ap (with-scalar (wanted (sought.NodeOf i))) (fun_ext (λ r. elim (r == i) as (λ t. cond t false t ≡ false) [ true ↦ refl | false ↦ refl ]))

-- ---- columns and nodes, one by one

module _ (i : ℕ) (p : Column → Bool) (one : p (record { quant = i; place = 1 }) ≡ true) where
  both-all : {X : Type 0} (p : X → Bool) (ps qs rs zs : List X) → (list_all p ps ≡ true → list_all p rs ≡ true) → (list_all p qs ≡ true → list_all p zs ≡ true) → list_all p (ps ++ qs) ≡ true → list_all p (rs ++ zs) ≡ true
  both-all p ps qs rs zs f g h =
      let a = and_parts (list_all p ps) (list_all p qs) (sym (all-both p ps qs) ∙ h) in
      all-both p rs zs ∙ and_from (list_all p rs) (list_all p zs) (f a.0) (g a.1)

  mutual
    pub all-columns : (x : Term) → list_all p (columns_in x) ≡ true → list_all p (columns_in (as_column i x)) ≡ true
    all-columns (int n) h = h
    all-columns (text z) h = h
    all-columns null_int h = h
    all-columns null_text h = h
    all-columns (col q k) h = h
    all-columns (scalar r) h = elim (r == i) as (λ t. list_all p (columns_in (cond t (col i 1) (scalar r))) ≡ true) [ true ↦ and_from (p (record { quant = i; place = 1 })) true one refl | false ↦ refl ]
    all-columns (both op x y) h = both-all p (columns_in x) (columns_in y) (columns_in (as_column i x)) (columns_in (as_column i y)) (all-columns x) (all-columns y) h
    all-columns (minus_of x) h = all-columns x h
    all-columns (choose a x) h = both-all p (listed_arms columns a) (columns_in x) (listed_arms columns (as_column_arms i a)) (columns_in (as_column i x)) (all-columns-arms a) (all-columns x) h
    all-columns count_all h = h
    all-columns (fold f d x) h = all-columns x h

    all-columns-arms : (a : Arms) → list_all p (listed_arms columns a) ≡ true → list_all p (listed_arms columns (as_column_arms i a)) ≡ true
    all-columns-arms no_arm h = h
    all-columns-arms (arm c x a) h =
        both-all p (columns_in_cond c) (columns_in x ++ listed_arms columns a) (columns_in_cond (as_column_cond i c)) (columns_in (as_column i x) ++ listed_arms columns (as_column_arms i a)) (all-columns-cond c)
        (both-all p (columns_in x) (listed_arms columns a) (columns_in (as_column i x)) (listed_arms columns (as_column_arms i a)) (all-columns x) (all-columns-arms a)) h

    pub all-columns-cond : (c : Cond) → list_all p (columns_in_cond c) ≡ true → list_all p (columns_in_cond (as_column_cond i c)) ≡ true
    all-columns-cond always h = h
    all-columns-cond (compare sign x y) h = both-all p (columns_in x) (columns_in y) (columns_in (as_column i x)) (columns_in (as_column i y)) (all-columns x) (all-columns y) h
    all-columns-cond (is_null x) h = all-columns x h
    all-columns-cond (and c d) h = both-all p (columns_in_cond c) (columns_in_cond d) (columns_in_cond (as_column_cond i c)) (columns_in_cond (as_column_cond i d)) (all-columns-cond c) (all-columns-cond d) h
    all-columns-cond (or c d) h = both-all p (columns_in_cond c) (columns_in_cond d) (columns_in_cond (as_column_cond i c)) (columns_in_cond (as_column_cond i d)) (all-columns-cond c) (all-columns-cond d) h
    all-columns-cond (t.not c) h = all-columns-cond c h
    all-columns-cond (some q c) h = all-columns-cond c h
    all-columns-cond (every q c) h = all-columns-cond c h

module _ (i : ℕ) (p : QuantNode → Bool) where
  apart-all : {X : Type 0} (p : X → Bool) (ps qs rs zs : List X) → (list_all p ps ≡ true → list_all p rs ≡ true) → (list_all p qs ≡ true → list_all p zs ≡ true) → list_all p (ps ++ qs) ≡ true → list_all p (rs ++ zs) ≡ true
  apart-all p ps qs rs zs f g h =
      let a = and_parts (list_all p ps) (list_all p qs) (sym (all-both p ps qs) ∙ h) in
      all-both p rs zs ∙ and_from (list_all p rs) (list_all p zs) (f a.0) (g a.1)

  mutual
    pub all-nodes : (x : Term) → list_all p (nodes_in x) ≡ true → list_all p (nodes_in (as_column i x)) ≡ true
    all-nodes (int n) h = h
    all-nodes (text z) h = h
    all-nodes null_int h = h
    all-nodes null_text h = h
    all-nodes (col q k) h = h
    all-nodes (scalar r) h = elim (r == i) as (λ t. list_all p (nodes_in (cond t (col i 1) (scalar r))) ≡ true) [ true ↦ refl | false ↦ h ]
    all-nodes (both op x y) h = apart-all p (nodes_in x) (nodes_in y) (nodes_in (as_column i x)) (nodes_in (as_column i y)) (all-nodes x) (all-nodes y) h
    all-nodes (minus_of x) h = all-nodes x h
    all-nodes (choose a x) h = apart-all p (listed_arms nodes a) (nodes_in x) (listed_arms nodes (as_column_arms i a)) (nodes_in (as_column i x)) (all-nodes-arms a) (all-nodes x) h
    all-nodes count_all h = h
    all-nodes (fold f d x) h = all-nodes x h

    all-nodes-arms : (a : Arms) → list_all p (listed_arms nodes a) ≡ true → list_all p (listed_arms nodes (as_column_arms i a)) ≡ true
    all-nodes-arms no_arm h = h
    all-nodes-arms (arm c x a) h =
        apart-all p (nodes_in_cond c) (nodes_in x ++ listed_arms nodes a) (nodes_in_cond (as_column_cond i c)) (nodes_in (as_column i x) ++ listed_arms nodes (as_column_arms i a)) (all-nodes-cond c)
        (apart-all p (nodes_in x) (listed_arms nodes a) (nodes_in (as_column i x)) (listed_arms nodes (as_column_arms i a)) (all-nodes x) (all-nodes-arms a)) h

    pub all-nodes-cond : (c : Cond) → list_all p (nodes_in_cond c) ≡ true → list_all p (nodes_in_cond (as_column_cond i c)) ≡ true
    all-nodes-cond always h = h
    all-nodes-cond (compare sign x y) h = apart-all p (nodes_in x) (nodes_in y) (nodes_in (as_column i x)) (nodes_in (as_column i y)) (all-nodes x) (all-nodes y) h
    all-nodes-cond (is_null x) h = all-nodes x h
    all-nodes-cond (and c d) h = apart-all p (nodes_in_cond c) (nodes_in_cond d) (nodes_in_cond (as_column_cond i c)) (nodes_in_cond (as_column_cond i d)) (all-nodes-cond c) (all-nodes-cond d) h
    all-nodes-cond (or c d) h = apart-all p (nodes_in_cond c) (nodes_in_cond d) (nodes_in_cond (as_column_cond i c)) (nodes_in_cond (as_column_cond i d)) (all-nodes-cond c) (all-nodes-cond d) h
    all-nodes-cond (t.not c) h = all-nodes-cond c h
    all-nodes-cond (some q c) h = let a = and_parts (p (node.Some q)) (list_all p (nodes_in_cond c)) h in and_from (p (node.Some q)) (list_all p (nodes_in_cond (as_column_cond i c))) a.0 (all-nodes-cond c a.1)
    all-nodes-cond (every q c) h = let a = and_parts (p (node.Every q)) (list_all p (nodes_in_cond c)) h in and_from (p (node.Every q)) (list_all p (nodes_in_cond (as_column_cond i c))) a.0 (all-nodes-cond c a.1)

-- ---- types

module _ (i : ℕ) (at : Lookup) where
  mutual
    pub type-column : (x : Term) → term_type at (as_column i x) ≡ term_type at x
    type-column (int n) = refl
    type-column (text z) = refl
    type-column null_int = refl
    type-column null_text = refl
    type-column (col q k) = refl
    type-column (scalar r) = elim (cases_Bool (r == i)) [
      | inl y ↦ ap (λ b. term_type at (cond b (col i 1) (scalar r))) y ∙ ap (λ z. at z 1) (sym (eqb-true r i y))
      | inr f ↦ ap (λ b. term_type at (cond b (col i 1) (scalar r))) f
    ]
    type-column (both op x y) = ap₂ (op_type op) (type-column x) (type-column y)
    type-column (minus_of x) = ap (λ z. integer_if (is_integer z)) (type-column x)
    type-column (choose a x) = ap₂ type_if (arms-column a (term_type at (as_column i x)) ∙ ap (λ z. arms_fit at z a) (type-column x)) (type-column x)
    type-column count_all = refl
    type-column (fold f d x) = ap (aggregate_type f) (type-column x)

    arms-column : (a : Arms) (z : Option SqlType) → arms_fit at z (as_column_arms i a) ≡ arms_fit at z a
    arms-column no_arm z = refl
    arms-column (arm c x a) z = ap₂ (λ u v. u && v) (cond-column c) (ap₂ (λ u v. agree u z && v) (type-column x) (arms-column a z))

    pub cond-column : (c : Cond) → cond_fits at (as_column_cond i c) ≡ cond_fits at c
    cond-column always = refl
    cond-column (compare sign x y) = ap₂ (sign_fits sign) (type-column x) (type-column y)
    cond-column (is_null x) = ap is_known (type-column x)
    cond-column (and c d) = ap₂ (λ u v. u && v) (cond-column c) (cond-column d)
    cond-column (or c d) = ap₂ (λ u v. u && v) (cond-column c) (cond-column d)
    cond-column (t.not c) = cond-column c
    cond-column (some q c) = cond-column c
    cond-column (every q c) = cond-column c

  pub known-columns : (xs : List Term) → list_all (λ x. is_known (term_type at x)) (map (as_column i) xs) ≡ list_all (λ x. is_known (term_type at x)) xs
  known-columns [] = refl
  known-columns (x ∷ xs) = ap₂ (λ u v. is_known u && v) (type-column x) (known-columns xs)

  pub fit-columns : (cs : List Cond) → list_all (cond_fits at) (map (as_column_cond i) cs) ≡ list_all (cond_fits at) cs
  fit-columns [] = refl
  fit-columns (c ∷ cs) = ap₂ (λ u v. u && v) (cond-column c) (fit-columns cs)

  pub typed-columns : (xs : List Term) → map (λ x. term_type at x) (map (as_column i) xs) ≡ map (λ x. term_type at x) xs
  typed-columns [] = refl
  typed-columns (x ∷ xs) = ap₂ (λ u v. u ∷ v) (type-column x) (typed-columns xs)

-- ---- lists of cells and conditions

pub flat-heads : {X : Type 0} (p : X → Bool) (f g : Term → List X) (h : Term → Term) → ((x : Term) → list_all p (f x) ≡ true → list_all p (g (h x)) ≡ true) → (xs : List Term)
    → list_all p (flat_map f xs) ≡ true → list_all p (flat_map g (map h xs)) ≡ true
flat-heads p f g h k [] a = refl
flat-heads p f g h k (x ∷ xs) a =
    let b = and_parts (list_all p (f x)) (list_all p (flat_map f xs)) (sym (all-both p (f x) (flat_map f xs)) ∙ a) in
    all-both p (g (h x)) (flat_map g (map h xs)) ∙ and_from (list_all p (g (h x))) (list_all p (flat_map g (map h xs))) (k x b.0) (flat-heads p f g h k xs b.1)

pub flat-conds : {X : Type 0} (p : X → Bool) (f g : Cond → List X) (h : Cond → Cond) → ((x : Cond) → list_all p (f x) ≡ true → list_all p (g (h x)) ≡ true) → (xs : List Cond)
    → list_all p (flat_map f xs) ≡ true → list_all p (flat_map g (map h xs)) ≡ true
flat-conds p f g h k [] a = refl
flat-conds p f g h k (x ∷ xs) a =
    let b = and_parts (list_all p (f x)) (list_all p (flat_map f xs)) (sym (all-both p (f x) (flat_map f xs)) ∙ a) in
    all-both p (g (h x)) (flat_map g (map h xs)) ∙ and_from (list_all p (g (h x))) (list_all p (flat_map g (map h xs))) (k x b.0) (flat-conds p f g h k xs b.1)
