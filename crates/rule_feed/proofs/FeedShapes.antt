-- What shapes ask of the terms that feeding makes.
use Rattle.std.proofs.Common.{ℕ, zero, suc, ◌==◌, ◌≡◌, ◌&&◌, ◌||◌, ◌+◌, ◌<◌, get_or, arith, cond, Bool, true, false, List, [], ◌∷◌, ◌++◌, map, refl, sym, ap, ap₂, subst, ◌∙◌, eqb-true, inl, inr}
use Rattle.std.specs.List.{flat_map, list_all, list_any}
use Rattle.std.proofs.lemmas.Bool.{and_from, and_parts, cases_Bool, or_parts}
use Rattle.qgm_terms.specs.Gathered.{listed_arms}
use Rattle.qgm_terms.specs.Named.{columns_in, nodes_in, nodes_in_cond}
use Rattle.qgm_terms.specs.Named as listing
use Rattle.qgm_terms.specs.Terms.{Term, int, text, null_int, null_text, col, both, minus_of, choose, count_all, fold, scalar, Arms, no_arm, arm, Cond, always, compare, is_null, and, or, not, some, every, same}
use Rattle.qgm_terms.specs.Wanted.{Wanted, any_in, any_in_arms, any_in_cond, has_aggregate, has_aggregate_cond, reads}
use Rattle.qgm_terms.specs.declared.named.Column.{Column}
use Rattle.qgm_terms.specs.declared.named.QuantNode.{QuantNode}
use Rattle.qgm_terms.specs.declared.named.QuantNode.TheVariants as node
use Rattle.qgm_wellformed.specs.Shapes.{is_column, same_columns}
use Rattle.qgm_wellformed.specs.Shapes as shapes
use Rattle.qgm_meaning.specs.Tags.{columns_from}
use Rattle.qgm_edit_laws.proofs.ShapedPut.{all-joined, all-parts}
use Rattle.rule_feed.specs.Feed.{all_of, conj, fed_arms, fed_cond, fed_term, joins, picked, put_cells, up}
use Rattle.list_laws.proofs.Membership.{eq-itself}
use Rattle.list_laws.proofs.Booleans.{clash}

-- ---- nodes of b

module _ (i n : ℕ) (k : Cond) (p : QuantNode → Bool) (none : list_all p (nodes_in_cond k) ≡ true) where
  both-parts : (xs ys xs' ys' : List QuantNode) → list_all p (xs ++ ys) ≡ true → (list_all p xs ≡ true → list_all p xs' ≡ true) → (list_all p ys ≡ true → list_all p ys' ≡ true) → list_all p (xs' ++ ys') ≡ true
  both-parts xs ys xs' ys' h f g = let a = all-parts p xs ys h in all-joined p xs' ys' (f a.0) (g a.1)

  node-fed : (x : QuantNode) (b : Bool) (c c' : Cond) → list_all p (x ∷ nodes_in_cond c) ≡ true → (list_all p (nodes_in_cond c) ≡ true → list_all p (nodes_in_cond c') ≡ true) → (p x ≡ true) × (list_all p (nodes_in_cond c') ≡ true)
  node-fed x b c c' h f = let a = and_parts (p x) (list_all p (nodes_in_cond c)) h in (a.0, f a.1)

  mutual
    term-nodes : (x : Term) → list_all p (nodes_in x) ≡ true → list_all p (nodes_in (fed_term i n k x)) ≡ true
    term-nodes (int m) h = refl
    term-nodes (text s) h = refl
    term-nodes null_int h = refl
    term-nodes null_text h = refl
    term-nodes (col r j) h = elim (r == i) as (λ b. list_all p (nodes_in (cond b (col r (up n j)) (col r j))) ≡ true) [ true ↦ refl | false ↦ refl ]
    term-nodes (both o x y) h = both-parts (nodes_in x) (nodes_in y) (nodes_in (fed_term i n k x)) (nodes_in (fed_term i n k y)) h (term-nodes x) (term-nodes y)
    term-nodes (minus_of x) h = term-nodes x h
    term-nodes (choose s x) h = both-parts (listed_arms listing.nodes s) (nodes_in x) (listed_arms listing.nodes (fed_arms i n k s)) (nodes_in (fed_term i n k x)) h (arms-nodes s) (term-nodes x)
    term-nodes count_all h = refl
    term-nodes (fold f d x) h = term-nodes x h
    term-nodes (scalar r) h = h

    arms-nodes : (s : Arms) → list_all p (listed_arms listing.nodes s) ≡ true → list_all p (listed_arms listing.nodes (fed_arms i n k s)) ≡ true
    arms-nodes no_arm h = refl
    arms-nodes (arm c x s) h = both-parts (nodes_in_cond c) (nodes_in x ++ listed_arms listing.nodes s) (nodes_in_cond (fed_cond i n k c)) (nodes_in (fed_term i n k x) ++ listed_arms listing.nodes (fed_arms i n k s)) h (cond-nodes c)
        (λ h. both-parts (nodes_in x) (listed_arms listing.nodes s) (nodes_in (fed_term i n k x)) (listed_arms listing.nodes (fed_arms i n k s)) h (term-nodes x) (arms-nodes s))

    cond-nodes : (c : Cond) → list_all p (nodes_in_cond c) ≡ true → list_all p (nodes_in_cond (fed_cond i n k c)) ≡ true
    cond-nodes always h = refl
    cond-nodes (compare s x y) h = both-parts (nodes_in x) (nodes_in y) (nodes_in (fed_term i n k x)) (nodes_in (fed_term i n k y)) h (term-nodes x) (term-nodes y)
    cond-nodes (is_null x) h = term-nodes x h
    cond-nodes (and c d) h = both-parts (nodes_in_cond c) (nodes_in_cond d) (nodes_in_cond (fed_cond i n k c)) (nodes_in_cond (fed_cond i n k d)) h (cond-nodes c) (cond-nodes d)
    cond-nodes (or c d) h = both-parts (nodes_in_cond c) (nodes_in_cond d) (nodes_in_cond (fed_cond i n k c)) (nodes_in_cond (fed_cond i n k d)) h (cond-nodes c) (cond-nodes d)
    cond-nodes (not c) h = cond-nodes c h
    cond-nodes (some r c) h =
        let a = and_parts (p (node.Some r)) (list_all p (nodes_in_cond c)) h in
        let u = cond-nodes c a.1 in
        elim (r == i) as (λ b. list_all p (node.Some r ∷ nodes_in_cond (cond b (and k (fed_cond i n k c)) (fed_cond i n k c))) ≡ true) [
          | true ↦ and_from (p (node.Some r)) (list_all p (nodes_in_cond k ++ nodes_in_cond (fed_cond i n k c))) a.0 (all-joined p (nodes_in_cond k) (nodes_in_cond (fed_cond i n k c)) none u)
          | false ↦ and_from (p (node.Some r)) (list_all p (nodes_in_cond (fed_cond i n k c))) a.0 u
        ]
    cond-nodes (every r c) h =
        let a = and_parts (p (node.Every r)) (list_all p (nodes_in_cond c)) h in
        let u = cond-nodes c a.1 in
        elim (r == i) as (λ b. list_all p (node.Every r ∷ nodes_in_cond (cond b (or (not k) (fed_cond i n k c)) (fed_cond i n k c))) ≡ true) [
          | true ↦ and_from (p (node.Every r)) (list_all p (nodes_in_cond k ++ nodes_in_cond (fed_cond i n k c))) a.0 (all-joined p (nodes_in_cond k) (nodes_in_cond (fed_cond i n k c)) none u)
          | false ↦ and_from (p (node.Every r)) (list_all p (nodes_in_cond (fed_cond i n k c))) a.0 u
        ]

  pub heads-nodes : (xs : List Term) → list_all p (flat_map nodes_in xs) ≡ true → list_all p (flat_map nodes_in (map (fed_term i n k) xs)) ≡ true
  heads-nodes [] h = refl
  heads-nodes (x ∷ xs) h = both-parts (nodes_in x) (flat_map nodes_in xs) (nodes_in (fed_term i n k x)) (flat_map nodes_in (map (fed_term i n k) xs)) h (term-nodes x) (heads-nodes xs)

  pub conds-nodes : (xs : List Cond) → list_all p (flat_map nodes_in_cond xs) ≡ true → list_all p (flat_map nodes_in_cond (map (fed_cond i n k) xs)) ≡ true
  conds-nodes [] h = refl
  conds-nodes (x ∷ xs) h = both-parts (nodes_in_cond x) (flat_map nodes_in_cond xs) (nodes_in_cond (fed_cond i n k x)) (flat_map nodes_in_cond (map (fed_cond i n k) xs)) h (cond-nodes x) (conds-nodes xs)

-- ---- what a search finds in b, where it finds nothing in the join

module _ (i n : ℕ) (k : Cond) (w : Wanted) (none : any_in_cond w k ≡ false) (same-up : (j : ℕ) → w.column i (up n j) ≡ w.column i j) where
  mutual
    term-same : (x : Term) → any_in w (fed_term i n k x) ≡ any_in w x
    term-same (int m) = refl
    term-same (text s) = refl
    term-same null_int = refl
    term-same null_text = refl
    term-same (col r j) = elim (cases_Bool (r == i)) [
      | inl t ↦ ap (λ b. any_in w (cond b (col r (up n j)) (col r j))) t ∙ subst (λ z. w.column z (up n j) ≡ w.column z j) (sym (eqb-true r i t)) (same-up j)
      | inr t ↦ ap (λ b. any_in w (cond b (col r (up n j)) (col r j))) t
    ]
    term-same (both o x y) = ap₂ (λ a b. a || b) (term-same x) (term-same y)
    term-same (minus_of x) = term-same x
    term-same (choose s x) = ap₂ (λ a b. a || b) (arms-same s) (term-same x)
    term-same count_all = refl
    term-same (fold f d x) = ap (λ a. w.aggregate || a) (term-same x)
    term-same (scalar r) = refl

    arms-same : (s : Arms) → any_in_arms w (fed_arms i n k s) ≡ any_in_arms w s
    arms-same no_arm = refl
    arms-same (arm c x s) = ap₂ (λ a b. a || b) (cond-same c) (ap₂ (λ a b. a || b) (term-same x) (arms-same s))

    cond-same : (c : Cond) → any_in_cond w (fed_cond i n k c) ≡ any_in_cond w c
    cond-same always = refl
    cond-same (compare s x y) = ap₂ (λ a b. a || b) (term-same x) (term-same y)
    cond-same (is_null x) = term-same x
    cond-same (and c d) = ap₂ (λ a b. a || b) (cond-same c) (cond-same d)
    cond-same (or c d) = ap₂ (λ a b. a || b) (cond-same c) (cond-same d)
    cond-same (not c) = cond-same c
    cond-same (some r c) = ap (λ z. w.node r || (w.enter r && z)) (elim (r == i) as (λ b. any_in_cond w (cond b (and k (fed_cond i n k c)) (fed_cond i n k c)) ≡ any_in_cond w c) [
      | true ↦ ap (λ b. b || any_in_cond w (fed_cond i n k c)) none ∙ cond-same c
      | false ↦ cond-same c
    ])
    cond-same (every r c) = ap (λ z. w.node r || (w.enter r && z)) (elim (r == i) as (λ b. any_in_cond w (cond b (or (not k) (fed_cond i n k c)) (fed_cond i n k c)) ≡ any_in_cond w c) [
      | true ↦ ap (λ b. b || any_in_cond w (fed_cond i n k c)) none ∙ cond-same c
      | false ↦ cond-same c
    ])

  pub heads-same : (xs : List Term) → list_any (any_in w) (map (fed_term i n k) xs) ≡ list_any (any_in w) xs
  heads-same [] = refl
  heads-same (x ∷ xs) = ap₂ (λ a b. a || b) (term-same x) (heads-same xs)

  pub conds-same : (xs : List Cond) → list_any (any_in_cond w) (map (fed_cond i n k) xs) ≡ list_any (any_in_cond w) xs
  conds-same [] = refl
  conds-same (x ∷ xs) = ap₂ (λ a b. a || b) (cond-same x) (conds-same xs)

-- ---- the join has neither

pub joins-plain : (named : ℕ → Bool) (p i w k j : ℕ) → (flat_map nodes_in_cond (joins named p i k j w) ≡ []) × (list_any has_aggregate_cond (joins named p i k j w) ≡ false)
joins-plain named p i zero k j = (refl, refl)
joins-plain named p i (suc w) k j = elim (named k) as (λ b. (flat_map nodes_in_cond (cond b (compare same (col p k) (col i j) ∷ joins named p i (suc k) (suc j) w) (joins named p i (suc k) j w)) ≡ []) × (list_any has_aggregate_cond (cond b (compare same (col p k) (col i j) ∷ joins named p i (suc k) (suc j) w) (joins named p i (suc k) j w)) ≡ false)) [
  | true ↦ joins-plain named p i w (suc k) (suc j)
  | false ↦ joins-plain named p i w (suc k) j
]

conj-plain : (ys : List Cond) (x : Cond) → nodes_in_cond x ≡ [] → has_aggregate_cond x ≡ false → flat_map nodes_in_cond ys ≡ [] → list_any has_aggregate_cond ys ≡ false → (nodes_in_cond (conj x ys) ≡ []) × (has_aggregate_cond (conj x ys) ≡ false)
conj-plain [] x n f ns fs = (n, f)
conj-plain (y ∷ ys) x n f ns fs =
    let a = none-both (nodes_in_cond y) (flat_map nodes_in_cond ys) ns in
    let o = or_parts (has_aggregate_cond y) (list_any has_aggregate_cond ys) fs in
    conj-plain ys (and x y) (ap₂ (λ (u v : List QuantNode). u ++ v) n a.0) (ap₂ (λ u v. u || v) f o.0) a.1 o.1
  where
    none-both : (xs ys : List QuantNode) → xs ++ ys ≡ [] → (xs ≡ []) × (ys ≡ [])
    none-both [] ys e = (refl, e)
    none-both (x ∷ xs) ys e = absurd (let z : ⊥ = cc in z)

pub all-plain : (ys : List Cond) → flat_map nodes_in_cond ys ≡ [] → list_any has_aggregate_cond ys ≡ false → (nodes_in_cond (all_of ys) ≡ []) × (has_aggregate_cond (all_of ys) ≡ false)
all-plain [] n f = (refl, refl)
all-plain (y ∷ ys) n f = elim (nodes_in_cond y) as (λ (xs : List QuantNode). xs ++ flat_map nodes_in_cond ys ≡ [] → nodes_in_cond y ≡ xs → (nodes_in_cond (conj y ys) ≡ []) × (has_aggregate_cond (conj y ys) ≡ false)) [
  | [] ↦ λ e s. (let o = or_parts (has_aggregate_cond y) (list_any has_aggregate_cond ys) f in conj-plain ys y s o.0 e o.1)
  | x ∷ xs ↦ λ e s. absurd (let z : ⊥ = cc in z)
] n refl

-- ---- heads of the new boxes

pub columns-bare : (q w k : ℕ) → (list_all is_column (columns_from q k w) ≡ true) × ((list_any has_aggregate (columns_from q k w) ≡ false) × (flat_map nodes_in (columns_from q k w) ≡ []))
columns-bare q zero k = (refl, (refl, refl))
columns-bare q (suc w) k = columns-bare q w (suc k)

pub picked-bare : (named : ℕ → Bool) (q w k : ℕ) → (list_any has_aggregate (picked named q k w) ≡ false) × (flat_map nodes_in (picked named q k w) ≡ [])
picked-bare named q zero k = (refl, refl)
picked-bare named q (suc w) k = elim (named k) as (λ b. (list_any has_aggregate (cond b (col q k ∷ picked named q (suc k) w) (picked named q (suc k) w)) ≡ false) × (flat_map nodes_in (cond b (col q k ∷ picked named q (suc k) w) (picked named q (suc k) w)) ≡ [])) [
  | true ↦ picked-bare named q w (suc k)
  | false ↦ picked-bare named q w (suc k)
]

pub columns-are : (q w k : ℕ) → flat_map columns_in (columns_from q k w) ≡ shapes.columns_from q k w
columns-are q zero k = refl
columns-are q (suc w) k = ap (λ (cs : List Column). record { quant = q; place = k } ∷ cs) (columns-are q w (suc k) ∙ ap (λ z. shapes.columns_from q z w) (let e : suc k ≡ k + 1 = omega arith in e))

pub same-itself : (cs : List Column) → same_columns cs cs ≡ true
same-itself [] = refl
same-itself (c ∷ cs) = and_from ((c.quant == c.quant) && (c.place == c.place)) (same_columns cs cs) (and_from (c.quant == c.quant) (c.place == c.place) (eq-itself c.quant) (eq-itself c.place)) (same-itself cs)

-- what stands for a named column reads the quantifier
pub put-reads : (named : ℕ → Bool) (q w k j m z : ℕ) → z ≡ m + k → named z ≡ true → m < w → reads q (get_or (put_cells named q k j w) m null_int) ≡ true
put-reads named q zero k j m z s e o = absurd (omega arith)
put-reads named q (suc w) k j zero z s e o =
    let h : k ≡ z = omega (arith, s) in
    elim (named k) as (λ b. named k ≡ b → reads q (get_or (cond b (col q j ∷ put_cells named q (suc k) (suc j) w) (null_int ∷ put_cells named q (suc k) j w)) zero null_int) ≡ true) [
      | true ↦ λ f. eq-itself q
      | false ↦ λ f. absurd (clash (named z) e (subst (λ y. named y ≡ false) h f))
    ] refl
put-reads named q (suc w) k j (suc m) z s e o = elim (named k) as (λ b. reads q (get_or (cond b (col q j ∷ put_cells named q (suc k) (suc j) w) (null_int ∷ put_cells named q (suc k) j w)) (suc m) null_int) ≡ true) [
  | true ↦ put-reads named q w (suc k) (suc j) m z (omega (arith, s)) e (omega (arith, o))
  | false ↦ put-reads named q w (suc k) j m z (omega (arith, s)) e (omega (arith, o))
]

-- and no other one
pub put-reads-none : (named : ℕ → Bool) (q y w k j m : ℕ) → (q == y) ≡ false → reads y (get_or (put_cells named q k j w) m null_int) ≡ false
put-reads-none named q y zero k j m f = refl
put-reads-none named q y (suc w) k j m f = elim (named k) as (λ b. reads y (get_or (cond b (col q j ∷ put_cells named q (suc k) (suc j) w) (null_int ∷ put_cells named q (suc k) j w)) m null_int) ≡ false) [
  | true ↦ at m (λ m. put-reads-none named q y w (suc k) (suc j) m f)
  | false ↦ at-null m (λ m. put-reads-none named q y w (suc k) j m f)
]
  where
    at : (m : ℕ) → ((m : ℕ) → reads y (get_or (put_cells named q (suc k) (suc j) w) m null_int) ≡ false) → reads y (get_or (col q j ∷ put_cells named q (suc k) (suc j) w) m null_int) ≡ false
    at zero rec = f
    at (suc m) rec = rec m

    at-null : (m : ℕ) → ((m : ℕ) → reads y (get_or (put_cells named q (suc k) j w) m null_int) ≡ false) → reads y (get_or (null_int ∷ put_cells named q (suc k) j w) m null_int) ≡ false
    at-null zero rec = refl
    at-null (suc m) rec = rec m

pub columns-reads-none : (q y w k m : ℕ) → (q == y) ≡ false → reads y (get_or (columns_from q k w) m null_int) ≡ false
columns-reads-none q y zero k m f = refl
columns-reads-none q y (suc w) k zero f = f
columns-reads-none q y (suc w) k (suc m) f = columns-reads-none q y w (suc k) m f

-- cells that hold no aggregate
pub put-folds : (named : ℕ → Bool) (q w k j : ℕ) → list_any has_aggregate (put_cells named q k j w) ≡ false
put-folds named q zero k j = refl
put-folds named q (suc w) k j = elim (named k) as (λ b. list_any has_aggregate (cond b (col q j ∷ put_cells named q (suc k) (suc j) w) (null_int ∷ put_cells named q (suc k) j w)) ≡ false) [
  | true ↦ put-folds named q w (suc k) (suc j)
  | false ↦ put-folds named q w (suc k) j
]
