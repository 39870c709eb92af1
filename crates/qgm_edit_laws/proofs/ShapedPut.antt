-- What shapes ask of cells and conditions, where cells are put in.
use Rattle.std.specs.Prelude.{not as no}
use Rattle.std.proofs.Common.{ℕ, zero, suc, ◌+◌, ◌==◌, ◌≡◌, ◌&&◌, ◌||◌, cond, Bool, true, false, List, [], ◌∷◌, ◌++◌, map, refl, sym, ap, ap₂, subst, ◌∙◌, eqb-true, inl, inr}
use Rattle.std.specs.List.{list_all, list_any, flat_map}
use Rattle.std.proofs.lemmas.Bool.{and_from, and_parts, cases_Bool, or_from, or_left, or_parts, or_right}
use Rattle.qgm_core.specs.Boxes.{owns}
use Rattle.list_laws.specs.Lists.{holds}
use Rattle.qgm_core.specs.declared.node.Node.{Node}
use Rattle.qgm_terms.specs.Gathered.{listed_arms}
use Rattle.qgm_terms.specs.Named.{columns_in, names_in, nodes_in, nodes_in_cond}
use Rattle.qgm_terms.specs.Named as named
use Rattle.qgm_terms.specs.Substitution.{cell_at, substituted, substituted_arms, substituted_cond}
use Rattle.qgm_terms.specs.Terms.{Term, int, text, null_int, null_text, col, both, minus_of, choose, count_all, fold, scalar, Arms, no_arm, arm, Cond, always, compare, is_null, and, or, not, some, every}
use Rattle.qgm_terms.specs.Wanted.{Wanted, any_in, any_in_arms, any_in_cond, reads, reads_at, reads_at_cond}
use Rattle.qgm_terms.specs.declared.named.Column.{Column}
use Rattle.qgm_terms.specs.declared.named.QuantNode.{QuantNode}
use Rattle.qgm_terms.specs.declared.named.QuantNode.TheVariants as node
use Rattle.qgm_wellformed.specs.Shapes.{columns_from, head_is_own, heads_are, is_column, same_columns}
use Rattle.qgm_meaning.specs.Searches.{names, names_arms, names_cond, reads_at_arms}
use Rattle.qgm_edit_laws.proofs.AnyPut.{heads-more}
use Rattle.qgm_edit_laws.proofs.Naming.{any-same, holds-each, names-any, says}
use Rattle.list_laws.proofs.Membership.{all-in, eq-itself, holds-in}
use Rattle.list_laws.proofs.Booleans.{clash}

-- ---- a search that finds in each cell what it finds in the column finds the same

module _ (q : ℕ) (cells : List Term) (w : Wanted) (alike : (k : ℕ) → any_in w (cell_at k cells) ≡ w.column q k) where
  within : (r : ℕ) (c : Cond) → any_in_cond w (substituted_cond q cells c) ≡ any_in_cond w c → any_in_cond w (cond (r == q) c (substituted_cond q cells c)) ≡ any_in_cond w c
  within r c h = elim (r == q) as (λ t. any_in_cond w (cond t c (substituted_cond q cells c)) ≡ any_in_cond w c) [ true ↦ refl | false ↦ h ]

  mutual
    pub term-same : (x : Term) → any_in w (substituted q cells x) ≡ any_in w x
    term-same (int n) = refl
    term-same (text s) = refl
    term-same null_int = refl
    term-same null_text = refl
    term-same (col r k) = elim (r == q) as (λ t. (r == q) ≡ t → any_in w (cond t (cell_at k cells) (col r k)) ≡ w.column r k) [
      | true ↦ λ e. alike k ∙ ap (λ z. w.column z k) (sym (eqb-true r q e))
      | false ↦ λ e. refl
    ] refl
    term-same (both o x y) = ap₂ (λ a b. a || b) (term-same x) (term-same y)
    term-same (minus_of x) = term-same x
    term-same (choose s x) = ap₂ (λ a b. a || b) (arms-same s) (term-same x)
    term-same count_all = refl
    term-same (fold f t x) = ap (λ a. w.aggregate || a) (term-same x)
    term-same (scalar r) = refl

    arms-same : (s : Arms) → any_in_arms w (substituted_arms q cells s) ≡ any_in_arms w s
    arms-same no_arm = refl
    arms-same (arm c x s) = ap₂ (λ a b. a || b) (cond-same c) (ap₂ (λ a b. a || b) (term-same x) (arms-same s))

    pub cond-same : (c : Cond) → any_in_cond w (substituted_cond q cells c) ≡ any_in_cond w c
    cond-same always = refl
    cond-same (compare sign x y) = ap₂ (λ a b. a || b) (term-same x) (term-same y)
    cond-same (is_null x) = term-same x
    cond-same (and c d) = ap₂ (λ a b. a || b) (cond-same c) (cond-same d)
    cond-same (or c d) = ap₂ (λ a b. a || b) (cond-same c) (cond-same d)
    cond-same (not c) = cond-same c
    cond-same (some r c) = ap (λ z. w.node r || (w.enter r && z)) (within r c (cond-same c))
    cond-same (every r c) = ap (λ z. w.node r || (w.enter r && z)) (within r c (cond-same c))

  pub heads-same : (xs : List Term) → list_any (any_in w) (map (substituted q cells) xs) ≡ list_any (any_in w) xs
  heads-same [] = refl
  heads-same (x ∷ xs) = ap₂ (λ a b. a || b) (term-same x) (heads-same xs)

  pub conds-same : (xs : List Cond) → list_any (any_in_cond w) (map (substituted_cond q cells) xs) ≡ list_any (any_in_cond w) xs
  conds-same [] = refl
  conds-same (x ∷ xs) = ap₂ (λ a b. a || b) (cond-same x) (conds-same xs)

-- ---- what holds of all scalars, somes and everys, and of those in the cells that are put in, holds of all after

pub all-parts : {X : Type 0} (p : X → Bool) (xs ys : List X) → list_all p (xs ++ ys) ≡ true → (list_all p xs ≡ true) × (list_all p ys ≡ true)
all-parts p [] ys h = (refl, h)
all-parts p (x ∷ xs) ys h = let a = and_parts (p x) (list_all p (xs ++ ys)) h in let b = all-parts p xs ys a.1 in (and_from (p x) (list_all p xs) a.0 b.0, b.1)

pub all-joined : {X : Type 0} (p : X → Bool) (xs ys : List X) → list_all p xs ≡ true → list_all p ys ≡ true → list_all p (xs ++ ys) ≡ true
all-joined p [] ys h k = k
all-joined p (x ∷ xs) ys h k = let a = and_parts (p x) (list_all p xs) h in and_from (p x) (list_all p (xs ++ ys)) a.0 (all-joined p xs ys a.1 k)

module _ (q : ℕ) (cells : List Term) (p : QuantNode → Bool) where
  -- the nodes of the cell for column k pass
  abbrev pub Passes : ℕ → Type 0
  Passes k = list_all p (nodes_in (cell_at k cells)) ≡ true

  two : (n m : Bool) (xs ys xs' ys' : List QuantNode) → (n || m) ≡ false → (n ≡ false → list_all p xs ≡ true → list_all p xs' ≡ true) → (m ≡ false → list_all p ys ≡ true → list_all p ys' ≡ true) → list_all p (xs ++ ys) ≡ true → list_all p (xs' ++ ys') ≡ true
  two n m xs ys xs' ys' o f g h = let a = all-parts p xs ys h in let z = or_parts n m o in all-joined p xs' ys' (f z.0 a.0) (g z.1 a.1)

  node-fits : (x : QuantNode) (r : ℕ) (c : Cond) → ((k : ℕ) → (no (r == q) && reads_at_cond q k c) ≡ true → Passes k)
      → (((k : ℕ) → reads_at_cond q k c ≡ true → Passes k) → names_cond q c ≡ false → list_all p (nodes_in_cond c) ≡ true → list_all p (nodes_in_cond (substituted_cond q cells c)) ≡ true)
      → ((r == q) || names_cond q c) ≡ false → list_all p (x ∷ nodes_in_cond c) ≡ true → list_all p (x ∷ nodes_in_cond (cond (r == q) c (substituted_cond q cells c))) ≡ true
  node-fits x r c f g o h =
      let z = or_parts (r == q) (names_cond q c) o in
      let a = and_parts (p x) (list_all p (nodes_in_cond c)) h in
      ap (λ t. list_all p (x ∷ nodes_in_cond (cond t c (substituted_cond q cells c)))) z.0
      ∙ and_from (p x) (list_all p (nodes_in_cond (substituted_cond q cells c))) a.0 (g (λ k i. f k (ap (λ t. no t && reads_at_cond q k c) z.0 ∙ i)) z.1 a.1)

  mutual
    pub term-fits : (x : Term) → ((k : ℕ) → reads_at q k x ≡ true → Passes k) → names q x ≡ false → list_all p (nodes_in x) ≡ true → list_all p (nodes_in (substituted q cells x)) ≡ true
    term-fits (int n) f o h = refl
    term-fits (text s) f o h = refl
    term-fits null_int f o h = refl
    term-fits null_text f o h = refl
    term-fits (col r k) f o h = elim (r == q) as (λ t. ((r == q) ≡ t) → list_all p (nodes_in (cond t (cell_at k cells) (col r k))) ≡ true) [
      | true ↦ λ e. f k (and_from (r == q) (k == k) e (eq-itself k))
      | false ↦ λ e. refl
    ] refl
    term-fits (both b x y) f o h =
        two (names q x) (names q y) (nodes_in x) (nodes_in y) (nodes_in (substituted q cells x)) (nodes_in (substituted q cells y)) o
        (term-fits x (λ k i. f k (or_left (reads_at q k x) (reads_at q k y) i))) (term-fits y (λ k i. f k (or_right (reads_at q k x) (reads_at q k y) i))) h
    term-fits (minus_of x) f o h = term-fits x f o h
    term-fits (choose s x) f o h =
        two (names_arms q s) (names q x) (listed_arms named.nodes s) (nodes_in x) (listed_arms named.nodes (substituted_arms q cells s)) (nodes_in (substituted q cells x)) o
        (arms-fits s (λ k i. f k (or_left (reads_at_arms q k s) (reads_at q k x) i))) (term-fits x (λ k i. f k (or_right (reads_at_arms q k s) (reads_at q k x) i))) h
    term-fits count_all f o h = refl
    term-fits (fold a t x) f o h = term-fits x f o h
    term-fits (scalar r) f o h = h

    arms-fits : (s : Arms) → ((k : ℕ) → reads_at_arms q k s ≡ true → Passes k) → names_arms q s ≡ false → list_all p (listed_arms named.nodes s) ≡ true → list_all p (listed_arms named.nodes (substituted_arms q cells s)) ≡ true
    arms-fits no_arm f o h = refl
    arms-fits (arm c x s) f o h =
        two (names_cond q c) (names q x || names_arms q s) (nodes_in_cond c) (nodes_in x ++ listed_arms named.nodes s) (nodes_in_cond (substituted_cond q cells c)) (nodes_in (substituted q cells x) ++ listed_arms named.nodes (substituted_arms q cells s)) o
        (cond-fits c (λ k i. f k (or_left (reads_at_cond q k c) (reads_at q k x || reads_at_arms q k s) i)))
        (λ o h. two (names q x) (names_arms q s) (nodes_in x) (listed_arms named.nodes s) (nodes_in (substituted q cells x)) (listed_arms named.nodes (substituted_arms q cells s)) o
        (term-fits x (λ k i. f k (or_right (reads_at_cond q k c) (reads_at q k x || reads_at_arms q k s) (or_left (reads_at q k x) (reads_at_arms q k s) i))))
        (arms-fits s (λ k i. f k (or_right (reads_at_cond q k c) (reads_at q k x || reads_at_arms q k s) (or_right (reads_at q k x) (reads_at_arms q k s) i)))) h) h

    pub cond-fits : (c : Cond) → ((k : ℕ) → reads_at_cond q k c ≡ true → Passes k) → names_cond q c ≡ false → list_all p (nodes_in_cond c) ≡ true → list_all p (nodes_in_cond (substituted_cond q cells c)) ≡ true
    cond-fits always f o h = refl
    cond-fits (compare sign x y) f o h =
        two (names q x) (names q y) (nodes_in x) (nodes_in y) (nodes_in (substituted q cells x)) (nodes_in (substituted q cells y)) o
        (term-fits x (λ k i. f k (or_left (reads_at q k x) (reads_at q k y) i))) (term-fits y (λ k i. f k (or_right (reads_at q k x) (reads_at q k y) i))) h
    cond-fits (is_null x) f o h = term-fits x f o h
    cond-fits (and c d) f o h =
        two (names_cond q c) (names_cond q d) (nodes_in_cond c) (nodes_in_cond d) (nodes_in_cond (substituted_cond q cells c)) (nodes_in_cond (substituted_cond q cells d)) o
        (cond-fits c (λ k i. f k (or_left (reads_at_cond q k c) (reads_at_cond q k d) i))) (cond-fits d (λ k i. f k (or_right (reads_at_cond q k c) (reads_at_cond q k d) i))) h
    cond-fits (or c d) f o h =
        two (names_cond q c) (names_cond q d) (nodes_in_cond c) (nodes_in_cond d) (nodes_in_cond (substituted_cond q cells c)) (nodes_in_cond (substituted_cond q cells d)) o
        (cond-fits c (λ k i. f k (or_left (reads_at_cond q k c) (reads_at_cond q k d) i))) (cond-fits d (λ k i. f k (or_right (reads_at_cond q k c) (reads_at_cond q k d) i))) h
    cond-fits (not c) f o h = cond-fits c f o h
    cond-fits (some r c) f o h = node-fits (node.Some r) r c f (cond-fits c) o h
    cond-fits (every r c) f o h = node-fits (node.Every r) r c f (cond-fits c) o h

  pub heads-fit : (xs : List Term) → ((k : ℕ) → list_any (reads_at q k) xs ≡ true → Passes k) → list_any (names q) xs ≡ false → list_all p (flat_map nodes_in xs) ≡ true → list_all p (flat_map nodes_in (map (substituted q cells) xs)) ≡ true
  heads-fit [] f o h = refl
  heads-fit (x ∷ xs) f o h =
      two (names q x) (list_any (names q) xs) (nodes_in x) (flat_map nodes_in xs) (nodes_in (substituted q cells x)) (flat_map nodes_in (map (substituted q cells) xs)) o
      (term-fits x (λ k i. f k (or_left (reads_at q k x) (list_any (reads_at q k) xs) i))) (heads-fit xs (λ k i. f k (or_right (reads_at q k x) (list_any (reads_at q k) xs) i))) h

  pub conds-fit : (xs : List Cond) → ((k : ℕ) → list_any (reads_at_cond q k) xs ≡ true → Passes k) → list_any (names_cond q) xs ≡ false → list_all p (flat_map nodes_in_cond xs) ≡ true → list_all p (flat_map nodes_in_cond (map (substituted_cond q cells) xs)) ≡ true
  conds-fit [] f o h = refl
  conds-fit (x ∷ xs) f o h =
      two (names_cond q x) (list_any (names_cond q) xs) (nodes_in_cond x) (flat_map nodes_in_cond xs) (nodes_in_cond (substituted_cond q cells x)) (flat_map nodes_in_cond (map (substituted_cond q cells) xs)) o
      (cond-fits x (λ k i. f k (or_left (reads_at_cond q k x) (list_any (reads_at_cond q k) xs) i))) (conds-fit xs (λ k i. f k (or_right (reads_at_cond q k x) (list_any (reads_at_cond q k) xs) i))) h

-- ---- heads in which a quantifier of another box isn't named

-- a head that names own quantifiers alone doesn't read another
pub own-unread : (q : ℕ) (y : Node) → head_is_own y ≡ true → owns q y ≡ false → list_any (reads q) y.parts.head ≡ false
own-unread q y h o = elim (cases_Bool (list_any (reads q) y.parts.head)) [
  | inr f ↦ f
  | inl t ↦ absurd (clash (owns q y) (all-in (λ q. owns q y) q (flat_map names_in y.parts.head) h (holds-in q (flat_map names_in y.parts.head)
      (holds-each q names_in y.parts.head ∙ any-same (λ x. holds q (names_in x)) (says q) y.parts.head (names-any q) ∙ heads-more (λ r j. r == q) (λ r k. r == q) (λ r. false) (λ r. r == q) (λ r. false) (λ r. r == q) (λ r. no (r == q)) (λ r. true) (λ r j h. h) (λ r h. absurd (let z : ⊥ = cc in z)) (λ r h. absurd (let z : ⊥ = cc in z)) (λ r h. refl) y.parts.head t))) o)
]

-- a column of q
abbrev pub of_quant : ℕ → Column → Bool
of_quant q c = c.quant == q

columns-read : (q : ℕ) (xs : List Term) → list_all is_column xs ≡ true → list_any (reads q) xs ≡ list_any (of_quant q) (flat_map columns_in xs)
columns-read q [] h = refl
columns-read q (x ∷ xs) h = let a = and_parts (is_column x) (list_all is_column xs) h in by x a.0 (columns-read q xs a.1)
  where
    by : (x : Term) → is_column x ≡ true → list_any (reads q) xs ≡ list_any (of_quant q) (flat_map columns_in xs) → (reads q x || list_any (reads q) xs) ≡ list_any (of_quant q) (columns_in x ++ flat_map columns_in xs)
    by (int n) h e = absurd (let z : ⊥ = cc in z)
    by (text s) h e = absurd (let z : ⊥ = cc in z)
    by null_int h e = absurd (let z : ⊥ = cc in z)
    by null_text h e = absurd (let z : ⊥ = cc in z)
    by (col r k) h e = ap (λ z. (r == q) || z) e
    by (both o x y) h e = absurd (let z : ⊥ = cc in z)
    by (minus_of x) h e = absurd (let z : ⊥ = cc in z)
    by (choose s x) h e = absurd (let z : ⊥ = cc in z)
    by count_all h e = absurd (let z : ⊥ = cc in z)
    by (fold f t x) h e = absurd (let z : ⊥ = cc in z)
    by (scalar r) h e = absurd (let z : ⊥ = cc in z)

same-quants : (q : ℕ) (cs ds : List Column) → same_columns cs ds ≡ true → list_any (of_quant q) ds ≡ false → list_any (of_quant q) cs ≡ false
same-quants q [] ds h n = refl
same-quants q (c ∷ cs) [] h n = absurd (let z : ⊥ = cc in z)
same-quants q (c ∷ cs) (d ∷ ds) h n =
    let a = and_parts ((c.quant == d.quant) && (c.place == d.place)) (same_columns cs ds) h in
    let b = and_parts (c.quant == d.quant) (c.place == d.place) a.0 in
    let z = or_parts (d.quant == q) (list_any (of_quant q) ds) n in
    or_from (c.quant == q) (list_any (of_quant q) cs) (subst (λ k. (k == q) ≡ false) (sym (eqb-true c.quant d.quant b.0)) z.0) (same-quants q cs ds a.1 z.1)

pub columns-none : (q p k w : ℕ) → (p == q) ≡ false → list_any (of_quant q) (columns_from p k w) ≡ false
columns-none q p k zero h = refl
columns-none q p k (suc w) h = or_from (p == q) (list_any (of_quant q) (columns_from p (k + 1) w)) h (columns-none q p (k + 1) w h)

-- a head of columns of others doesn't read q
pub columns-unread : (q : ℕ) (head : List Term) (columns : List Column) → heads_are head columns ≡ true → list_any (of_quant q) columns ≡ false → list_any (reads q) head ≡ false
columns-unread q head columns h n =
    let a = and_parts (list_all is_column head) (same_columns (flat_map columns_in head) columns) h in
    columns-read q head a.0 ∙ same-quants q (flat_map columns_in head) columns a.1 n
