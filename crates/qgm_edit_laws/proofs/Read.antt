-- What is named is read or is a node's, and is listed where it stands.
use Rattle.std.proofs.Common.{ℕ, ◌==◌, ◌≡◌, ◌&&◌, ◌||◌, Bool, true, false, List, [], ◌∷◌, ◌++◌, refl, sym, ap, ap₂, ◌∙◌, inl, inr}
use Rattle.std.specs.List.{list_any, flat_map}
use Rattle.std.proofs.lemmas.Bool.{and_parts, or_cases, or_left, or_parts, or_right}
use Rattle.qgm_core.specs.declared.node.Node.{Node}
use Rattle.qgm_core.specs.Free.{named_by}
use Rattle.list_laws.specs.Lists.{holds}
use Rattle.qgm_meaning.specs.Scope.{read_by}
use Rattle.qgm_meaning.specs.Searches.{binds, binds_arms, binds_cond, looking, names, names_arms, names_cond, reads_arms, reads_at_arms}
use Rattle.qgm_terms.specs.Gathered.{listed_arms}
use Rattle.qgm_terms.specs.Named.{columns_in, columns_in_cond, nodes_in_cond}
use Rattle.qgm_terms.specs.Named as named
use Rattle.qgm_terms.specs.Terms.{Term, int, text, null_int, null_text, col, both, minus_of, choose, count_all, fold, scalar, Arms, no_arm, arm, Cond, always, compare, is_null, and, or, not, some, every}
use Rattle.qgm_terms.specs.Wanted.{any_in, any_in_arms, any_in_cond, reads, reads_at, reads_at_cond, reads_cond}
use Rattle.qgm_terms.specs.declared.named.Column.{Column}
use Rattle.qgm_terms.specs.declared.named.QuantNode.{QuantNode}
use Rattle.qgm_terms.specs.declared.named.QuantNode.TheVariants as node
use Rattle.qgm_wellformed.specs.Columns.{columns_of}
use Rattle.qgm_wellformed.specs.Shapes.{nodes_of}
use Rattle.qgm_edit_laws.specs.Graph.{nodes_in, reads_in}
use Rattle.qgm_edit_laws.proofs.AnyPut.{conds-more, heads-more}
use Rattle.qgm_edit_laws.proofs.Naming.{any-same, named-any, says, says_arms, says_cond}
use Rattle.std.specs.Prelude as prelude
use Rattle.list_laws.proofs.Booleans.{or-false}

module _ (p : ℕ) where
  mix : (a b r s m n : Bool) → (a ≡ true → (r || m) ≡ true) → (b ≡ true → (s || n) ≡ true) → (a || b) ≡ true → ((r || s) || (m || n)) ≡ true
  mix a b true s m n h k t = refl
  mix a b false true m n h k t = refl
  mix a b false false true n h k t = refl
  mix a b false false false n h k t = elim (or_cases a b t) [ inl x ↦ absurd (let z : false ≡ true = h x in let y : ⊥ = cc in y) | inr x ↦ k x ]

  inside : (r : ℕ) (c : Cond) → (says_cond p c ≡ true → (reads_cond p c || names_cond p c) ≡ true) → ((r == p) || says_cond p c) ≡ true → ((prelude.not (r == p) && reads_cond p c) || ((r == p) || names_cond p c)) ≡ true
  inside r c h t = elim (r == p) as (λ b. (b || says_cond p c) ≡ true → ((prelude.not b && reads_cond p c) || (b || names_cond p c)) ≡ true) [ true ↦ λ t. refl | false ↦ λ t. h t ] t

  mutual
    pub term-split : (x : Term) → says p x ≡ true → (reads p x || names p x) ≡ true
    term-split (int n) h = h
    term-split (text s) h = h
    term-split null_int h = h
    term-split null_text h = h
    term-split (col r k) h = or_left (r == p) false h
    term-split (both o x y) h = mix (says p x) (says p y) (reads p x) (reads p y) (names p x) (names p y) (term-split x) (term-split y) h
    term-split (minus_of x) h = term-split x h
    term-split (choose s x) h = mix (says_arms p s) (says p x) (reads_arms p s) (reads p x) (names_arms p s) (names p x) (arms-split s) (term-split x) h
    term-split count_all h = h
    term-split (fold f t x) h = term-split x h
    term-split (scalar r) h = h

    arms-split : (s : Arms) → says_arms p s ≡ true → (reads_arms p s || names_arms p s) ≡ true
    arms-split no_arm h = h
    arms-split (arm c x s) h = mix (says_cond p c) (says p x || says_arms p s) (reads_cond p c) (reads p x || reads_arms p s) (names_cond p c) (names p x || names_arms p s) (cond-split c)
        (mix (says p x) (says_arms p s) (reads p x) (reads_arms p s) (names p x) (names_arms p s) (term-split x) (arms-split s)) h

    pub cond-split : (c : Cond) → says_cond p c ≡ true → (reads_cond p c || names_cond p c) ≡ true
    cond-split always h = h
    cond-split (compare sign x y) h = mix (says p x) (says p y) (reads p x) (reads p y) (names p x) (names p y) (term-split x) (term-split y) h
    cond-split (is_null x) h = term-split x h
    cond-split (and c d) h = mix (says_cond p c) (says_cond p d) (reads_cond p c) (reads_cond p d) (names_cond p c) (names_cond p d) (cond-split c) (cond-split d) h
    cond-split (or c d) h = mix (says_cond p c) (says_cond p d) (reads_cond p c) (reads_cond p d) (names_cond p c) (names_cond p d) (cond-split c) (cond-split d) h
    cond-split (not c) h = cond-split c h
    cond-split (some r c) h = inside r c (cond-split c) h
    cond-split (every r c) h = inside r c (cond-split c) h

  heads-split : (xs : List Term) → list_any (says p) xs ≡ true → (list_any (reads p) xs || list_any (names p) xs) ≡ true
  heads-split [] h = h
  heads-split (x ∷ xs) h = mix (says p x) (list_any (says p) xs) (reads p x) (list_any (reads p) xs) (names p x) (list_any (names p) xs) (term-split x) (heads-split xs) h

  conds-split : (xs : List Cond) → list_any (says_cond p) xs ≡ true → (list_any (reads_cond p) xs || list_any (names_cond p) xs) ≡ true
  conds-split [] h = h
  conds-split (x ∷ xs) h = mix (says_cond p x) (list_any (says_cond p) xs) (reads_cond p x) (list_any (reads_cond p) xs) (names_cond p x) (list_any (names_cond p) xs) (cond-split x) (conds-split xs) h

  -- what a box names it reads, or a node of it is of
  pub named-split : (n : Node) → holds p (named_by n) ≡ true → (read_by n p || nodes_in p n) ≡ true
  named-split n h = mix (list_any (says p) n.parts.head) (list_any (says_cond p) n.parts.conds.items) (list_any (reads p) n.parts.head) (list_any (reads_cond p) n.parts.conds.items) (list_any (names p) n.parts.head) (list_any (names_cond p) n.parts.conds.items)
      (heads-split n.parts.head) (conds-split n.parts.conds.items) (sym (named-any p n) ∙ h)

  pub read-named : (n : Node) → read_by n p ≡ true → holds p (named_by n) ≡ true
  read-named n h = named-any p n ∙ (elim (or_cases (list_any (reads p) n.parts.head) (list_any (reads_cond p) n.parts.conds.items) h) [
    | inl a ↦ or_left (list_any (says p) n.parts.head) (list_any (says_cond p) n.parts.conds.items) (heads-more (λ r j. r == p) (λ r k. r == p) (λ r. false) (λ r. r == p) (λ r. false) (λ r. r == p) (λ r. prelude.not (r == p)) (λ r. true) (λ r j h. h) (λ r h. absurd (let z : ⊥ = cc in z)) (λ r h. absurd (let z : ⊥ = cc in z)) (λ r h. refl) n.parts.head a)
    | inr a ↦ or_right (list_any (says p) n.parts.head) (list_any (says_cond p) n.parts.conds.items) (conds-more (λ r j. r == p) (λ r k. r == p) (λ r. false) (λ r. r == p) (λ r. false) (λ r. r == p) (λ r. prelude.not (r == p)) (λ r. true) (λ r j h. h) (λ r h. absurd (let z : ⊥ = cc in z)) (λ r h. absurd (let z : ⊥ = cc in z)) (λ r h. refl) n.parts.conds.items a)
  ])

-- ---- lists of nodes and of columns

pub any-both : {X : Type 0} (f : X → Bool) (xs ys : List X) → list_any f (xs ++ ys) ≡ (list_any f xs || list_any f ys)
any-both f [] ys = refl
any-both f (x ∷ xs) ys = ap (λ z. f x || z) (any-both f xs ys) ∙ shift (f x) (list_any f xs) (list_any f ys)
  where
    shift : (a b c : Bool) → (a || (b || c)) ≡ ((a || b) || c)
    shift true b c = refl
    shift false b c = refl

pub any-each : {X Y : Type 0} (f : Y → Bool) (g : X → List Y) (xs : List X) → list_any f (flat_map g xs) ≡ list_any (λ x. list_any f (g x)) xs
any-each f g [] = refl
any-each f g (x ∷ xs) = any-both f (g x) (flat_map g xs) ∙ ap (λ z. list_any f (g x) || z) (any-each f g xs)

-- a node of q
abbrev pub is_of : ℕ → QuantNode → Bool
is_of q (node.Scalar r) = r == q
is_of q (node.Some r) = r == q
is_of q (node.Every r) = r == q

module _ (q : ℕ) where
  mutual
    pub term-nodes : (x : Term) → list_any (is_of q) (named.nodes_in x) ≡ names q x
    term-nodes (int n) = refl
    term-nodes (text s) = refl
    term-nodes null_int = refl
    term-nodes null_text = refl
    term-nodes (col r k) = refl
    term-nodes (both o x y) = any-both (is_of q) (named.nodes_in x) (named.nodes_in y) ∙ ap₂ (λ a b. a || b) (term-nodes x) (term-nodes y)
    term-nodes (minus_of x) = term-nodes x
    term-nodes (choose s x) = any-both (is_of q) (listed_arms named.nodes s) (named.nodes_in x) ∙ ap₂ (λ a b. a || b) (arms-nodes s) (term-nodes x)
    term-nodes count_all = refl
    term-nodes (fold f t x) = term-nodes x
    term-nodes (scalar r) = or-false (r == q)

    arms-nodes : (s : Arms) → list_any (is_of q) (listed_arms named.nodes s) ≡ names_arms q s
    arms-nodes no_arm = refl
    arms-nodes (arm c x s) = any-both (is_of q) (nodes_in_cond c) (named.nodes_in x ++ listed_arms named.nodes s) ∙ ap₂ (λ a b. a || b) (cond-nodes c) (any-both (is_of q) (named.nodes_in x) (listed_arms named.nodes s) ∙ ap₂ (λ a b. a || b) (term-nodes x) (arms-nodes s))

    pub cond-nodes : (c : Cond) → list_any (is_of q) (nodes_in_cond c) ≡ names_cond q c
    cond-nodes always = refl
    cond-nodes (compare sign x y) = any-both (is_of q) (named.nodes_in x) (named.nodes_in y) ∙ ap₂ (λ a b. a || b) (term-nodes x) (term-nodes y)
    cond-nodes (is_null x) = term-nodes x
    cond-nodes (and c d) = any-both (is_of q) (nodes_in_cond c) (nodes_in_cond d) ∙ ap₂ (λ a b. a || b) (cond-nodes c) (cond-nodes d)
    cond-nodes (or c d) = any-both (is_of q) (nodes_in_cond c) (nodes_in_cond d) ∙ ap₂ (λ a b. a || b) (cond-nodes c) (cond-nodes d)
    cond-nodes (not c) = cond-nodes c
    cond-nodes (some r c) = ap (λ z. (r == q) || z) (cond-nodes c)
    cond-nodes (every r c) = ap (λ z. (r == q) || z) (cond-nodes c)

  pub nodes-listed : (n : Node) → list_any (is_of q) (nodes_of n) ≡ nodes_in q n
  nodes-listed n = any-both (is_of q) (flat_map named.nodes_in n.parts.head) (flat_map nodes_in_cond n.parts.conds.items)
      ∙ ap₂ (λ a b. a || b) (any-each (is_of q) named.nodes_in n.parts.head ∙ any-same (λ x. list_any (is_of q) (named.nodes_in x)) (names q) n.parts.head term-nodes)
      (any-each (is_of q) nodes_in_cond n.parts.conds.items ∙ any-same (λ x. list_any (is_of q) (nodes_in_cond x)) (names_cond q) n.parts.conds.items cond-nodes)

-- column k of q
abbrev pub is_at : ℕ → ℕ → Column → Bool
is_at q k c = (c.quant == q) && (c.place == k)

module _ (q k : ℕ) where
  abbrev pub at_all : Term → Bool
  at_all = any_in (looking (λ r j. (r == q) && (j == k)) (λ r. false) (λ r. false) (λ r. true))

  abbrev at_arms : Arms → Bool
  at_arms = any_in_arms (looking (λ r j. (r == q) && (j == k)) (λ r. false) (λ r. false) (λ r. true))

  abbrev pub at_cond : Cond → Bool
  at_cond = any_in_cond (looking (λ r j. (r == q) && (j == k)) (λ r. false) (λ r. false) (λ r. true))

  mutual
    term-columns : (x : Term) → list_any (is_at q k) (columns_in x) ≡ at_all x
    term-columns (int n) = refl
    term-columns (text s) = refl
    term-columns null_int = refl
    term-columns null_text = refl
    term-columns (col r j) = or-false ((r == q) && (j == k))
    term-columns (both o x y) = any-both (is_at q k) (columns_in x) (columns_in y) ∙ ap₂ (λ a b. a || b) (term-columns x) (term-columns y)
    term-columns (minus_of x) = term-columns x
    term-columns (choose s x) = any-both (is_at q k) (listed_arms named.columns s) (columns_in x) ∙ ap₂ (λ a b. a || b) (arms-columns s) (term-columns x)
    term-columns count_all = refl
    term-columns (fold f t x) = term-columns x
    term-columns (scalar r) = refl

    arms-columns : (s : Arms) → list_any (is_at q k) (listed_arms named.columns s) ≡ at_arms s
    arms-columns no_arm = refl
    arms-columns (arm c x s) = any-both (is_at q k) (columns_in_cond c) (columns_in x ++ listed_arms named.columns s) ∙ ap₂ (λ a b. a || b) (cond-columns c) (any-both (is_at q k) (columns_in x) (listed_arms named.columns s) ∙ ap₂ (λ a b. a || b) (term-columns x) (arms-columns s))

    cond-columns : (c : Cond) → list_any (is_at q k) (columns_in_cond c) ≡ at_cond c
    cond-columns always = refl
    cond-columns (compare sign x y) = any-both (is_at q k) (columns_in x) (columns_in y) ∙ ap₂ (λ a b. a || b) (term-columns x) (term-columns y)
    cond-columns (is_null x) = term-columns x
    cond-columns (and c d) = any-both (is_at q k) (columns_in_cond c) (columns_in_cond d) ∙ ap₂ (λ a b. a || b) (cond-columns c) (cond-columns d)
    cond-columns (or c d) = any-both (is_at q k) (columns_in_cond c) (columns_in_cond d) ∙ ap₂ (λ a b. a || b) (cond-columns c) (cond-columns d)
    cond-columns (not c) = cond-columns c
    cond-columns (some r c) = cond-columns c
    cond-columns (every r c) = cond-columns c

  -- the columns that a box names are found in its cells and conditions
  pub columns-found : (n : Node) → list_any (is_at q k) (columns_of n) ≡ (list_any at_all n.parts.head || list_any at_cond n.parts.conds.items)
  columns-found n =
      any-both (is_at q k) (flat_map columns_in n.parts.head) (flat_map columns_in_cond n.parts.conds.items)
      ∙ ap₂ (λ a b. a || b) (any-each (is_at q k) columns_in n.parts.head ∙ any-same (λ x. list_any (is_at q k) (columns_in x)) at_all n.parts.head term-columns)
      (any-each (is_at q k) columns_in_cond n.parts.conds.items ∙ any-same (λ x. list_any (is_at q k) (columns_in_cond x)) at_cond n.parts.conds.items cond-columns)

  -- the quantifier of a column that a box names it names
  pub column-named : (n : Node) → list_any (is_at q k) (columns_of n) ≡ true → holds q (named_by n) ≡ true
  column-named n h = named-any q n ∙ (elim (or_cases (list_any at_all n.parts.head) (list_any at_cond n.parts.conds.items) (sym (columns-found n) ∙ h)) [
    | inl a ↦ or_left (list_any (says q) n.parts.head) (list_any (says_cond q) n.parts.conds.items) (heads-more (λ r j. (r == q) && (j == k)) (λ r j. r == q) (λ r. false) (λ r. r == q) (λ r. false) (λ r. r == q) (λ r. true) (λ r. true) (λ r j h. (and_parts (r == q) (j == k) h).0) (λ r h. absurd (let z : ⊥ = cc in z)) (λ r h. absurd (let z : ⊥ = cc in z)) (λ r h. h) n.parts.head a)
    | inr a ↦ or_right (list_any (says q) n.parts.head) (list_any (says_cond q) n.parts.conds.items) (conds-more (λ r j. (r == q) && (j == k)) (λ r j. r == q) (λ r. false) (λ r. r == q) (λ r. false) (λ r. r == q) (λ r. true) (λ r. true) (λ r j h. (and_parts (r == q) (j == k) h).0) (λ r h. absurd (let z : ⊥ = cc in z)) (λ r h. absurd (let z : ⊥ = cc in z)) (λ r h. h) n.parts.conds.items a)
  ])

  -- a column that is read is among those that the box names
  pub columns-listed : (n : Node) → reads_in q k n ≡ true → list_any (is_at q k) (columns_of n) ≡ true
  columns-listed n h =
      any-both (is_at q k) (flat_map columns_in n.parts.head) (flat_map columns_in_cond n.parts.conds.items)
      ∙ ap₂ (λ a b. a || b) (any-each (is_at q k) columns_in n.parts.head ∙ any-same (λ x. list_any (is_at q k) (columns_in x)) at_all n.parts.head term-columns)
      (any-each (is_at q k) columns_in_cond n.parts.conds.items ∙ any-same (λ x. list_any (is_at q k) (columns_in_cond x)) at_cond n.parts.conds.items cond-columns)
      ∙ (elim (or_cases (list_any (reads_at q k) n.parts.head) (list_any (reads_at_cond q k) n.parts.conds.items) h) [
        | inl a ↦ or_left (list_any at_all n.parts.head) (list_any at_cond n.parts.conds.items) (heads-more (λ r j. (r == q) && (j == k)) (λ r j. (r == q) && (j == k)) (λ r. false) (λ r. false) (λ r. false) (λ r. false) (λ r. prelude.not (r == q)) (λ r. true) (λ r j h. h) (λ r h. h) (λ r h. h) (λ r h. refl) n.parts.head a)
        | inr a ↦ or_right (list_any at_all n.parts.head) (list_any at_cond n.parts.conds.items) (conds-more (λ r j. (r == q) && (j == k)) (λ r j. (r == q) && (j == k)) (λ r. false) (λ r. false) (λ r. false) (λ r. false) (λ r. prelude.not (r == q)) (λ r. true) (λ r j h. h) (λ r h. h) (λ r h. h) (λ r h. refl) n.parts.conds.items a)
      ])

-- ---- columns beside the some and every of their quantifier

module _ (q k : ℕ) where
  beside : (a b r s m n : Bool) → (m ≡ false → a ≡ true → r ≡ true) → (n ≡ false → b ≡ true → s ≡ true) → (m || n) ≡ false → (a || b) ≡ true → (r || s) ≡ true
  beside a b r s m n f g o t = let z = or_parts m n o in elim (or_cases a b t) [ inl x ↦ or_left r s (f z.0 x) | inr x ↦ or_right r s (g z.1 x) ]

  entered : (r : ℕ) (c : Cond) → (binds_cond q c ≡ false → at_cond q k c ≡ true → reads_at_cond q k c ≡ true) → ((r == q) || binds_cond q c) ≡ false → at_cond q k c ≡ true → (prelude.not (r == q) && reads_at_cond q k c) ≡ true
  entered r c f o t = let z = or_parts (r == q) (binds_cond q c) o in ap (λ b. prelude.not b && reads_at_cond q k c) z.0 ∙ f z.1 t

  mutual
    term-unbound : (x : Term) → binds q x ≡ false → at_all q k x ≡ true → reads_at q k x ≡ true
    term-unbound (int n) o h = h
    term-unbound (text s) o h = h
    term-unbound null_int o h = h
    term-unbound null_text o h = h
    term-unbound (col r j) o h = h
    term-unbound (both u x y) o h = beside (at_all q k x) (at_all q k y) (reads_at q k x) (reads_at q k y) (binds q x) (binds q y) (term-unbound x) (term-unbound y) o h
    term-unbound (minus_of x) o h = term-unbound x o h
    term-unbound (choose s x) o h = beside (at_arms q k s) (at_all q k x) (reads_at_arms q k s) (reads_at q k x) (binds_arms q s) (binds q x) (arms-unbound s) (term-unbound x) o h
    term-unbound count_all o h = h
    term-unbound (fold f t x) o h = term-unbound x o h
    term-unbound (scalar r) o h = h

    arms-unbound : (s : Arms) → binds_arms q s ≡ false → at_arms q k s ≡ true → reads_at_arms q k s ≡ true
    arms-unbound no_arm o h = h
    arms-unbound (arm c x s) o h =
        beside (at_cond q k c) (at_all q k x || at_arms q k s) (reads_at_cond q k c) (reads_at q k x || reads_at_arms q k s) (binds_cond q c) (binds q x || binds_arms q s) (cond-unbound c)
        (beside (at_all q k x) (at_arms q k s) (reads_at q k x) (reads_at_arms q k s) (binds q x) (binds_arms q s) (term-unbound x) (arms-unbound s)) o h

    cond-unbound : (c : Cond) → binds_cond q c ≡ false → at_cond q k c ≡ true → reads_at_cond q k c ≡ true
    cond-unbound always o h = h
    cond-unbound (compare sign x y) o h = beside (at_all q k x) (at_all q k y) (reads_at q k x) (reads_at q k y) (binds q x) (binds q y) (term-unbound x) (term-unbound y) o h
    cond-unbound (is_null x) o h = term-unbound x o h
    cond-unbound (and c d) o h = beside (at_cond q k c) (at_cond q k d) (reads_at_cond q k c) (reads_at_cond q k d) (binds_cond q c) (binds_cond q d) (cond-unbound c) (cond-unbound d) o h
    cond-unbound (or c d) o h = beside (at_cond q k c) (at_cond q k d) (reads_at_cond q k c) (reads_at_cond q k d) (binds_cond q c) (binds_cond q d) (cond-unbound c) (cond-unbound d) o h
    cond-unbound (not c) o h = cond-unbound c o h
    cond-unbound (some r c) o h = entered r c (cond-unbound c) o h
    cond-unbound (every r c) o h = entered r c (cond-unbound c) o h

  heads-unbound : (xs : List Term) → list_any (binds q) xs ≡ false → list_any (at_all q k) xs ≡ true → list_any (reads_at q k) xs ≡ true
  heads-unbound [] o h = h
  heads-unbound (x ∷ xs) o h = beside (at_all q k x) (list_any (at_all q k) xs) (reads_at q k x) (list_any (reads_at q k) xs) (binds q x) (list_any (binds q) xs) (term-unbound x) (heads-unbound xs) o h

  conds-unbound : (xs : List Cond) → list_any (binds_cond q) xs ≡ false → list_any (at_cond q k) xs ≡ true → list_any (reads_at_cond q k) xs ≡ true
  conds-unbound [] o h = h
  conds-unbound (x ∷ xs) o h = beside (at_cond q k x) (list_any (at_cond q k) xs) (reads_at_cond q k x) (list_any (reads_at_cond q k) xs) (binds_cond q x) (list_any (binds_cond q) xs) (cond-unbound x) (conds-unbound xs) o h

  -- a box without a some or every of q reads the columns of q that it names
  pub unbound-reads : (n : Node) → (list_any (binds q) n.parts.head || list_any (binds_cond q) n.parts.conds.items) ≡ false → list_any (is_at q k) (columns_of n) ≡ true → reads_in q k n ≡ true
  unbound-reads n o h = beside (list_any (at_all q k) n.parts.head) (list_any (at_cond q k) n.parts.conds.items) (list_any (reads_at q k) n.parts.head) (list_any (reads_at_cond q k) n.parts.conds.items) (list_any (binds q) n.parts.head) (list_any (binds_cond q) n.parts.conds.items)
      (heads-unbound n.parts.head) (conds-unbound n.parts.conds.items) o (sym (columns-found q k n) ∙ h)
