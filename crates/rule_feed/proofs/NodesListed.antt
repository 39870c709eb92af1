-- Nodes that are looked for are among those that are listed.
use Rattle.std.proofs.Common.{ℕ, ◌==◌, ◌≡◌, ◌||◌, Bool, true, false, List, [], ◌∷◌, ◌++◌, refl, ap, ap₂, ◌∙◌}
use Rattle.std.specs.List.{flat_map, list_any}
use Rattle.qgm_terms.specs.Gathered.{listed_arms}
use Rattle.qgm_terms.specs.Named as named
use Rattle.qgm_terms.specs.Named.{nodes_in_cond}
use Rattle.qgm_terms.specs.Terms.{Arms, Cond, Term, always, and, arm, both, choose, col, compare, count_all, every, fold, int, is_null, minus_of, no_arm, not, null_int, null_text, or, scalar, some, text}
use Rattle.qgm_terms.specs.declared.named.QuantNode.{QuantNode}
use Rattle.qgm_terms.specs.declared.named.QuantNode.TheVariants as node
use Rattle.qgm_core.specs.declared.node.Node.{Node}
use Rattle.qgm_wellformed.specs.Shapes as shape
use Rattle.qgm_edit_laws.proofs.Read.{any-both}
use Rattle.rule_feed.specs.Feed.{nodes_of, nodes_of_arms, nodes_of_cond}

-- a scalar of i, or a some or every of p
abbrev pub is_sought : ℕ → ℕ → QuantNode → Bool
is_sought i p (node.Scalar r) = r == i
is_sought i p (node.Some r) = r == p
is_sought i p (node.Every r) = r == p

module _ (i p : ℕ) where
  abbrev hit : QuantNode → Bool
  hit = is_sought i p

  or-same : (b : Bool) → (b || false) ≡ b
  or-same true = refl
  or-same false = refl

  mutual
    term-listed : (x : Term) → list_any hit (named.nodes_in x) ≡ nodes_of i p x
    term-listed (int n) = refl
    term-listed (text s) = refl
    term-listed null_int = refl
    term-listed null_text = refl
    term-listed (col r k) = refl
    term-listed (both o x y) = any-both hit (named.nodes_in x) (named.nodes_in y) ∙ ap₂ (λ a b. a || b) (term-listed x) (term-listed y)
    term-listed (minus_of x) = term-listed x
    term-listed (choose s x) = any-both hit (listed_arms named.nodes s) (named.nodes_in x) ∙ ap₂ (λ a b. a || b) (arms-listed s) (term-listed x)
    term-listed count_all = refl
    term-listed (fold f t x) = term-listed x
    term-listed (scalar r) = or-same (r == i)

    arms-listed : (s : Arms) → list_any hit (listed_arms named.nodes s) ≡ nodes_of_arms i p s
    arms-listed no_arm = refl
    arms-listed (arm c x s) = any-both hit (nodes_in_cond c) (named.nodes_in x ++ listed_arms named.nodes s) ∙ ap₂ (λ a b. a || b) (cond-listed c) (any-both hit (named.nodes_in x) (listed_arms named.nodes s) ∙ ap₂ (λ a b. a || b) (term-listed x) (arms-listed s))

    cond-listed : (c : Cond) → list_any hit (nodes_in_cond c) ≡ nodes_of_cond i p c
    cond-listed always = refl
    cond-listed (compare sign x y) = any-both hit (named.nodes_in x) (named.nodes_in y) ∙ ap₂ (λ a b. a || b) (term-listed x) (term-listed y)
    cond-listed (is_null x) = term-listed x
    cond-listed (and c d) = any-both hit (nodes_in_cond c) (nodes_in_cond d) ∙ ap₂ (λ a b. a || b) (cond-listed c) (cond-listed d)
    cond-listed (or c d) = any-both hit (nodes_in_cond c) (nodes_in_cond d) ∙ ap₂ (λ a b. a || b) (cond-listed c) (cond-listed d)
    cond-listed (not c) = cond-listed c
    cond-listed (some r c) = ap (λ z. (r == p) || z) (cond-listed c)
    cond-listed (every r c) = ap (λ z. (r == p) || z) (cond-listed c)

  heads-listed : (xs : List Term) → list_any hit (flat_map named.nodes_in xs) ≡ list_any (nodes_of i p) xs
  heads-listed [] = refl
  heads-listed (x ∷ xs) = any-both hit (named.nodes_in x) (flat_map named.nodes_in xs) ∙ ap₂ (λ a b. a || b) (term-listed x) (heads-listed xs)

  conds-listed : (xs : List Cond) → list_any hit (flat_map nodes_in_cond xs) ≡ list_any (nodes_of_cond i p) xs
  conds-listed [] = refl
  conds-listed (x ∷ xs) = any-both hit (nodes_in_cond x) (flat_map nodes_in_cond xs) ∙ ap₂ (λ a b. a || b) (cond-listed x) (conds-listed xs)

  pub sought-listed : (n : Node) → list_any hit (shape.nodes_of n) ≡ (list_any (nodes_of i p) n.parts.head || list_any (nodes_of_cond i p) n.parts.conds.items)
  sought-listed n = any-both hit (flat_map named.nodes_in n.parts.head) (flat_map nodes_in_cond n.parts.conds.items) ∙ ap₂ (λ a b. a || b) (heads-listed n.parts.head) (conds-listed n.parts.conds.items)
