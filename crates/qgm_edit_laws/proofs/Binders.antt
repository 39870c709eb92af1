-- The somes and everys of a quantifier, among the nodes of a box.
use Rattle.std.proofs.Common.{ℕ, ◌==◌, ◌≡◌, ◌||◌, Bool, false, List, [], ◌∷◌, ◌++◌, refl, ap, ap₂, ◌∙◌}
use Rattle.std.specs.List.{flat_map, list_any}
use Rattle.qgm_terms.specs.Gathered.{listed_arms}
use Rattle.qgm_terms.specs.Named.{nodes_in_cond}
use Rattle.qgm_terms.specs.Terms.{Term, int, text, null_int, null_text, col, scalar, both, minus_of, choose, count_all, fold, Arms, no_arm, arm, Cond, always, compare, is_null, and, or, not, some, every}
use Rattle.qgm_terms.specs.declared.named.QuantNode.{QuantNode}
use Rattle.qgm_terms.specs.Named as named
use Rattle.qgm_terms.specs.declared.named.QuantNode.TheVariants as node
use Rattle.qgm_core.specs.declared.node.Node.{Node}
use Rattle.qgm_wellformed.specs.Shapes.{nodes_of}
use Rattle.qgm_meaning.specs.Searches.{binds, binds_arms, binds_cond}
use Rattle.qgm_edit_laws.proofs.Read.{any-both, any-each}

-- a some or every of q
abbrev pub binder : ℕ → QuantNode → Bool
binder q (node.Scalar r) = false
binder q (node.Some r) = r == q
binder q (node.Every r) = r == q

any-like : {X : Type 0} (f g : X → Bool) (xs : List X) → ((x : X) → f x ≡ g x) → list_any f xs ≡ list_any g xs
any-like f g [] h = refl
any-like f g (x ∷ xs) h = ap₂ (λ a b. a || b) (h x) (any-like f g xs h)

module _ (q : ℕ) where
  mutual
    term-binders : (x : Term) → list_any (binder q) (named.nodes_in x) ≡ binds q x
    term-binders (int n) = refl
    term-binders (text s) = refl
    term-binders null_int = refl
    term-binders null_text = refl
    term-binders (col r k) = refl
    term-binders (both o x y) = any-both (binder q) (named.nodes_in x) (named.nodes_in y) ∙ ap₂ (λ a b. a || b) (term-binders x) (term-binders y)
    term-binders (minus_of x) = term-binders x
    term-binders (choose s x) = any-both (binder q) (listed_arms named.nodes s) (named.nodes_in x) ∙ ap₂ (λ a b. a || b) (arms-binders s) (term-binders x)
    term-binders count_all = refl
    term-binders (fold f t x) = term-binders x
    term-binders (scalar r) = refl

    arms-binders : (s : Arms) → list_any (binder q) (listed_arms named.nodes s) ≡ binds_arms q s
    arms-binders no_arm = refl
    arms-binders (arm c x s) = any-both (binder q) (nodes_in_cond c) (named.nodes_in x ++ listed_arms named.nodes s) ∙ ap₂ (λ a b. a || b) (cond-binders c) (any-both (binder q) (named.nodes_in x) (listed_arms named.nodes s) ∙ ap₂ (λ a b. a || b) (term-binders x) (arms-binders s))

    cond-binders : (c : Cond) → list_any (binder q) (nodes_in_cond c) ≡ binds_cond q c
    cond-binders always = refl
    cond-binders (compare sign x y) = any-both (binder q) (named.nodes_in x) (named.nodes_in y) ∙ ap₂ (λ a b. a || b) (term-binders x) (term-binders y)
    cond-binders (is_null x) = term-binders x
    cond-binders (and c d) = any-both (binder q) (nodes_in_cond c) (nodes_in_cond d) ∙ ap₂ (λ a b. a || b) (cond-binders c) (cond-binders d)
    cond-binders (or c d) = any-both (binder q) (nodes_in_cond c) (nodes_in_cond d) ∙ ap₂ (λ a b. a || b) (cond-binders c) (cond-binders d)
    cond-binders (not c) = cond-binders c
    cond-binders (some r c) = ap (λ z. (r == q) || z) (cond-binders c)
    cond-binders (every r c) = ap (λ z. (r == q) || z) (cond-binders c)

  pub binders-listed : (n : Node) → list_any (binder q) (nodes_of n) ≡ (list_any (binds q) n.parts.head || list_any (binds_cond q) n.parts.conds.items)
  binders-listed n = any-both (binder q) (flat_map named.nodes_in n.parts.head) (flat_map nodes_in_cond n.parts.conds.items)
      ∙ ap₂ (λ a b. a || b) (any-each (binder q) named.nodes_in n.parts.head ∙ any-like (λ x. list_any (binder q) (named.nodes_in x)) (binds q) n.parts.head term-binders)
      (any-each (binder q) nodes_in_cond n.parts.conds.items ∙ any-like (λ x. list_any (binder q) (nodes_in_cond x)) (binds_cond q) n.parts.conds.items cond-binders)
