-- The rows of PERMIT boxes are read by some and every alone.
use Rattle.std.specs.Prelude.{not as no}
use Rattle.std.proofs.Common.{ℕ, ◌==◌, ◌≡◌, ◌&&◌, ◌||◌, ◌≤◌, arith, Bool, true, false, List, ◌++◌, Some, refl, sym, ap, ap₂, subst, ◌∙◌, eqb-true, inl, inr}
use Rattle.std.specs.List.{flat_map, list_any}
use Rattle.std.proofs.lemmas.Bool.{and_parts, cases_Bool, or_parts}
use Rattle.qgm_core.specs.Boxes.{ids_of, is_quant}
use Rattle.qgm_core.specs.Kinds.{is_F, is_F_or_S, is_S, is_permit}
use Rattle.list_laws.specs.Lists.{In, first, times}
use Rattle.qgm_core.specs.declared.node.Node.{Node}
use Rattle.qgm_terms.specs.Gathered.{listed_arms}
use Rattle.qgm_terms.specs.Named.{nodes_in, nodes_in_cond}
use Rattle.qgm_terms.specs.Named as named
use Rattle.qgm_terms.specs.Terms.{Term, int, text, null_int, null_text, col, both, minus_of, choose, count_all, fold, scalar, Arms, no_arm, arm, Cond, always, compare, is_null, and, or, not, some, every}
use Rattle.qgm_terms.specs.declared.named.QuantNode.{QuantNode}
use Rattle.qgm_terms.specs.declared.named.QuantNode.TheVariants as node
use Rattle.qgm_wellformed.specs.Shapes.{node_fits, nodes_of}
use Rattle.qgm_meaning.specs.AsSets.{ReadsSets, is_S_found, scalar_in, scalar_in_arms, scalar_in_cond}
use Rattle.qgm_meaning.proofs.Seen.{reads-what_it_sees}
use Rattle.qgm_edit_laws.specs.Graph.{Sound}
use Rattle.qgm_edit_laws.specs.Shaped.{Shaped}
use Rattle.qgm_edit_laws.proofs.Naming.{any-same}
use Rattle.qgm_edit_laws.proofs.Ranks.{has-in}
use Rattle.qgm_edit_laws.proofs.Read.{any-both, any-each}
use Rattle.qgm_edit_laws.proofs.OwnShapes.{rows-only, shape-parts}
use Rattle.qgm_edit_laws.proofs.Turns.{first-own}
use Rattle.qgm_core.proofs.Reaching.{overs-held}
use Rattle.list_laws.proofs.Counting.{times-in}
use Rattle.list_laws.proofs.Booleans.{clash, or-false}
use Rattle.list_laws.proofs.Membership.{all-in, any-in, any-not}

-- a scalar of a quantifier that passes
abbrev scalar_of : (ℕ → Bool) → QuantNode → Bool
scalar_of passes (node.Scalar q) = passes q
scalar_of passes (node.Some q) = false
scalar_of passes (node.Every q) = false

-- scalars that stand within are listed
module _ (passes : ℕ → Bool) where
  mutual
    term-scalars : (x : Term) → list_any (scalar_of passes) (nodes_in x) ≡ scalar_in passes x
    term-scalars (int n) = refl
    term-scalars (text s) = refl
    term-scalars null_int = refl
    term-scalars null_text = refl
    term-scalars (col r k) = refl
    term-scalars (both o x y) = any-both (scalar_of passes) (nodes_in x) (nodes_in y) ∙ ap₂ (λ a b. a || b) (term-scalars x) (term-scalars y)
    term-scalars (minus_of x) = term-scalars x
    term-scalars (choose s x) = any-both (scalar_of passes) (listed_arms named.nodes s) (nodes_in x) ∙ ap₂ (λ a b. a || b) (arms-scalars s) (term-scalars x)
    term-scalars count_all = refl
    term-scalars (fold f t x) = term-scalars x
    term-scalars (scalar r) = or-false (passes r)

    arms-scalars : (s : Arms) → list_any (scalar_of passes) (listed_arms named.nodes s) ≡ scalar_in_arms passes s
    arms-scalars no_arm = refl
    arms-scalars (arm c x s) =
        any-both (scalar_of passes) (nodes_in_cond c) (nodes_in x ++ listed_arms named.nodes s)
        ∙ ap₂ (λ a b. a || b) (cond-scalars c) (any-both (scalar_of passes) (nodes_in x) (listed_arms named.nodes s) ∙ ap₂ (λ a b. a || b) (term-scalars x) (arms-scalars s))

    cond-scalars : (c : Cond) → list_any (scalar_of passes) (nodes_in_cond c) ≡ scalar_in_cond passes c
    cond-scalars always = refl
    cond-scalars (compare sign x y) = any-both (scalar_of passes) (nodes_in x) (nodes_in y) ∙ ap₂ (λ a b. a || b) (term-scalars x) (term-scalars y)
    cond-scalars (is_null x) = term-scalars x
    cond-scalars (and c d) = any-both (scalar_of passes) (nodes_in_cond c) (nodes_in_cond d) ∙ ap₂ (λ a b. a || b) (cond-scalars c) (cond-scalars d)
    cond-scalars (or c d) = any-both (scalar_of passes) (nodes_in_cond c) (nodes_in_cond d) ∙ ap₂ (λ a b. a || b) (cond-scalars c) (cond-scalars d)
    cond-scalars (not c) = cond-scalars c
    cond-scalars (some r c) = cond-scalars c
    cond-scalars (every r c) = cond-scalars c

  heads-scalars : (xs : List Term) → list_any (scalar_of passes) (flat_map nodes_in xs) ≡ list_any (scalar_in passes) xs
  heads-scalars xs = any-each (scalar_of passes) nodes_in xs ∙ any-same (λ x. list_any (scalar_of passes) (nodes_in x)) (scalar_in passes) xs term-scalars

  conds-scalars : (xs : List Cond) → list_any (scalar_of passes) (flat_map nodes_in_cond xs) ≡ list_any (scalar_in_cond passes) xs
  conds-scalars xs = any-each (scalar_of passes) nodes_in_cond xs ∙ any-same (λ x. list_any (scalar_of passes) (nodes_in_cond x)) (scalar_in_cond passes) xs cond-scalars

module _ (bs : List Node) (root : ℕ) (w : Sound bs root) (s : Shaped bs root) (n : Node) (i : In n bs) where
  few : (x : ℕ) → times x (ids_of n) ≤ 1
  few x = let a = times-in ids_of x n bs i in let b = w.once x in omega arith

  -- the scalar of a quantifier that isn't S
  abbrev foreign : ℕ → Bool
  foreign q = no (is_S_found (first (is_quant q) n.quants))

  own-scalars : (z : QuantNode) → node_fits n.quants z ≡ true → scalar_of foreign z ≡ false
  own-scalars (node.Scalar q) h =
      let t = any-in (λ t. is_quant q t && is_S t.kind) n.quants h in
      let a = and_parts (t.0.id == q) (is_S t.0.kind) t.1.1 in
      ap (λ o. no (is_S_found o)) (subst (λ k. first (is_quant k) n.quants ≡ Some t.0) (eqb-true t.0.id q a.0) (first-own t.0 n.quants (few t.0.id) t.1.0)) ∙ ap no a.1
  own-scalars (node.Some q) h = refl
  own-scalars (node.Every q) h = refl

  none-foreign : list_any (scalar_of foreign) (nodes_of n) ≡ false
  none-foreign = any-not (scalar_of foreign) (nodes_of n) (λ z j. own-scalars z (all-in (node_fits n.quants) z (nodes_of n) (shape-parts bs root s n i).1 j))

  foreign-parts : (list_any (scalar_of foreign) (flat_map nodes_in n.parts.head) ≡ false) × (list_any (scalar_of foreign) (flat_map nodes_in_cond n.parts.conds.items) ≡ false)
  foreign-parts = or_parts (list_any (scalar_of foreign) (flat_map nodes_in n.parts.head)) (list_any (scalar_of foreign) (flat_map nodes_in_cond n.parts.conds.items)) (sym (any-both (scalar_of foreign) (flat_map nodes_in n.parts.head) (flat_map nodes_in_cond n.parts.conds.items)) ∙ none-foreign)

  pub permit-read : (sets : ℕ → Bool) → ((m : Node) → In m bs → sets m.id ≡ true → is_permit m.parts.distinct ≡ true) → ReadsSets sets n
  permit-read sets h = reads-what_it_sees sets n (record {
    unseen = λ r j k. elim (cases_Bool (sets r.over)) [
      | inr f ↦ f
      | inl t ↦ absurd (
          let x = has-in r.over bs (overs-held bs n r w.ordered i j) in
          clash (is_F_or_S r.kind) k ((s.unseen x.0 x.1.0 (h x.0 x.1.0 (ap sets x.1.1 ∙ t))).1 n r i j (sym x.1.1)))
    ];
    once = λ r j. first-own r n.quants (few r.id) j;
    cells = sym (heads-scalars foreign n.parts.head) ∙ foreign-parts.0;
    conditions = sym (conds-scalars foreign n.parts.conds.items) ∙ foreign-parts.1;
    others = λ k r j. all-in (λ t. is_F t.kind) r n.quants (rows-only bs root n n.parts.kind (shape-parts bs root s n i).0 k) j;
  })
