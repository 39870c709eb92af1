-- Nodes of boxes with cells in place of columns, and of some of the boxes.
use Rattle.std.proofs.Common.{◌≡◌, ℕ, ◌+◌, ◌≤◌, ◌++◌, cond, List, [], ◌∷◌, Bool, true, false, filter, map, arith}
use Rattle.std.specs.List.{flat_map}
use Rattle.qgm_box_size.specs.Nodes.{box_size, boxes_levels, boxes_size, cells_size, conjuncts_size, named_columns}
use Rattle.qgm_core.specs.declared.node.Node.{Node}
use Rattle.qgm_meaning.specs.Scope.{put_node}
use Rattle.qgm_term_size.specs.Size.{cell_size, cond_size, put_size}
use Rattle.qgm_term_size.proofs.PutSizes.{put-append, put-cell, put-cond}
use Rattle.qgm_terms.specs.Named.{columns_in, columns_in_cond}
use Rattle.qgm_terms.specs.Substitution.{substituted, substituted_cond}
use Rattle.qgm_terms.specs.Terms.{Cond, Term}

module _ (q : ℕ) (cells : List Term) where
  pub put-cells : (xs : List Term) → cells_size (map (substituted q cells) xs) ≤ cells_size xs + put_size q cells (flat_map columns_in xs)
  put-cells [] = omega arith
  put-cells (x ∷ xs) =
      let a : cell_size (substituted q cells x) ≤ cell_size x + put_size q cells (columns_in x) = put-cell q cells x in
      let b : cells_size (map (substituted q cells) xs) ≤ cells_size xs + put_size q cells (flat_map columns_in xs) = put-cells xs in
      let e : put_size q cells (columns_in x ++ flat_map columns_in xs) ≡ put_size q cells (columns_in x) + put_size q cells (flat_map columns_in xs) = put-append q cells (columns_in x) (flat_map columns_in xs) in
      omega (arith, a, b, e)

  pub put-conds : (cs : List Cond) → conjuncts_size (map (substituted_cond q cells) cs) ≤ conjuncts_size cs + put_size q cells (flat_map columns_in_cond cs)
  put-conds [] = omega arith
  put-conds (c ∷ cs) =
      let a : cond_size (substituted_cond q cells c) ≤ cond_size c + put_size q cells (columns_in_cond c) = put-cond q cells c in
      let b : conjuncts_size (map (substituted_cond q cells) cs) ≤ conjuncts_size cs + put_size q cells (flat_map columns_in_cond cs) = put-conds cs in
      let e : put_size q cells (columns_in_cond c ++ flat_map columns_in_cond cs) ≡ put_size q cells (columns_in_cond c) + put_size q cells (flat_map columns_in_cond cs) = put-append q cells (columns_in_cond c) (flat_map columns_in_cond cs) in
      omega (arith, a, b, e)

  pub put-box : (n : Node) → box_size (put_node q cells n) ≤ box_size n + put_size q cells (named_columns n)
  put-box n =
      let a = put-cells n.parts.head in
      let b = put-conds n.parts.conds.items in
      let e = put-append q cells (flat_map columns_in n.parts.head) (flat_map columns_in_cond n.parts.conds.items) in
      omega (arith, a, b, e)

pub conjuncts-append : (cs ds : List Cond) → conjuncts_size (cs ++ ds) ≡ conjuncts_size cs + conjuncts_size ds
conjuncts-append [] ds = omega arith
conjuncts-append (c ∷ cs) ds = let h : conjuncts_size (cs ++ ds) ≡ conjuncts_size cs + conjuncts_size ds = conjuncts-append cs ds in omega (arith, h)

pub some-size : (p : Node → Bool) (ns : List Node) → boxes_size (filter p ns) ≤ boxes_size ns
some-size p [] = omega arith
some-size p (n ∷ ns) =
    let h : boxes_size (filter p ns) ≤ boxes_size ns = some-size p ns in
    elim (p n) as (λ t. boxes_size (cond t (n ∷ filter p ns) (filter p ns)) ≤ box_size n + boxes_size ns) [ true ↦ omega (arith, h) | false ↦ omega (arith, h) ]

pub some-levels : (p : Node → Bool) (ns : List Node) → boxes_levels (filter p ns) ≤ boxes_levels ns
some-levels p [] = omega arith
some-levels p (n ∷ ns) =
    let h : boxes_levels (filter p ns) ≤ boxes_levels ns = some-levels p ns in
    elim (p n) as (λ t. boxes_levels (cond t (n ∷ filter p ns) (filter p ns)) ≤ boxes_levels (n ∷ ns)) [ true ↦ omega (arith, h) | false ↦ omega (arith, h) ]
