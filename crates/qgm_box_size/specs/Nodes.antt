-- How many nodes and levels the cells and conditions of boxes have, and which columns they name.
use Rattle.std.specs.Prelude.{ℕ, ◌+◌, max, List, [], ◌∷◌, ◌++◌}
use Rattle.std.specs.List.{flat_map}
use Rattle.qgm_core.specs.declared.node.Node.{Node}
use Rattle.qgm_term_size.specs.Levels.{cond_levels, deepest}
use Rattle.qgm_term_size.specs.Size.{cell_size, cond_size}
use Rattle.qgm_terms.specs.Named.{columns_in, columns_in_cond}
use Rattle.qgm_terms.specs.Terms.{Cond, Term}
use Rattle.qgm_terms.specs.declared.named.Column.{Column}

-- ---- nodes

abbrev pub cells_size : List Term → ℕ
cells_size [] = 0
cells_size (x ∷ xs) = cell_size x + cells_size xs

abbrev pub conjuncts_size : List Cond → ℕ
conjuncts_size [] = 0
conjuncts_size (c ∷ cs) = cond_size c + conjuncts_size cs

abbrev pub box_size : Node → ℕ
box_size n = cells_size n.parts.head + conjuncts_size n.parts.conds.items

abbrev pub boxes_size : List Node → ℕ
boxes_size [] = 0
boxes_size (n ∷ ns) = box_size n + boxes_size ns

-- ---- levels

abbrev pub deepest_conjunct : List Cond → ℕ
deepest_conjunct [] = 0
deepest_conjunct (c ∷ cs) = max (cond_levels c) (deepest_conjunct cs)

abbrev pub box_levels : Node → ℕ
box_levels n = max (deepest n.parts.head) (deepest_conjunct n.parts.conds.items)

abbrev pub boxes_levels : List Node → ℕ
boxes_levels [] = 0
boxes_levels (n ∷ ns) = max (box_levels n) (boxes_levels ns)

-- ---- columns, as often as they are named

abbrev pub named_columns : Node → List Column
named_columns n = flat_map columns_in n.parts.head ++ flat_map columns_in_cond n.parts.conds.items
