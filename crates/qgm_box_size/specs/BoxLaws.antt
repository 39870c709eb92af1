-- What cells in place of columns add to the nodes of boxes, and what dropping boxes takes away.
use Rattle.std.specs.Prelude.{ℕ, ◌≤◌, ◌+◌, Bool, List, filter}
use Rattle.qgm_box_size.specs.Nodes.{box_size, boxes_levels, boxes_size, named_columns}
use Rattle.qgm_core.specs.declared.node.Node.{Node}
use Rattle.qgm_meaning.specs.Scope.{put_node}
use Rattle.qgm_term_size.specs.Size.{put_size}
use Rattle.qgm_terms.specs.Terms.{Term}

-- no more nodes than the cells have above the columns for which they stand
abbrev pub PutSize : Type 0
PutSize = (q : ℕ) (cells : List Term) (n : Node) → box_size (put_node q cells n) ≤ box_size n + put_size q cells (named_columns n)

-- some of the boxes have no more nodes and no more levels than all
abbrev pub SomeSize : Type 0
SomeSize = (p : Node → Bool) (ns : List Node) → boxes_size (filter p ns) ≤ boxes_size ns

abbrev pub SomeLevels : Type 0
SomeLevels = (p : Node → Bool) (ns : List Node) → boxes_levels (filter p ns) ≤ boxes_levels ns
