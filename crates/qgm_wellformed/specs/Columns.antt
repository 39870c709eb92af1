-- The columns that a box names, and whether the boxes have them.
use Rattle.std.specs.Prelude.{ℕ, ◌++◌, ◌&&◌, nat_lt, nat_le, Bool, true, false, List, length, Option, Some, None}
use Rattle.std.specs.List.{list_all, flat_map}
use Rattle.qgm_core.specs.Boxes.{is_box, owns, range_in, width}
use Rattle.list_laws.specs.Lists.{first}
use Rattle.qgm_core.specs.declared.kinds.BoxKind.{BoxKind}
use Rattle.qgm_core.specs.declared.kinds.BoxKind.TheVariants.{Base, Select, Group, SetOp, OuterJoin}
use Rattle.qgm_core.specs.declared.node.Node.{Node}
use Rattle.qgm_core.specs.declared.owned.OwnedQuant.{OwnedQuant}
use Rattle.qgm_terms.specs.Named.{columns_in, columns_in_cond}
use Rattle.qgm_terms.specs.declared.named.Column.{Column}

-- the columns that a box names in its own cells and conditions
abbrev pub columns_of : Node → List Column
columns_of n = flat_map columns_in n.parts.head ++ flat_map columns_in_cond n.parts.conds.items

abbrev pub over_box : List Node → Option OwnedQuant → Option Node
over_box boxes None = None
over_box boxes (Some r) = first (is_box r.over) boxes

-- the box that a quantifier ranges over
abbrev pub box_under : List Node → ℕ → Option Node
box_under boxes q = over_box boxes (range_in q (first (owns q) boxes))

-- k is a place among so many, from 1
abbrev pub within : ℕ → ℕ → Bool
within w k = nat_lt 0 k && nat_le k w

abbrev pub fits : ℕ → Option Node → Bool
fits k None = false
fits k (Some n) = within (width n) k

-- the keys and the not-null columns of a base are columns of it
abbrev pub places_fit : BoxKind → Bool
places_fit (Base table) = list_all (within (length table.types)) table.not_null && list_all (λ key. list_all (within (length table.types)) key) table.keys
places_fit Select = true
places_fit (Group keys) = true
places_fit (SetOp operator types) = true
places_fit OuterJoin = true

-- each column that a box names is one of the box that its quantifier ranges over
abbrev pub columns_fit : List Node → Node → Bool
columns_fit boxes n = places_fit n.parts.kind && list_all (λ c. fits c.place (box_under boxes c.quant)) (columns_of n)
