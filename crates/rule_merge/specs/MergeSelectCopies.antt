-- What M1 copies: where columns of a quantifier are named, and how many nodes and levels come there.
use Rattle.std.specs.Prelude.{ℕ, suc, ◌+◌, ◌-◌, ◌*◌, ◌==◌, ◌++◌, max, min, if◌then◌else◌, List, [], ◌∷◌, map}
use Rattle.std.specs.List.{flat_map}
use Rattle.list_laws.specs.Lists.{times}
use Rattle.qgm_core.specs.Boxes.{QueryGraph}
use Rattle.qgm_core.specs.declared.node.Node.{Node}
use Rattle.qgm_core.specs.declared.owned.OwnedQuant.{OwnedQuant}
use Rattle.qgm_term_size.specs.Levels.{cell_levels, cond_levels, deepest}
use Rattle.qgm_term_size.specs.Size.{cell_size}
use Rattle.qgm_terms.specs.Depth.{room}
use Rattle.qgm_terms.specs.Named.{columns_in, columns_in_cond}
use Rattle.qgm_terms.specs.Terms.{Cond, Term}
use Rattle.qgm_terms.specs.declared.named.Column.{Column}
use Rattle.rule_merge.specs.declared.merge_select.names.Name.{Name}

-- levels as they are counted: one more than fit is as good as more
abbrev pub cut : ℕ → ℕ
cut levels = min levels (room + 1)

-- a column that is named where there are so many levels
abbrev pub name_of : ℕ → Column → Name
name_of levels c = record { quant = c.quant; place = c.place; levels = cut levels }

-- the names of columns in a cell or a condition, in a box, and in boxes
abbrev pub names_in_cell : Term → List Name
names_in_cell x = map (name_of (cell_levels x)) (columns_in x)

abbrev pub names_in_cond : Cond → List Name
names_in_cond c = map (name_of (cond_levels c)) (columns_in_cond c)

abbrev pub names_in_box : Node → List Name
names_in_box n = flat_map names_in_cell n.parts.head ++ flat_map names_in_cond n.parts.conds.items

abbrev pub names_in : List Node → List Name
names_in boxes = flat_map names_in_box boxes

-- the places of the columns of q that are named, as often as they are
abbrev pub places_of : ℕ → List Name → List ℕ
places_of q [] = []
places_of q (n ∷ ns) = if n.quant == q then n.place ∷ places_of q ns else places_of q ns

-- the most levels that a cell or a condition has that names a column of q
abbrev pub levels_of : ℕ → List Name → ℕ
levels_of q [] = 0
levels_of q (n ∷ ns) = max (if n.quant == q then n.levels else 0) (levels_of q ns)

-- the nodes of these cells, which stand for the columns from k on, each as often as its column stands among the names but one
abbrev pub copied : List ℕ → ℕ → List Term → ℕ
copied named k [] = 0
copied named k (x ∷ xs) = cell_size x * (times k named - 1) + copied named (suc k) xs

-- so many nodes may be copied
abbrev pub most_copied : ℕ
most_copied = 1024

-- what M1 copies of c's cells for the columns of r
abbrev pub copies_of : QueryGraph → OwnedQuant → Node → ℕ
copies_of g r c = copied (places_of r.id (names_in g.boxes)) 1 c.parts.head

-- the levels of the deepest cell or condition that names a column of r, and those of the deepest cell of c
abbrev pub levels_under : QueryGraph → OwnedQuant → Node → ℕ
levels_under g r c = levels_of r.id (names_in g.boxes) + deepest c.parts.head
