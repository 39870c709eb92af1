-- Quantifiers, one by one, over another box.
use Rattle.std.specs.Prelude.{ℕ, List, [], ◌∷◌}
use Rattle.qgm_core.specs.Boxes.{QueryGraph, owns}
use Rattle.qgm_core.specs.Edits.{drop_box, keep, on_boxes, on_quant, quants_over}
use Rattle.qgm_core.specs.Free.{reached}
use Rattle.list_laws.specs.Lists.{change, each}
use Rattle.qgm_core.specs.declared.node.Node.{Node}

-- quantifier q ranges over c
abbrev pub turned_one : ℕ → ℕ → List Node → List Node
turned_one c q boxes = change (owns q) (on_quant q (λ r. record r { over = c })) boxes

-- each of these does
abbrev pub turned : ℕ → List ℕ → List Node → List Node
turned c qs boxes = each (turned_one c) qs boxes

-- the steps of M2: each quantifier over b ranges over c, b goes, and those stay that the root reached before
abbrev pub drop_steps : ℕ → ℕ → QueryGraph → QueryGraph
drop_steps b c g = keep (reached (g.root ∷ []) g.boxes) (drop_box b (on_boxes (turned c (quants_over b g.boxes)) g))
