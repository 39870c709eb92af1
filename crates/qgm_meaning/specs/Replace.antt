-- A box in the place of another.
use Rattle.std.specs.Prelude.{ℕ}
use Rattle.qgm_core.specs.Boxes.{QueryGraph, is_box}
use Rattle.list_laws.specs.Lists.{change}
use Rattle.qgm_core.specs.declared.node.Node.{Node}

-- a box in the place of box b
abbrev pub replace : ℕ → Node → QueryGraph → QueryGraph
replace b n g = record g { boxes = change (is_box b) (λ _. n) g.boxes }
