-- A graph of boxes that are made in turn.
use Rattle.std.specs.Prelude.{ℕ, suc, List, [], ◌∷◌, Option}
use Rattle.sql_value.specs.declared.order_key.OrderKey.{OrderKey}
use Rattle.qgm_core.specs.Boxes.{QueryGraph}
use Rattle.qgm_core.specs.declared.made.NewBox.{NewBox}
use Rattle.qgm_core.specs.declared.node.Node.{Node}

-- a box with its number
abbrev pub made_box : ℕ → NewBox → Node
made_box b n = record { id = b; parts = n.parts; quants = n.quants }

-- the next box has number b, and each stands on top of those before it
abbrev pub on_top : ℕ → List NewBox → List Node → List Node
on_top b [] below = below
on_top b (n ∷ ns) below = on_top (suc b) ns (made_box b n ∷ below)

-- by rank: the first made has number 0 and stands last
abbrev pub boxes_of : List NewBox → List Node
boxes_of made = on_top 0 made []

abbrev pub graph_of : List NewBox → ℕ → List (Option (List ℕ)) → List OrderKey → QueryGraph
graph_of made root names order = record { boxes = boxes_of made; root = root; names = names; order = order }
