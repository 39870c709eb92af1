-- The quantifiers of a box that nothing names, and that they go one by one.
use Rattle.std.specs.Prelude.{ℕ, ◌&&◌, not, if◌then◌else◌, List, ◌∷◌, []}
use Rattle.qgm_core.specs.Boxes.{QueryGraph}
use Rattle.qgm_core.specs.Edits.{drop_quant}
use Rattle.qgm_core.specs.Kinds.{is_F}
use Rattle.qgm_core.specs.declared.node.Node.{Node}
use Rattle.qgm_core.specs.declared.owned.OwnedQuant.{OwnedQuant}
use Rattle.qgm_edit_laws.specs.Graph.{nodes_in}

-- those of these that are no F and of which no node stands in b
abbrev pub unnamed : Node → List OwnedQuant → List ℕ
unnamed b [] = []
unnamed b (r ∷ rs) = if not (is_F r.kind) && not (nodes_in r.id b) then r.id ∷ unnamed b rs else unnamed b rs

abbrev pub dropped_all : List ℕ → QueryGraph → QueryGraph
dropped_all [] g = g
dropped_all (q ∷ qs) g = dropped_all qs (drop_quant q g)
