-- What the text of a graph looks up.
use Rattle.std.specs.Prelude.{◌≡◌}
use Rattle.qgm_wellformed.specs.Types.{lookup_by, lookup_of}
use Rattle.qgm_core.specs.Boxes.{QueryGraph}
use Rattle.graph_print.specs.GraphText.{box_order, quant_order}
use Rattle.graph_print.specs.declared.index.Index.{Index}

-- the types of the columns of a graph, its boxes in their order, and its quantifiers in theirs
abbrev pub IsIndex : Index → QueryGraph → Type 0
IsIndex i g = (lookup_by i.types ≡ lookup_of g.boxes) × (i.boxes ≡ box_order g) × (i.quants ≡ quant_order g)
