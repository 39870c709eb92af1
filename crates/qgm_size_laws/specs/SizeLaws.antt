-- What a query is written with is what its cells and conditions have, and bounds what its boxes have.
use Rattle.std.specs.Prelude.{◌≡◌, ◌≤◌, ◌+◌, ℕ}
use Rattle.sql_meaning.specs.ResolvedTrees.{Query, Test, Value}
use Rattle.qgm_box_size.specs.Nodes.{boxes_size}
use Rattle.qgm_build_size.specs.Sizes.{query_size, test_size, value_size}
use Rattle.qgm_size_laws.specs.Columns.{columns_in}
use Rattle.qgm_term_size.specs.Size.{cell_size, cond_size}
use Rattle.qgm_translation.specs.Lay.{Boxes, lay}
use Rattle.qgm_translation.specs.Leaves.{Slots}
use Rattle.qgm_translation.specs.Maps.{Frame, Map}
use Rattle.qgm_translation.specs.Sources.{Sources}
use Rattle.qgm_translation.specs.Terms.{cond, term}

-- the nodes of a cell and of a condition are exactly those that are counted as its own
abbrev pub CellCounted : Type 0
CellCounted = (sources : Sources) (fr : Frame) (m : Map) (s : Slots) (x : Value) → cell_size (term sources fr m s x) ≡ (value_size x).own

abbrev pub CondCounted : Type 0
CondCounted = (sources : Sources) (fr : Frame) (m : Map) (s : Slots) (p : Test) → cond_size (cond sources fr m s p) ≡ (test_size p).own

-- the boxes that came between s and t have at most n nodes more than columns
pub record Grows (s t : Boxes) (n : ℕ) : Type 0 where
  pub grows : boxes_size t.made + columns_in s.types ≤ boxes_size s.made + columns_in t.types + n

-- the boxes of a query have no more nodes than the query is written with, and one for each column of them
abbrev pub LaidSize : Type 0
LaidSize = (known : Sources) (at : Boxes → Sources) (query : Query) (m : Map) (s : Boxes) → Grows s (lay known at query m s).boxes (query_size query)
