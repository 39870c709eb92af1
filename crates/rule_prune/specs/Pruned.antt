-- What the code of N1 and N2 does.
use Rattle.std.specs.Prelude.{ℕ, ◌≡◌, Some}
use Rattle.qgm_core.specs.Boxes.{QueryGraph, box_of}
use Rattle.qgm_core.specs.Edits.{compact, drop_column}
use Rattle.qgm_core.specs.declared.node.Node.{Node}
use Rattle.qgm_edit_laws.specs.Changes.{LosesColumn}
use Rattle.rule_prune.specs.Unnamed.{dropped_all, unnamed}

-- no cell or condition reads column k of box b, and no set operation ranges over it
abbrev pub MayCut : QueryGraph → ℕ → ℕ → Type 0
MayCut g b k = (n : Node) × ((box_of b g ≡ Some n) × LosesColumn g.boxes n k)

-- column k of box b goes, then the quantifiers of it that are no F and that nothing names, then the boxes that the root doesn't reach
pub record Prunes (b k : ℕ) (g h : QueryGraph) : Type 0 where
  pub left : Node
  pub found : box_of b (drop_column b k g) ≡ Some left
  pub after : h ≡ compact (dropped_all (unnamed left left.quants) (drop_column b k g))
