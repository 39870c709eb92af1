-- M2 on graphs: a box that gives what the box under it gives is dropped.
use Rattle.std.specs.Prelude.{ℕ, ◌≡◌, ◌==◌, true, false, List, [], ◌∷◌, map}
use Rattle.qgm_core.specs.Boxes.{QueryGraph, is_box, width}
use Rattle.qgm_core.specs.Edits.{compact, on_boxes}
use Rattle.qgm_core.specs.Kinds.{is_F, is_enforce}
use Rattle.list_laws.specs.Lists.{In, without}
use Rattle.qgm_core.specs.declared.kinds.BoxKind.TheVariants.{Select}
use Rattle.qgm_core.specs.declared.node.Node.{Node}
use Rattle.qgm_core.specs.declared.owned.OwnedQuant.{OwnedQuant}
use Rattle.qgm_edit_laws.specs.Ranges.{columns_from, moved}

-- without b
abbrev pub drop_box : ℕ → ℕ → List Node → List Node
drop_box b c bs = map (moved b c) (without (is_box b) bs)

-- b is a select without ENFORCE, not the root, with one F quantifier and no other, and no conjunct; its head is all columns of the box under it, in order
pub record MayDrop (g : QueryGraph) (b c : Node) (r : OwnedQuant) : Type 0 where
  pub in_b : In b g.boxes
  pub in_c : In c g.boxes
  pub a_select : b.parts.kind ≡ Select
  pub not_enforced : is_enforce b.parts.distinct ≡ false
  pub not_root : (g.root == b.id) ≡ false
  pub alone : b.quants ≡ r ∷ []
  pub is_f : is_F r.kind ≡ true
  pub over_c : r.over ≡ c.id
  pub no_conds : b.parts.conds.items ≡ []
  pub all_columns : b.parts.head ≡ columns_from r.id 1 (width c)

-- without b, and without boxes that the root no longer reaches
abbrev pub dropped : Node → Node → QueryGraph → QueryGraph
dropped b c g = compact (on_boxes (drop_box b.id c.id) g)
