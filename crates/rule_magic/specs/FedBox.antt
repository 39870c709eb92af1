-- A fed box, of which the second box is to be absorbed, and the boxes that stay.
use Rattle.std.specs.Prelude.{◌≡◌, ◌==◌, true, false, List, [], ◌∷◌}
use Rattle.row_bag.specs.declared.tables.Table.{Table}
use Rattle.qgm_core.specs.Boxes.{Ordered, QueryGraph, width}
use Rattle.qgm_core.specs.Kinds.{is_F, is_enforce}
use Rattle.list_laws.specs.Lists.{In}
use Rattle.qgm_core.specs.declared.kinds.BoxKind.TheVariants.{Select}
use Rattle.qgm_core.specs.declared.node.Node.{Node}
use Rattle.qgm_core.specs.declared.owned.OwnedQuant.{OwnedQuant}
use Rattle.qgm_meaning.specs.Meaning.{bag}
use Rattle.qgm_meaning.specs.Values.{Environment}
use Rattle.qgm_meaning.specs.Widths.{Wide}
use Rattle.rule_magic.specs.Boxes.{of_both}
use Rattle.rule_magic.specs.UnderTags.{AreTags}

-- box d has the quantifiers a over m and r over c, which nothing else ranges over, and its head is all columns of both
pub record IsFedAt (tables : List Table) (g : QueryGraph) (d m c : Node) (a r : OwnedQuant) : Type 0 where
  pub ordered : Ordered g.boxes
  pub in_d : In d g.boxes
  pub in_m : In m g.boxes
  pub in_c : In c g.boxes
  pub a_select : d.parts.kind ≡ Select
  pub not_once : is_enforce d.parts.distinct ≡ false
  pub no_cond : d.parts.conds.items ≡ []
  pub quants : d.quants ≡ a ∷ (r ∷ [])
  pub row_a : is_F a.kind ≡ true
  pub row_r : is_F r.kind ≡ true
  pub apart : (r.id == a.id) ≡ false
  pub over_m : a.over ≡ m.id
  pub over_c : r.over ≡ c.id
  pub head : d.parts.head ≡ of_both a.id (width m) r.id (width c)
  pub wide : (n : Node) → In n g.boxes → (e : Environment) → Wide (width n) (bag tables g n.id e)
  -- what the magic box gives, in all environments
  pub tags : (e : Environment) → AreTags (width m) (bag tables g m.id e)

-- a box of g that isn't one of these two and doesn't range over c
pub record IsOld (g : QueryGraph) (d c : Node) (n : Node) : Type 0 where
  pub within : In n g.boxes
  pub not_d : (n.id == d.id) ≡ false
  pub not_c : (n.id == c.id) ≡ false
  pub elsewhere : (r : OwnedQuant) → In r n.quants → (r.over == c.id) ≡ false
