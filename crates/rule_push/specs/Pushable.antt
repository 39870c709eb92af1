-- A conjunct that may go down, and the selects that take it.
use Rattle.std.specs.Prelude.{◌≡◌, true, List, Some}
use Rattle.qgm_core.specs.Boxes.{QueryGraph, box_of, overs_in}
use Rattle.list_laws.specs.Lists.{times}
use Rattle.qgm_core.specs.declared.kinds.BoxKind.TheVariants.{Select}
use Rattle.qgm_core.specs.declared.kinds.Role.TheVariants.{Plain}
use Rattle.qgm_core.specs.declared.node.Node.{Node}
use Rattle.qgm_core.specs.declared.owned.OwnedQuant.{OwnedQuant}
use Rattle.qgm_edit_laws.specs.PushDown.{PushesFrom}
use Rattle.qgm_terms.specs.Terms.{Cond}
use Rattle.qgm_terms.specs.Wanted.{reads_cond}

-- b is a plain select with the conjunct p between ps and qs, which is node-free and reads columns of r, an F quantifier of b, and of no other; c is r's box, of 1 use
pub record Pushable (g : QueryGraph) (b c : Node) (ps : List Cond) (p : Cond) (qs : List Cond) (us : List OwnedQuant) (r : OwnedQuant) (vs : List OwnedQuant) : Type 0 where
  pub plain : b.parts.role ≡ Plain
  pub from : PushesFrom g.boxes b ps p qs us r vs
  pub some : reads_cond r.id p ≡ true
  pub under : box_of r.over g ≡ Some c

-- n is a plain select of 1 use under s
pub record Input (g : QueryGraph) (s : OwnedQuant) (n : Node) : Type 0 where
  pub under : box_of s.over g ≡ Some n
  pub one_use : times n.id (overs_in g.boxes) ≡ 1
  pub select : n.parts.kind ≡ Select
  pub plain : n.parts.role ≡ Plain
