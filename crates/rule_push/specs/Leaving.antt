-- What leaves a box at a place of P1 to P4, and where it goes.
use Rattle.std.specs.Prelude.{◌≡◌, ◌≤◌, List, ◌∷◌, length, Option, Some, None, []}
use Rattle.qgm_core.specs.Boxes.{QueryGraph, box_of}
use Rattle.qgm_core.specs.declared.node.Node.{Node}
use Rattle.qgm_core.specs.declared.owned.OwnedQuant.{OwnedQuant}
use Rattle.qgm_terms.specs.Shown.{cond}
use Rattle.qgm_terms.specs.Substitution.{substituted_cond}
use Rattle.qgm_terms.specs.Terms.{Cond}
use Rattle.rule_api.specs.declared.place.Place.{Place}
use Rattle.rule_push.specs.Moves.{push_plan}
use Rattle.rule_push.specs.PushPlaces.{Anywhere, MayPush}
use Rattle.rule_push.specs.declared.leaving.Leaving.{Leaving}
use Rattle.rule_push.specs.declared.moves.PushPlan.{PushPlan}

-- the box, the conjunct, its quantifier and the box under that are those of the place
pub record LeavesAt (at : Place) (g : QueryGraph) (m : MayPush Anywhere at g) (x : Leaving) : Type 0 where
  pub from_one : 1 ≤ at.i
  pub within : at.i ≤ length x.b.now.parts.conds.items
  pub b : x.b.now ≡ m.b
  pub p : cond x.p.now ≡ m.p
  pub r : x.r ≡ m.r
  pub c : x.c.now ≡ m.c

-- the first of these quantifiers, and the second
abbrev pub first_range : List OwnedQuant → Option OwnedQuant
first_range [] = None
first_range (s ∷ rs) = Some s

abbrev pub second_range : List OwnedQuant → Option OwnedQuant
second_range [] = None
second_range (s ∷ rs) = first_range rs

-- c has a first quantifier s, over n
pub record Through (g : QueryGraph) (p : Cond) (r : OwnedQuant) (c : Node) : Type 0 where
  pub s : OwnedQuant
  pub others : List OwnedQuant
  pub n : Node
  pub quants : c.quants ≡ s ∷ others
  pub under : box_of s.over g ≡ Some n

-- a conjunct goes into n through the cells of c and then of n
abbrev pub PlansThrough : Place → QueryGraph → PushPlan → Type 0
PlansThrough at g x =
    (m : MayPush (Through g) at g) → x ≡ push_plan m.b (length m.ps) m.fits.n (substituted_cond m.fits.s.id m.fits.n.parts.head (substituted_cond m.r.id m.c.parts.head m.p))
