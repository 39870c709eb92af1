-- P1: a conjunct goes into the plain select under the one quantifier that it reads.
use Rattle.std.specs.Prelude.{ℕ, ◌≡◌, ◌&&◌, ◌++◌, Bool, true, List, length}
use Rattle.qgm_core.specs.Boxes.{QueryGraph}
use Rattle.qgm_core.specs.Edits.{compact}
use Rattle.qgm_core.specs.declared.kinds.BoxKind.TheVariants.{Select}
use Rattle.qgm_core.specs.declared.kinds.Role.TheVariants.{Plain}
use Rattle.qgm_core.specs.declared.node.Node.{Node}
use Rattle.qgm_core.specs.declared.owned.OwnedQuant.{OwnedQuant}
use Rattle.qgm_edit_laws.specs.ConjunctEdits.{put_conjunct, with_conjuncts}
use Rattle.qgm_terms.specs.Substitution.{substituted_cond}
use Rattle.qgm_terms.specs.Terms.{Cond}
use Rattle.rule_api.specs.Rules.{Pair}
use Rattle.rule_api.specs.declared.place.Place.{Place}
use Rattle.rule_facts.specs.Places.{is_plain_select}
use Rattle.rule_push.specs.Moves.{push_plan}
use Rattle.rule_push.specs.PushPlaces.{MayPush, push_pairs}
use Rattle.rule_push.specs.Small.{is_small}
use Rattle.rule_push.specs.declared.moves.PushPlan.{PushPlan}

-- c, the box under r, is a plain select, whose cells let p grow little
pub record IsSelectUnder (p : Cond) (r : OwnedQuant) (c : Node) : Type 0 where
  pub select : c.parts.kind ≡ Select
  pub plain : c.parts.role ≡ Plain
  pub small : is_small r.id c.parts.head p ≡ true

abbrev pub select_passes : Cond → OwnedQuant → Node → Bool
select_passes p r c = is_plain_select c && is_small r.id c.parts.head p

-- where P1 may fire
unfoldable pub MayPushIntoSelect : Place → QueryGraph → Type 0
MayPushIntoSelect at g = MayPush IsSelectUnder at g

-- the places of P1 at b
unfoldable pub push_into_select_pairs : QueryGraph → ℕ → List Pair
push_into_select_pairs g b = push_pairs select_passes g b

-- the conjunct goes to the end of the conjuncts of the box under the quantifier, with its cells for the columns, and boxes that the root doesn't reach are gone; all else is as in g
pub record PushesIntoSelect (at : Place) (g h : QueryGraph) : Type 0 where
  pub may : MayPush IsSelectUnder at g
  pub after : h ≡ compact (with_conjuncts may.b (may.ps ++ may.qs) (put_conjunct may.c (substituted_cond may.r.id may.c.parts.head may.p) g))

unfoldable pub ActsPushIntoSelect : Place → QueryGraph → QueryGraph → Type 0
ActsPushIntoSelect at g h = PushesIntoSelect at g h

-- what is planned is to do so
abbrev pub PlansAt : Place → QueryGraph → PushPlan → Type 0
PlansAt at g x = (m : MayPush IsSelectUnder at g) → x ≡ push_plan m.b (length m.ps) m.c (substituted_cond m.r.id m.c.parts.head m.p)
