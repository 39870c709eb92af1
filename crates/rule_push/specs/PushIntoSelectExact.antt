-- P1 has exactly the places where it may fire, in order.
use Rattle.std.specs.Prelude.{ℕ, ◌≡◌, ◌↔◌, true}
use Rattle.std.proofs.lemmas.Bool.{and_from, and_parts}
use Rattle.qgm_core.specs.Boxes.{QueryGraph, box_of, numbers}
use Rattle.qgm_core.specs.Edits.{conds_in}
use Rattle.list_laws.specs.Lists.{EachOnce, In}
use Rattle.qgm_core.specs.declared.node.Node.{Node}
use Rattle.qgm_core.specs.declared.owned.OwnedQuant.{OwnedQuant}
use Rattle.qgm_terms.specs.Terms.{Cond}
use Rattle.qgm_wellformed.specs.Sentences.{WellFormed}
use Rattle.rule_api.specs.PickLaws.{picks_ascending}
use Rattle.rule_api.specs.Rules.{Ascending}
use Rattle.rule_api.specs.declared.place.Place.{Place}
use Rattle.rule_facts.specs.Places.{is_plain_select, plain-from, plain-to}
use Rattle.rule_push.specs.PushExact.{push-exact}
use Rattle.rule_push.specs.PushIntoSelect.{IsSelectUnder, MayPushIntoSelect, push_into_select_pairs, select_passes}
use Rattle.rule_push.specs.PushPlaces.{MayPush, leaves}
use Rattle.rule_push.specs.Small.{is_small}

pub is-so : (p : Cond) (r : OwnedQuant) (c : Node) → (select_passes p r c ≡ true) ↔ IsSelectUnder p r c
is-so p r c = (
  λ h. (let b = and_parts (is_plain_select c) (is_small r.id c.parts.head p) h in let a = plain-from c b.0 in record { select = a.0; plain = a.1; small = b.1 }),
  λ m. and_from (is_plain_select c) (is_small r.id c.parts.head p) (plain-to c m.select m.plain) m.small,
)

pub push_into_select_exact : (g : QueryGraph) (b i j : ℕ) → EachOnce (numbers g.boxes) → WellFormed g → In (i, j) (push_into_select_pairs g b) ↔ MayPushIntoSelect (record { at = b; i = i; j = j }) g
unfolding push_into_select_pairs MayPushIntoSelect
push_into_select_exact g b i j once w = push-exact g w select_passes IsSelectUnder (λ p r c h. is-so p r c) b i j

pub push_into_select_ascending : (g : QueryGraph) (b : ℕ) → Ascending (push_into_select_pairs g b)
unfolding push_into_select_pairs
push_into_select_ascending g b = picks_ascending (leaves select_passes g (box_of b g)) 1 (conds_in (box_of b g))

-- at one of its places it may fire
pub push_into_select_given : (g : QueryGraph) → WellFormed g → (at : Place) → In (at.i, at.j) (push_into_select_pairs g at.at) → MayPush IsSelectUnder at g
unfolding push_into_select_pairs
push_into_select_given g w at h = (push-exact g w select_passes IsSelectUnder (λ p r c h. is-so p r c) at.at at.i at.j).0 h
