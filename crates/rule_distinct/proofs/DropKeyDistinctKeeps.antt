-- L1 preserves where it may fire.
use Rattle.std.proofs.Common.{◌≡◌, true, false, None, refl, sym, ap, subst, ◌∙◌}
use Rattle.qgm_core.specs.Boxes.{QueryGraph, numbers, width}
use Rattle.qgm_core.specs.Edits.{set_distinct, with_distinct}
use Rattle.qgm_core.specs.Kinds.{is_magic}
use Rattle.list_laws.specs.Lists.{EachOnce}
use Rattle.qgm_core.specs.declared.kinds.Distinct.TheVariants.{Preserve}
use Rattle.qgm_core.specs.declared.node.Node.{Node}
use Rattle.qgm_wellformed.specs.WellFormed.{fault}
use Rattle.qgm_wellformed.proofs.Faults.{finds-none}
use Rattle.qgm_props.specs.InferredKeys.{places_to}
use Rattle.qgm_edit_laws.proofs.DistinctForms.{set-distinct-formed}
use Rattle.rule_api.specs.Rules.{Preserves}
use Rattle.rule_api.specs.declared.place.Place.{Place}
use Rattle.rule_facts.proofs.FactsThere.{there}
use Rattle.rule_facts.proofs.Actions.{finish-set, once-on, on-is}
use Rattle.rule_facts.specs.Places.{ActionPreserves}
use Rattle.rule_distinct.proofs.OtherDistinct.{PlainSelect, plain-of, same-place}
use Rattle.rule_distinct.proofs.DropKeyDistinctMeans.{key-preserves}
use Rattle.rule_distinct.specs.DropKeyDistinct.{MayDropKeyDistinctAt, MayDropKeyDistinct}
use Rattle.rule_distinct.specs.PlainAt.{DropsDistinct, made_preserve}

-- the graph in which it is PRESERVE
module _ (g : QueryGraph) (u : EachOnce (numbers g.boxes)) (f : fault g ≡ None) (b : Node) (plain : PlainSelect g.boxes b) where
  abbrev as_preserve : QueryGraph
  as_preserve = set_distinct b.id Preserve g

  pub preserve-once : EachOnce (numbers as_preserve.boxes)
  preserve-once = subst (λ (z : QueryGraph). EachOnce (numbers z.boxes)) (sym (on-is g u f b.id (with_distinct Preserve))) (once-on g u f b.id (with_distinct Preserve) (λ y. refl))

  pub preserve-formed : fault as_preserve ≡ None
  preserve-formed = set-distinct-formed g u f b Preserve (record {
    within = plain.within;
    not_root = λ t. absurd (let z : ⊥ = cc in z);
    unseen = λ t. absurd (let z : ⊥ = cc in z);
    magic = λ t. absurd (let z : is_magic b.parts.role ≡ false = ap is_magic plain.plain in let y : true ≡ false = sym t ∙ z in let z : ⊥ = cc in z);
    fed = λ t. refl;
  })

module _ (g : QueryGraph) (u : EachOnce (numbers g.boxes)) (f : fault g ≡ None) (p : Place) (b : Node) (m : MayDropKeyDistinctAt p g b) where
  pub drop-key-distinct-keeps : Preserves g (made_preserve g b)
  drop-key-distinct-keeps = finish-set g u f b.id Preserve (key-preserves g u f b plain (places_to (width b)) (record {
    enforced = m.enforced;
    key = λ tables s env fit. (there (set_distinct b.id Preserve g) (preserve-once g u f b plain) (preserve-formed g u f b plain) tables s env fit).keys b.id (places_to (width b)) m.key;
  }))
    where
      plain : PlainSelect g.boxes b
      plain = plain-of g u f p b m.box

pub drop-key-distinct-preserves : ActionPreserves MayDropKeyDistinct DropsDistinct
unfolding MayDropKeyDistinct DropsDistinct
drop-key-distinct-preserves g h u w p may e = subst (λ (z : QueryGraph). Preserves g z) (ap (made_preserve g) (same-place g p.at may.0 e.0 may.1.box.at e.1.0) ∙ sym e.1.1) (drop-key-distinct-keeps g u ((finds-none g u).1 w) p may.0 may.1)
