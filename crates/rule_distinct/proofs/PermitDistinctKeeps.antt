-- L2 preserves where it may fire.
use Rattle.std.proofs.Common.{◌≡◌, None, sym, ap, subst, ◌∙◌}
use Rattle.qgm_core.specs.Boxes.{QueryGraph, numbers}
use Rattle.list_laws.specs.Lists.{EachOnce}
use Rattle.qgm_core.specs.declared.kinds.Distinct.TheVariants.{Permit}
use Rattle.qgm_core.specs.declared.node.Node.{Node}
use Rattle.qgm_wellformed.specs.WellFormed.{fault}
use Rattle.qgm_wellformed.proofs.Faults.{finds-none}
use Rattle.qgm_props.proofs.Settled.{clean-fits}
use Rattle.qgm_edit_laws.proofs.CheckedParts.{sound}
use Rattle.rule_api.specs.Rules.{Preserves}
use Rattle.rule_api.specs.declared.place.Place.{Place}
use Rattle.rule_facts.proofs.Premises.{premises}
use Rattle.rule_facts.proofs.FactsThere.{here-at}
use Rattle.rule_facts.proofs.Actions.{finish-set}
use Rattle.rule_facts.specs.Places.{ActionPreserves}
use Rattle.rule_distinct.proofs.PermitDistinctMeans.{set-preserves}
use Rattle.rule_distinct.specs.PermitDistinct.{MayPermitDistinctAt, MayPermitDistinct, PermitsDistinct, made_permit}
use Rattle.rule_distinct.proofs.OtherDistinct.{plain-of, same-place}

module _ (g : QueryGraph) (u : EachOnce (numbers g.boxes)) (f : fault g ≡ None) where
  pub permit-distinct-keeps : (p : Place) (b : Node) → MayPermitDistinctAt p g b → Preserves g (made_permit g b)
  permit-distinct-keeps p b m = finish-set g u f b.id Permit (set-preserves g u f b (plain-of g u f p b m.box) (record {
    not_root = m.not_root;
    unseen = m.unseen;
    clean = λ tables s env fit. clean-fits tables g.boxes (premises g.boxes g.root (sound g u f) tables s) b (here-at g u f b p.at m.box.at) m.clean Permit env fit;
  }))

pub permit-distinct-preserves : ActionPreserves MayPermitDistinct PermitsDistinct
unfolding MayPermitDistinct PermitsDistinct
permit-distinct-preserves g h u w p may e = subst (λ (z : QueryGraph). Preserves g z) (ap (made_permit g) (same-place g p.at may.0 e.0 may.1.box.at e.1.0) ∙ sym e.1.1) (permit-distinct-keeps g u ((finds-none g u).1 w) p may.0 may.1)
