-- U4 preserves where it may fire.
use Rattle.std.proofs.Common.{◌≡◌, List, length, None, refl, sym, subst, inl, inr}
use Rattle.sql_value.specs.declared.order_key.SqlType.{SqlType}
use Rattle.qgm_core.specs.Boxes.{QueryGraph, numbers}
use Rattle.list_laws.specs.Lists.{EachOnce, In}
use Rattle.qgm_core.specs.declared.kinds.SetOperator.{SetOperator}
use Rattle.qgm_core.specs.declared.node.Node.{Node}
use Rattle.qgm_core.specs.declared.owned.OwnedQuant.{OwnedQuant}
use Rattle.qgm_wellformed.specs.WellFormed.{fault}
use Rattle.qgm_wellformed.proofs.Faults.{finds-none}
use Rattle.qgm_props.proofs.FactsFit.{arms-fit}
use Rattle.qgm_edit_laws.proofs.CheckedParts.{sound}
use Rattle.rule_api.specs.Rules.{Preserves}
use Rattle.rule_api.specs.declared.place.Place.{Place}
use Rattle.rule_facts.proofs.Premises.{premises}
use Rattle.rule_facts.specs.Places.{ActionPreserves}
use Rattle.rule_facts.proofs.FactsThere.{here-at}
use Rattle.rule_facts.proofs.Actions.{finish}
use Rattle.rule_subquery.specs.SetToExists.{set_box, MaySetToExistsAt, set_selected, MaySetToExists, SelectsSet}
use Rattle.rule_subquery.proofs.SetToExistsMeans.{sets-preserve}

module _ (g : QueryGraph) (u : EachOnce (numbers g.boxes)) (f : fault g ≡ None) where
  pub set-selected-keeps : (p : Place) (b : Node) (form : SetOperator) (types : List SqlType) (l r : OwnedQuant) → MaySetToExistsAt p g b form types l r → Preserves g (set_selected g b form types l r)
  set-selected-keeps p b form types l r m = finish g u f b.id (set_box form l r (length types)) (λ y. refl) (sets-preserve g u f b form types l r m.alone (record {
    within = here-at g u f b p.at m.at;
    kind = m.kind;
    split = m.split;
    clean = λ tables s env fit. arms-fit tables g.boxes (premises g.boxes g.root (sound g u f) tables s) b form types l r (here-at g u f b p.at m.at) m.kind (subst (λ z. In l z) (sym m.split) (inl refl)) (subst (λ z. In r z) (sym m.split) (inr (inl refl))) m.clean_l m.clean_r m.free env fit;
  }))

pub set-to-exists-preserves : ActionPreserves MaySetToExists SelectsSet
unfolding SelectsSet
set-to-exists-preserves g h u w p may e = subst (λ (z : QueryGraph). Preserves g z) (sym e.1.1.1.1.1.1) (set-selected-keeps g u ((finds-none g u).1 w) p e.0 e.1.0 e.1.1.0 e.1.1.1.0 e.1.1.1.1.0 e.1.1.1.1.1.0)
