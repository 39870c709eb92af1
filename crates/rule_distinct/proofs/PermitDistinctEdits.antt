-- The edits in place of L2 come to its action.
use Rattle.std.proofs.Common.{◌≡◌, sym, ap, subst, ◌∙◌, eqb-true}
use Rattle.qgm_core.specs.Boxes.{HasBox, QueryGraph, is_box, numbers}
use Rattle.qgm_core.specs.Edits.{compact, set_distinct}
use Rattle.list_laws.specs.Lists.{EachOnce}
use Rattle.qgm_core.specs.declared.kinds.Distinct.TheVariants.{Permit}
use Rattle.qgm_wellformed.specs.Sentences.{WellFormed}
use Rattle.qgm_wellformed.proofs.Faults.{finds-none}
use Rattle.qgm_edit_laws.proofs.Levels.{some-in}
use Rattle.rule_api.specs.Rules.{Preserves}
use Rattle.rule_api.specs.declared.place.Place.{Place}
use Rattle.rule_distinct.specs.PermitDistinct.{MayPermitDistinct, PermitsDistinct}
use Rattle.rule_distinct.proofs.PermitDistinctKeeps.{permit-distinct-keeps}
use Rattle.list_laws.proofs.Membership.{any-from}

module _ (g : QueryGraph) (p : Place) (m : MayPermitDistinct p g) where
  pub permit_held : HasBox p.at g
  unfolding MayPermitDistinct
  permit_held = let i = some-in (is_box p.at) g.boxes m.0 m.1.box.at in any-from (is_box p.at) m.0 g.boxes i.0 i.1

  module _ (h : QueryGraph) (made : h ≡ compact (set_distinct p.at Permit g)) where
    pub permit_acts : PermitsDistinct p g h
    unfolding MayPermitDistinct PermitsDistinct
    permit_acts = (m.0, (m.1.box.at, made ∙ ap (λ b. compact (set_distinct b Permit g)) (sym (eqb-true (m.0).id p.at (some-in (is_box p.at) g.boxes m.0 m.1.box.at).1))))

    pub permit_preserves : EachOnce (numbers g.boxes) → WellFormed g → Preserves g h
    unfolding MayPermitDistinct
    permit_preserves u w = subst (λ (z : QueryGraph). Preserves g z) (sym (made ∙ ap (λ b. compact (set_distinct b Permit g)) (sym (eqb-true (m.0).id p.at (some-in (is_box p.at) g.boxes m.0 m.1.box.at).1)))) (permit-distinct-keeps g u ((finds-none g u).1 w) p m.0 m.1)
