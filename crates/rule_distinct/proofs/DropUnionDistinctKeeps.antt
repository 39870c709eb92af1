-- L3 preserves where it may fire.
use Rattle.std.proofs.Common.{◌≡◌, None, sym, ap, subst, ◌∙◌}
use Rattle.qgm_core.specs.Boxes.{QueryGraph, numbers}
use Rattle.list_laws.specs.Lists.{EachOnce}
use Rattle.qgm_core.specs.declared.kinds.Distinct.TheVariants.{Preserve}
use Rattle.qgm_core.specs.declared.node.Node.{Node}
use Rattle.qgm_wellformed.specs.WellFormed.{fault}
use Rattle.qgm_wellformed.proofs.Faults.{finds-none}
use Rattle.rule_api.specs.Rules.{Preserves}
use Rattle.rule_api.specs.declared.place.Place.{Place}
use Rattle.rule_facts.proofs.Actions.{finish-set}
use Rattle.rule_facts.specs.Places.{ActionPreserves}
use Rattle.rule_distinct.proofs.DropUnionDistinctMeans.{under-union}
use Rattle.rule_distinct.specs.DropUnionDistinct.{MayDropUnionDistinctAt, MayDropUnionDistinct}
use Rattle.rule_distinct.specs.PlainAt.{DropsDistinct, made_preserve}
use Rattle.rule_distinct.proofs.OtherDistinct.{plain-of, same-place}

module _ (g : QueryGraph) (u : EachOnce (numbers g.boxes)) (f : fault g ≡ None) where
  pub drop-union-distinct-keeps : (p : Place) (b : Node) → MayDropUnionDistinctAt p g b → Preserves g (made_preserve g b)
  drop-union-distinct-keeps p b m = finish-set g u f b.id Preserve (under-union g u f b (plain-of g u f p b m.box) m.owner m.over m.types (record {
    enforced = m.enforced;
    in_p = m.in_owner;
    owned = m.owned;
    over = m.over_b;
    union = m.union;
    one_use = m.one_use;
  }))

pub drop-union-distinct-preserves : ActionPreserves MayDropUnionDistinct DropsDistinct
unfolding MayDropUnionDistinct DropsDistinct
drop-union-distinct-preserves g h u w p may e = subst (λ (z : QueryGraph). Preserves g z) (ap (made_preserve g) (same-place g p.at may.0 e.0 may.1.box.at e.1.0) ∙ sym e.1.1) (drop-union-distinct-keeps g u ((finds-none g u).1 w) p may.0 may.1)
