-- U3 preserves where it may fire.
use Rattle.std.proofs.Common.{◌≡◌, List, None, refl, sym, subst}
use Rattle.qgm_core.specs.Boxes.{QueryGraph, numbers}
use Rattle.list_laws.specs.Lists.{EachOnce}
use Rattle.qgm_core.specs.declared.node.Node.{Node}
use Rattle.qgm_core.specs.declared.owned.OwnedQuant.{OwnedQuant}
use Rattle.qgm_wellformed.specs.WellFormed.{fault}
use Rattle.qgm_wellformed.proofs.Faults.{finds-none}
use Rattle.rule_api.specs.Rules.{Preserves}
use Rattle.rule_api.specs.declared.place.Place.{Place}
use Rattle.rule_facts.specs.Places.{ActionPreserves}
use Rattle.rule_facts.proofs.FactsThere.{there, here-at}
use Rattle.rule_facts.proofs.Actions.{finish}
use Rattle.rule_subquery.specs.ScalarToJoin.{column_box, MayScalarToJoinAt, scalar_joined, MayScalarToJoin, JoinsScalar}
use Rattle.rule_subquery.proofs.ScalarToJoinMeans.{scalar-preserves}

module _ (g : QueryGraph) (u : EachOnce (numbers g.boxes)) (f : fault g ≡ None) where
  pub scalar-joined-keeps : (p : Place) (b : Node) (us : List OwnedQuant) (r : OwnedQuant) (vs : List OwnedQuant) → MayScalarToJoinAt p g b us r vs → Preserves g (scalar_joined g b us r vs)
  scalar-joined-keeps p b us r vs m = finish g u f b.id (column_box us r vs) (λ y. refl) (scalar-preserves g u f b us r vs (record {
    within = here-at g u f b p.at m.at;
    select = m.select;
    plain = m.plain;
    split = m.split;
    is_s = m.is_s;
    clean = λ tables s env fit. (there g u f tables s env fit).clean r.over m.clean;
    one = λ tables s env fit. (there g u f tables s env fit).exactly_one r.over m.one;
  }))

pub scalar-to-join-preserves : ActionPreserves MayScalarToJoin JoinsScalar
unfolding JoinsScalar
scalar-to-join-preserves g h u w p may e = subst (λ (z : QueryGraph). Preserves g z) (sym e.1.1.1.1.1) (scalar-joined-keeps g u ((finds-none g u).1 w) p e.0 e.1.0 e.1.1.0 e.1.1.1.0 e.1.1.1.1.0)
