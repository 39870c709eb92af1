-- The steps of J2 add a conjunct to a box.
use Rattle.std.proofs.Common.{◌≡◌, ap, ◌∙◌}
use Rattle.qgm_core.specs.Boxes.{HasBox, QueryGraph, has_box, is_box, numbers}
use Rattle.qgm_core.specs.Edits.{compact}
use Rattle.list_laws.specs.Lists.{EachOnce, In}
use Rattle.qgm_core.proofs.Reaching.{in-has}
use Rattle.qgm_terms.specs.Terms.{col, compare, equal}
use Rattle.qgm_edit_laws.proofs.CheckedParts.{sound}
use Rattle.qgm_edit_laws.proofs.Levels.{some-in}
use Rattle.qgm_edit_laws.specs.ConjunctEdits.{put_conjunct}
use Rattle.qgm_wellformed.specs.Sentences.{WellFormed}
use Rattle.qgm_wellformed.proofs.Faults.{finds-none}
use Rattle.rule_api.specs.Rules.{Preserves}
use Rattle.rule_api.specs.declared.place.Place.{Place}
use Rattle.rule_trans.specs.Adding.{add_steps}
use Rattle.rule_trans.specs.EqualLiteral.{AddsEqualLiteral}
use Rattle.rule_trans.specs.EqualLiteralExact.{PlansAt}
use Rattle.rule_trans.specs.declared.adding.AddPlan.{AddPlan}
use Rattle.rule_trans.proofs.AddSteps.{steps-add}
use Rattle.rule_trans.proofs.Preserving.{equal-literal-preserves}

module _ (g : QueryGraph) (w : WellFormed g) (u : EachOnce (numbers g.boxes)) (pl : Place) (x : AddPlan) (plans : PlansAt pl g x) where
  in-n : In plans.0.n g.boxes
  in-n = (some-in (is_box pl.at) g.boxes plans.0.n plans.0.implied.found).0

  pub there : HasBox x.n g
  there = ap (λ (z : AddPlan). has_box g.boxes z.n) plans.1 ∙ in-has plans.0.n g.boxes in-n

  done : add_steps x g ≡ compact (put_conjunct plans.0.n (compare equal (col plans.0.p plans.0.j) plans.0.z) g)
  done = ap (λ (z : AddPlan). add_steps z g) plans.1 ∙ steps-add g (sound g u ((finds-none g u).1 w)).ordered plans.0.n in-n (compare equal (col plans.0.p plans.0.j) plans.0.z)

  pub acts : (h : QueryGraph) → h ≡ add_steps x g → AddsEqualLiteral pl g h
  acts h e = record { may = plans.0; after = e ∙ done }

  pub preserves : (h : QueryGraph) → h ≡ add_steps x g → Preserves g h
  preserves h e = equal-literal-preserves g h u w pl (acts h e)
