-- P1: what its steps do.
use Rattle.std.proofs.Common.{◌≡◌, ◌∙◌}
use Rattle.qgm_core.specs.Boxes.{HasBox, QueryGraph, numbers}
use Rattle.list_laws.specs.Lists.{EachOnce}
use Rattle.qgm_wellformed.specs.Sentences.{WellFormed}
use Rattle.qgm_terms.specs.Substitution.{substituted_cond}
use Rattle.qgm_terms.specs.Terms.{Cond}
use Rattle.rule_api.specs.Rules.{Preserves}
use Rattle.rule_api.specs.declared.place.Place.{Place}
use Rattle.rule_push.specs.Moves.{push_steps}
use Rattle.rule_push.specs.PushPlaces.{MayPush}
use Rattle.rule_push.specs.PushIntoSelect.{ActsPushIntoSelect, IsSelectUnder, PlansAt, PushesIntoSelect}
use Rattle.rule_push.specs.declared.moves.PushPlan.{PushPlan}
use Rattle.rule_push.proofs.LeavingSteps as steps
use Rattle.rule_push.proofs.Preserving.{push-into-select-preserves}

module _ (g : QueryGraph) (w : WellFormed g) (pl : Place) (m : MayPush IsSelectUnder pl g) (u : EachOnce (numbers g.boxes)) (x : PushPlan) (plans : PlansAt pl g x) where
  abbrev below : Cond
  below = substituted_cond m.r.id m.c.parts.head m.p

  pub from-there : HasBox x.b g
  from-there = steps.from-there g w pl m u m.c (steps.in-c g w pl m u) (steps.b-not-c g w pl m u) below x (plans m)

  pub to-there : HasBox x.n g
  to-there = steps.to-there g w pl m u m.c (steps.in-c g w pl m u) (steps.b-not-c g w pl m u) below x (plans m)

  pushes : (h : QueryGraph) → h ≡ push_steps x g → PushesIntoSelect pl g h
  pushes h e = record { may = m; after = e ∙ steps.done g w pl m u m.c (steps.in-c g w pl m u) (steps.b-not-c g w pl m u) below x (plans m) }

  pub acts : (h : QueryGraph) → h ≡ push_steps x g → ActsPushIntoSelect pl g h
  unfolding ActsPushIntoSelect
  acts h e = pushes h e

  pub preserves : (h : QueryGraph) → h ≡ push_steps x g → Preserves g h
  preserves h e = push-into-select-preserves g h u w pl (pushes h e)
