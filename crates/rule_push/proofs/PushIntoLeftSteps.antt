-- P4: what its steps do.
use Rattle.std.proofs.Common.{◌==◌, ◌≡◌, false, ◌∷◌, refl, sym, subst, ◌∙◌, inl, []}
use Rattle.qgm_core.specs.Boxes.{HasBox, QueryGraph, numbers}
use Rattle.list_laws.specs.Lists.{EachOnce, In}
use Rattle.qgm_wellformed.specs.Sentences.{WellFormed}
use Rattle.qgm_terms.specs.Substitution.{substituted_cond}
use Rattle.qgm_terms.specs.Terms.{Cond}
use Rattle.rule_api.specs.Rules.{Preserves}
use Rattle.rule_api.specs.declared.place.Place.{Place}
use Rattle.rule_push.specs.Leaving.{Through}
use Rattle.rule_push.specs.Moves.{push_steps}
use Rattle.rule_push.specs.PushExact.{weaker}
use Rattle.rule_push.specs.PushPlaces.{MayPush}
use Rattle.rule_push.specs.PushIntoLeft.{ActsPushIntoLeft, IsOuterJoinUnder, PlansIntoLeft, PushesIntoLeft}
use Rattle.rule_push.specs.declared.moves.PushPlan.{PushPlan}
use Rattle.rule_push.proofs.LeavingSteps as steps
use Rattle.rule_push.proofs.Preserving.{push-into-left-preserves}

-- its left arm is the first
abbrev pub through : (g : QueryGraph) (pl : Place) → MayPush (IsOuterJoinUnder g) pl g → MayPush (Through g) pl g
through g pl m = weaker pl g (λ p r c x. record { s = x.s; others = x.t ∷ []; n = x.n; quants = x.two; under = x.input.under }) m

module _ (g : QueryGraph) (w : WellFormed g) (pl : Place) (m : MayPush (IsOuterJoinUnder g) pl g) (u : EachOnce (numbers g.boxes)) (x : PushPlan) (plans : PlansIntoLeft pl g x) where
  abbrev below : Cond
  below = substituted_cond m.fits.s.id m.fits.n.parts.head (substituted_cond m.r.id m.c.parts.head m.p)

  in-s : In m.fits.s m.c.quants
  in-s = subst (λ z. In m.fits.s z) (sym m.fits.two) (inl refl)

  in-n : In m.fits.n g.boxes
  in-n = steps.in-n g w pl m u m.fits.s in-s m.fits.n m.fits.input.under

  b-not-n : (m.b.id == m.fits.n.id) ≡ false
  b-not-n = steps.b-not-n g w pl m u m.fits.s in-s m.fits.n m.fits.input.under

  pub from-there : HasBox x.b g
  from-there = steps.from-there g w pl m u m.fits.n in-n b-not-n below x (plans m)

  pub to-there : HasBox x.n g
  to-there = steps.to-there g w pl m u m.fits.n in-n b-not-n below x (plans m)

  pushes : (h : QueryGraph) → h ≡ push_steps x g → PushesIntoLeft pl g h
  pushes h e = record { may = m; after = e ∙ steps.done g w pl m u m.fits.n in-n b-not-n below x (plans m) }

  pub acts : (h : QueryGraph) → h ≡ push_steps x g → ActsPushIntoLeft pl g h
  unfolding ActsPushIntoLeft
  acts h e = pushes h e

  pub preserves : (h : QueryGraph) → h ≡ push_steps x g → Preserves g h
  preserves h e = push-into-left-preserves g h u w pl (pushes h e)
