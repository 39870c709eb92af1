-- P3: what its steps do.
use Rattle.std.proofs.Common.{◌==◌, ◌≡◌, ◌≤◌, ◌++◌, false, ◌∷◌, map, refl, sym, ap, subst, ◌∙◌, inl, inr, []}
use Rattle.qgm_core.specs.Boxes.{HasBox, QueryGraph, numbers}
use Rattle.qgm_core.specs.Edits.{compact}
use Rattle.list_laws.specs.Lists.{EachOnce, In, times}
use Rattle.qgm_core.specs.declared.owned.OwnedQuant.{OwnedQuant}
use Rattle.qgm_wellformed.specs.Sentences.{WellFormed}
use Rattle.qgm_edit_laws.specs.ConjunctEdits.{put_conjunct, with_conjuncts}
use Rattle.qgm_edit_laws.proofs.Edits.{split-once}
use Rattle.qgm_edit_laws.proofs.OneUse as used
use Rattle.qgm_edit_laws.proofs.Scoped.{few-ids}
use Rattle.qgm_terms.specs.Substitution.{substituted_cond}
use Rattle.qgm_terms.specs.Terms.{Cond}
use Rattle.rule_api.specs.Rules.{Preserves}
use Rattle.rule_api.specs.declared.place.Place.{Place}
use Rattle.rule_push.specs.Decided.{facts_in, tells-in}
use Rattle.rule_push.specs.Moves.{arms_steps}
use Rattle.rule_push.specs.PushIntoArms.{ActsPushIntoArms, IsSetOpUnder, PlansIntoArms, PushesIntoArms}
use Rattle.rule_push.specs.PushPlaces.{MayPush}
use Rattle.rule_push.specs.declared.moves.ArmsPlan.{ArmsPlan}
use Rattle.rule_push.proofs.LeavingSteps as steps
use Rattle.rule_push.proofs.MoveSteps.{steps-both}
use Rattle.rule_push.proofs.Preserving.{push-into-arms-preserves}
use Rattle.qgm_core.proofs.Reaching.{in-has}
use Rattle.list_laws.proofs.Membership.{eq-false-sym}

module _ (g : QueryGraph) (w : WellFormed g) (pl : Place) (m : MayPush (IsSetOpUnder g (facts_in g.boxes)) pl g) (u : EachOnce (numbers g.boxes)) (x : ArmsPlan) (plans : PlansIntoArms pl g x) where
  abbrev s : OwnedQuant
  s = m.fits.s

  abbrev t : OwnedQuant
  t = m.fits.t

  abbrev p1 : Cond
  p1 = substituted_cond m.r.id m.fits.n.parts.head m.p

  abbrev p2 : Cond
  p2 = substituted_cond m.r.id m.fits.m.parts.head m.p

  in-s : In s m.c.quants
  in-s = subst (λ z. In s z) (sym m.fits.two) (inl refl)

  in-t : In t m.c.quants
  in-t = subst (λ z. In t z) (sym m.fits.two) (inr (inl refl))

  in-n : In m.fits.n g.boxes
  in-n = steps.in-n g w pl m u s in-s m.fits.n m.fits.first.under

  in-m : In m.fits.m g.boxes
  in-m = steps.in-n g w pl m u t in-t m.fits.m m.fits.second.under

  b-not-n : (m.b.id == m.fits.n.id) ≡ false
  b-not-n = steps.b-not-n g w pl m u s in-s m.fits.n m.fits.first.under

  b-not-m : (m.b.id == m.fits.m.id) ≡ false
  b-not-m = steps.b-not-n g w pl m u t in-t m.fits.m m.fits.second.under

  beside : (t.id == s.id) ≡ false
  beside = split-once (λ (x : OwnedQuant). x.id) [] s (t ∷ []) (subst (λ z. times s.id (map (λ (x : OwnedQuant). x.id) z) ≤ 1) m.fits.two (few-ids g.boxes m.c s.id ((steps.sound g w pl m u).once s.id) (steps.in-c g w pl m u))) t (inr (inl refl))

  n-not-m : (m.fits.n.id == m.fits.m.id) ≡ false
  n-not-m = eq-false-sym m.fits.m.id m.fits.n.id (subst (λ z. (z == m.fits.n.id) ≡ false) (steps.over-n g w pl m u t in-t m.fits.m m.fits.second.under)
      (used.not-beside g.boxes g.root (steps.sound g w pl m u) m.c s m.fits.n.id (steps.in-c g w pl m u) in-s (steps.over-n g w pl m u s in-s m.fits.n m.fits.first.under) m.fits.first.one_use t in-t beside))

  pub from-there : HasBox x.first.b g
  from-there = subst (λ (z : ArmsPlan). HasBox z.first.b g) (sym (plans m)) (in-has m.b g.boxes m.pushable.from.in_b)

  pub first-there : HasBox x.first.n g
  first-there = subst (λ (z : ArmsPlan). HasBox z.first.n g) (sym (plans m)) (in-has m.fits.n g.boxes in-n)

  pub second-there : HasBox x.m g
  second-there = subst (λ (z : ArmsPlan). HasBox z.m g) (sym (plans m)) (in-has m.fits.m g.boxes in-m)

  done : arms_steps x g ≡ compact (with_conjuncts m.b (m.ps ++ m.qs) (put_conjunct m.fits.m p2 (put_conjunct m.fits.n p1 g)))
  done = ap (λ (z : ArmsPlan). arms_steps z g) (plans m)
      ∙ steps-both g (steps.sound g w pl m u).ordered m.b m.fits.n m.fits.m m.pushable.from.in_b in-n in-m b-not-n b-not-m n-not-m m.ps m.p m.qs m.pushable.from.conds p1 p2

  pushes : (h : QueryGraph) → h ≡ arms_steps x g → PushesIntoArms pl g h
  pushes h e = record { given = record { known = facts_in g.boxes; tells = tells-in g.boxes; may = m }; after = e ∙ done }

  pub acts : (h : QueryGraph) → h ≡ arms_steps x g → ActsPushIntoArms pl g h
  unfolding ActsPushIntoArms
  acts h e = pushes h e

  pub preserves : (h : QueryGraph) → h ≡ arms_steps x g → Preserves g h
  preserves h e = push-into-arms-preserves g h u w pl (pushes h e)
