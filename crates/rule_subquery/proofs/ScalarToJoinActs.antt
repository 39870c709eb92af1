-- U3: what is found at a place, and what its steps do.
use Rattle.std.proofs.Common.{ℕ, ◌≡◌, ◌≤◌, ◌-◌, ◌&&◌, true, false, List, [], ◌∷◌, length, map, None, Some, slice_get, refl, sym, ap, ap₂, subst, ◌∙◌, inl, inr}
use Rattle.std.proofs.lemmas.Bool.{and_from, and_parts, cases_Bool}
use Rattle.qgm_terms.specs.Conjuncts.{Conjuncts}
use Rattle.qgm_terms.specs.Terms.{Term}
use Rattle.qgm_core.specs.Boxes.{HasBox, HasQuant, QueryGraph, box_of, is_quant, numbers, owns, quants_of}
use Rattle.qgm_core.specs.Edits.{keep, move_quant, put_quant, put_terms}
use Rattle.qgm_core.specs.Free.{reached}
use Rattle.qgm_core.specs.Kinds.{is_S}
use Rattle.list_laws.specs.Lists.{EachOnce, In}
use Rattle.qgm_core.specs.declared.kinds.QuantKind.TheVariants.{F}
use Rattle.qgm_core.specs.declared.node.Node.{Node}
use Rattle.qgm_core.specs.declared.owned.OwnedQuant.{OwnedQuant}
use Rattle.qgm_core.proofs.Reaching.{in-has}
use Rattle.qgm_wellformed.specs.Sentences.{WellFormed}
use Rattle.qgm_wellformed.specs.WellFormed.{fault}
use Rattle.qgm_wellformed.proofs.Faults.{finds-none}
use Rattle.qgm_meaning.specs.Searches.{as_column, as_column_cond}
use Rattle.qgm_edit_laws.proofs.CheckedParts.{sound}
use Rattle.qgm_props.specs.Inferred.{clean, exactly_one}
use Rattle.rule_api.specs.Picks.{picks}
use Rattle.rule_api.specs.Rules.{Preserves}
use Rattle.rule_api.specs.declared.place.Place.{Place}
use Rattle.rule_facts.proofs.FactsThere.{here-at}
use Rattle.rule_facts.specs.Places.{in_owner, is_plain_select}
use Rattle.rule_facts.specs.Told.{infers}
use Rattle.rule_subquery.specs.ScalarToGroup.{any_scalar}
use Rattle.rule_subquery.specs.ScalarToJoin.{JoinsScalar, MayScalarToJoin, MayScalarToJoinAt, column_box, may_have, may_scalar_to_join, scalar_joined}
use Rattle.rule_subquery.specs.ScalarToJoinSteps.{ScalarPlansAt, scalar_plan, scalar_steps}
use Rattle.rule_subquery.specs.declared.scalar_to_join.action.ScalarPlan.{ScalarPlan}
use Rattle.rule_subquery.proofs.KeptOne.{kept-one}
use Rattle.rule_subquery.proofs.LastAsF.{overs-last, places-left}
use Rattle.rule_subquery.proofs.QuantPlaces.{box-held, box-is, from-one, none-passes, not-none, quant-is, within}
use Rattle.rule_subquery.proofs.ScalarToJoinEdits.{scalar-to-join-edits}
use Rattle.rule_subquery.proofs.ScalarToJoinKeeps.{scalar-to-join-preserves}
use Rattle.list_laws.proofs.Booleans.{clash}
use Rattle.list_laws.proofs.Membership.{any-from, eq-itself, in-right}

-- ---- where none passes

not-there : (bs : List Node) (n : Node) → may_have n ≡ false → (r : OwnedQuant) → In r n.quants → may_scalar_to_join bs n r ≡ false
not-there bs n h r i = elim (cases_Bool (may_scalar_to_join bs n r)) [
  | inr f ↦ f
  | inl t ↦ absurd (
      let a = and_parts (is_plain_select n) (is_S r.kind && (infers bs (clean r.over) && infers bs (exactly_one r.over))) t in
      let c = and_parts (is_S r.kind) (infers bs (clean r.over) && infers bs (exactly_one r.over)) a.1 in
      clash (may_have n) (and_from (is_plain_select n) (any_scalar n.quants) a.0 (any-from (λ (x : OwnedQuant). is_S x.kind) r n.quants i c.0)) h)
]

pub none_found : (g : QueryGraph) (b : ℕ) (n : Node) → box_of b g ≡ Some n → may_have n ≡ false → picks (in_owner (may_scalar_to_join g.boxes) (box_of b g)) 1 (quants_of b g) ≡ []
none_found g b n e h = none-passes (may_scalar_to_join g.boxes) g b n e (not-there g.boxes n h)

-- ---- what the steps do

module _ (p : Place) (g : QueryGraph) (u : EachOnce (numbers g.boxes)) (w : WellFormed g) (b : Node) (us : List OwnedQuant) (r : OwnedQuant) (vs : List OwnedQuant) (m : MayScalarToJoinAt p g b us r vs) where
  f : fault g ≡ None
  f = (finds-none g u).1 w

  in-b : In b g.boxes
  in-b = here-at g u f b p.at m.at

  own : owns r.id b ≡ true
  own = any-from (is_quant r.id) r b.quants (subst (λ z. In r z) (sym m.split) (in-right r us (r ∷ vs) (inl refl))) (eq-itself r.id)

  abbrev conds : Conjuncts
  conds = record b.parts.conds { items = map (as_column_cond r.id) b.parts.conds.items }

  abbrev head : List Term
  head = map (as_column r.id) b.parts.head

  pub done : scalar_steps (scalar_plan b r) g ≡ scalar_joined g b us r vs
  done =
      ap (keep (reached (g.root ∷ []) g.boxes)) (
      ap (λ n. put_terms b.id conds head (put_quant r.id F (move_quant r.id b.id n g))) (places-left g (sound g u f) b in-b us r vs m.split)
      ∙ scalar-to-join-edits g (sound g u f) b in-b us r vs m.split conds head (column_box us r vs) refl)
      ∙ kept-one g u f b in-b (column_box us r vs) (λ y. refl) (λ x. overs-last g (sound g u f) b in-b us r vs m.split x)

  module _ (x : ScalarPlan) (plans : ScalarPlansAt p g x) where
    is : x ≡ scalar_plan b r
    is = plans b us r vs m

    pub there-box : HasBox x.b g
    there-box = subst (λ (z : ScalarPlan). HasBox z.b g) (sym is) (in-has b g.boxes in-b)

    pub there-quant : HasQuant x.q g
    there-quant = subst (λ (z : ScalarPlan). HasQuant z.q g) (sym is) (any-from (owns r.id) b g.boxes in-b own)

    pub made : (h : QueryGraph) → h ≡ scalar_steps x g → h ≡ scalar_joined g b us r vs
    made h e = e ∙ ap (λ (z : ScalarPlan). scalar_steps z g) is ∙ done

-- ---- at a place

module _ (p : Place) (g : QueryGraph) (h : MayScalarToJoin p g) where
  pub no-box : box_of p.at g ≡ None → ⊥
  unfolding MayScalarToJoin
  no-box e = not-none g p.at h.0 h.1.1.1.1.at e

  pub box-there : HasBox p.at g
  unfolding MayScalarToJoin
  box-there = box-held g p.at h.0 h.1.1.1.1.at

  pub first-there : 1 ≤ p.i
  unfolding MayScalarToJoin
  first-there = let m = h.1.1.1.1 in from-one g p.at h.0 m.at p.i h.1.0 h.1.1.0 h.1.1.1.0 m.split m.nth

  pub within-there : p.i ≤ length (quants_of p.at g)
  unfolding MayScalarToJoin
  within-there = let m = h.1.1.1.1 in within g p.at h.0 m.at p.i h.1.0 h.1.1.0 h.1.1.1.0 m.split m.nth

  module _ (u : EachOnce (numbers g.boxes)) (w : WellFormed g) (x : ScalarPlan) (plans : ScalarPlansAt p g x) where
    pub plan-box : HasBox x.b g
    unfolding MayScalarToJoin
    plan-box = there-box p g u w h.0 h.1.0 h.1.1.0 h.1.1.1.0 h.1.1.1.1 x plans

    pub plan-quant : HasQuant x.q g
    unfolding MayScalarToJoin
    plan-quant = there-quant p g u w h.0 h.1.0 h.1.1.0 h.1.1.1.0 h.1.1.1.1 x plans

    pub acts : (k : QueryGraph) → k ≡ scalar_steps x g → JoinsScalar p g k
    unfolding MayScalarToJoin JoinsScalar
    acts k e = (h.0, (h.1.0, (h.1.1.0, (h.1.1.1.0, (h.1.1.1.1, made p g u w h.0 h.1.0 h.1.1.0 h.1.1.1.0 h.1.1.1.1 x plans k e)))))

    pub preserves : (k : QueryGraph) → k ≡ scalar_steps x g → Preserves g k
    preserves k e = scalar-to-join-preserves g k u w p h (acts k e)

-- what is found at a place is planned
pub planned : (p : Place) (g : QueryGraph) (y : Node) → box_of p.at g ≡ Some y → (s : OwnedQuant) → Some s ≡ slice_get (quants_of p.at g) (p.i - 1) → ScalarPlansAt p g (scalar_plan y s)
planned p g y e s q b us r vs m = ap₂ scalar_plan (box-is g p.at b m.at y e) (quant-is g p.at b m.at p.i us r vs m.split m.nth s q)
