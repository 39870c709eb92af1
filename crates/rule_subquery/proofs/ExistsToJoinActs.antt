-- U1: what is found at a place, and what its steps do.
use Rattle.std.proofs.Common.{ℕ, ◌==◌, ◌≡◌, ◌≤◌, ◌-◌, cond, Bool, true, false, List, [], ◌∷◌, ◌++◌, length, None, Some, slice_get, refl, sym, ap, ap₂, subst, ◌∙◌, eqb-true, inl, inr}
use Rattle.std.proofs.lemmas.Bool.{and_parts, cases_Bool}
use Rattle.qgm_terms.specs.Conjuncts.{Conjuncts}
use Rattle.qgm_terms.specs.Terms.{Cond}
use Rattle.qgm_core.specs.Boxes.{HasBox, HasQuant, Ordered, QueryGraph, box_of, is_box, is_quant, numbers, owns, quants_of}
use Rattle.qgm_core.specs.Edits.{keep, move_quant, on_box, put_quant, put_terms, set_distinct, with_distinct}
use Rattle.qgm_core.specs.Free.{marked, reached}
use Rattle.list_laws.specs.Lists.{EachOnce, In, change}
use Rattle.qgm_core.specs.declared.kinds.Distinct.{Distinct}
use Rattle.qgm_core.specs.declared.kinds.Distinct.TheVariants.{Preserve}
use Rattle.qgm_core.specs.declared.kinds.QuantKind.TheVariants.{F}
use Rattle.qgm_core.specs.declared.node.Node.{Node}
use Rattle.qgm_core.specs.declared.owned.OwnedQuant.{OwnedQuant}
use Rattle.qgm_core.proofs.Reaching.{in-has}
use Rattle.qgm_wellformed.specs.Sentences.{WellFormed}
use Rattle.qgm_wellformed.specs.WellFormed.{fault}
use Rattle.qgm_wellformed.proofs.Faults.{finds-none}
use Rattle.qgm_meaning.specs.Rules.{as_F}
use Rattle.qgm_edit_laws.specs.ConjunctsOf.{conjuncts}
use Rattle.qgm_edit_laws.specs.PermitToPreserve.{permit_found, permit_to_preserve}
use Rattle.qgm_edit_laws.proofs.CheckedParts.{sound}
use Rattle.qgm_edit_laws.proofs.Levels.{some-in}
use Rattle.rule_api.specs.Picks.{picks}
use Rattle.rule_api.specs.Rules.{Preserves}
use Rattle.rule_api.specs.declared.place.Place.{Place}
use Rattle.rule_facts.proofs.FactsThere.{here-at}
use Rattle.rule_facts.specs.Places.{in_owner}
use Rattle.rule_subquery.specs.ExistsToJoin.{JoinsExists, MayExistsToJoin, MayExistsToJoinAt, any_joinable, distinct_after, exists_fits, exists_joined, is_joinable, joined_box, may_exists_to_join}
use Rattle.rule_subquery.specs.ExistsToJoinExact.{fits-from, fits-to}
use Rattle.rule_subquery.specs.ExistsToJoinSteps.{ExistsPlansAt, exists_edits, exists_plan, exists_steps, joined_conds}
use Rattle.rule_subquery.specs.declared.exists_to_join.action.ExistsPlan.{ExistsPlan}
use Rattle.rule_subquery.proofs.ExistsToJoinEdits.{exists-to-join-edits}
use Rattle.rule_subquery.proofs.ExistsToJoinKeeps.{exists-to-join-preserves}
use Rattle.rule_subquery.proofs.ExistsToJoinKeeps as keeps
use Rattle.rule_subquery.proofs.ExistsToJoinTerms.{joined-is}
use Rattle.rule_subquery.proofs.KeptOne.{kept-one}
use Rattle.rule_subquery.proofs.LastAsF.{overs-last, places-left}
use Rattle.rule_subquery.proofs.QuantPlaces.{box-held, box-is, from-one, none-passes, not-none, quant-is, under-there, within}
use Rattle.list_laws.proofs.Booleans.{clash}
use Rattle.list_laws.proofs.Membership.{any-from, eq-itself, in-right}

-- ---- where none passes

not-there : (bs : List Node) (n : Node) → any_joinable n ≡ false → (r : OwnedQuant) → In r n.quants → may_exists_to_join bs n r ≡ false
not-there bs n h r i = elim (cases_Bool (may_exists_to_join bs n r)) [
  | inr f ↦ f
  | inl t ↦ absurd (clash (any_joinable n) (any-from (is_joinable n) r n.quants i (and_parts (is_joinable n r) (exists_fits bs n r) t).0) h)
]

pub none_found : (g : QueryGraph) (b : ℕ) (n : Node) → box_of b g ≡ Some n → any_joinable n ≡ false → picks (in_owner (may_exists_to_join g.boxes) (box_of b g)) 1 (quants_of b g) ≡ []
none_found g b n e h = none-passes (may_exists_to_join g.boxes) g b n e (not-there g.boxes n h)

-- ---- two boxes changed, in either order

commute : (b c : ℕ) → (b == c) ≡ false → (k f : Node → Node) → ((y : Node) → (k y).id ≡ y.id) → ((y : Node) → (f y).id ≡ y.id) → (ns : List Node) → change (is_box c) f (change (is_box b) k ns) ≡ change (is_box b) k (change (is_box c) f ns)
commute b c apart k f k-id f-id [] = refl
commute b c apart k f k-id f-id (n ∷ ns) = elim (cases_Bool (n.id == b)) [
  | inl t ↦ (
      let e : (n.id == c) ≡ false = subst (λ z. (z == c) ≡ false) (sym (eqb-true n.id b t)) apart in
      ap (λ (z : Bool). change (is_box c) f (cond z (k n ∷ ns) (n ∷ change (is_box b) k ns))) t
      ∙ ap (λ (z : Bool). cond z (f (k n) ∷ ns) (k n ∷ change (is_box c) f ns)) (ap (λ z. z == c) (k-id n) ∙ e)
      ∙ sym (ap (λ (z : Bool). cond z (k n ∷ change (is_box c) f ns) (n ∷ change (is_box b) k (change (is_box c) f ns))) t)
      ∙ sym (ap (λ (z : Bool). change (is_box b) k (cond z (f n ∷ ns) (n ∷ change (is_box c) f ns))) e))
  | inr e ↦ ap (λ (z : Bool). change (is_box c) f (cond z (k n ∷ ns) (n ∷ change (is_box b) k ns))) e ∙ elim (cases_Bool (n.id == c)) [
    | inl t ↦
        ap (λ (z : Bool). cond z (f n ∷ change (is_box b) k ns) (n ∷ change (is_box c) f (change (is_box b) k ns))) t
        ∙ sym (ap (λ (z : Bool). cond z (k (f n) ∷ ns) (f n ∷ change (is_box b) k ns)) (ap (λ z. z == b) (f-id n) ∙ e))
        ∙ sym (ap (λ (z : Bool). change (is_box b) k (cond z (f n ∷ ns) (n ∷ change (is_box c) f ns))) t)
    | inr d ↦
        ap (λ (z : Bool). cond z (f n ∷ change (is_box b) k ns) (n ∷ change (is_box c) f (change (is_box b) k ns))) d
        ∙ ap (λ zs. n ∷ zs) (commute b c apart k f k-id f-id ns)
        ∙ sym (ap (λ (z : Bool). cond z (k n ∷ change (is_box c) f ns) (n ∷ change (is_box b) k (change (is_box c) f ns))) e)
        ∙ sym (ap (λ (z : Bool). change (is_box b) k (cond z (f n ∷ ns) (n ∷ change (is_box c) f ns))) d)
  ]
]

-- the root reaches what it did, whatever the distinctness of a box
reached-same : (b : ℕ) (d : Distinct) (marks : List ℕ) (ns : List Node) → reached marks (change (is_box b) (with_distinct d) ns) ≡ reached marks ns
reached-same b d marks [] = refl
reached-same b d marks (n ∷ ns) = elim (n.id == b) as (λ t. reached marks (cond t (with_distinct d n ∷ ns) (n ∷ change (is_box b) (with_distinct d) ns)) ≡ reached (marked marks n) ns) [
  | true ↦ refl
  | false ↦ reached-same b d (marked marks n) ns
]

reached-after : (g : QueryGraph) (c : ℕ) → reached (g.root ∷ []) g.boxes ≡ reached ((permit_to_preserve c g).root ∷ []) (permit_to_preserve c g).boxes
reached-after g c = elim (permit_found (box_of c g)) as (λ (t : Bool). reached (g.root ∷ []) g.boxes ≡ (λ (z : QueryGraph). reached (z.root ∷ []) z.boxes) (cond t (set_distinct c Preserve g) g)) [
  | true ↦ sym (reached-same c Preserve (g.root ∷ []) g.boxes)
  | false ↦ refl
]

-- ---- what the steps do

module _ (p : Place) (g : QueryGraph) (u : EachOnce (numbers g.boxes)) (w : WellFormed g) (b : Node) (us : List OwnedQuant) (r : OwnedQuant) (vs : List OwnedQuant) (xs : List Cond) (c : Cond) (ys : List Cond) (d : Distinct) (m : MayExistsToJoinAt p g b us r vs xs c ys d) where
  f : fault g ≡ None
  f = (finds-none g u).1 w

  in-b : In b g.boxes
  in-b = here-at g u f b p.at m.at

  in-r : In r b.quants
  in-r = subst (λ z. In r z) (sym m.existing.split) (in-right r us (r ∷ vs) (inl refl))

  own : owns r.id b ≡ true
  own = any-from (is_quant r.id) r b.quants in-r (eq-itself r.id)

  abbrev D : Distinct
  D = distinct_after g.boxes b r

  abbrev K : Node → Node
  K = joined_box D us r vs xs c ys

  abbrev conds : Conjuncts
  conds = record b.parts.conds { items = joined_conds r.id b.parts.conds.items }

  abbrev g1 : QueryGraph
  g1 = permit_to_preserve r.over g

  conds-are : joined_conds r.id b.parts.conds.items ≡ xs ++ (conjuncts c ++ ys)
  conds-are = ap (joined_conds r.id) m.existing.conds ∙ joined-is r.id xs c ys m.existing.in_before m.existing.in_behind

  apart : (b.id == r.over) ≡ false
  apart = keeps.apart g u f b us r vs xs c ys in-b m.existing

  edits-are : exists_edits (exists_plan g b r) g ≡ on_box b.id K g
  edits-are =
      ap (λ n. set_distinct b.id D (put_terms b.id conds b.parts.head (put_quant r.id F (move_quant r.id b.id n g)))) (places-left g (sound g u f) b in-b us r vs m.existing.split)
      ∙ exists-to-join-edits g (sound g u f) b in-b us r vs m.existing.split D conds b.parts.head K
      (sym (ap (λ z. record b { parts = record b.parts { distinct = D; conds = record b.parts.conds { items = z } }; quants = (us ++ vs) ++ as_F r.id r.over ∷ [] }) conds-are))

  turned : cond (permit_found (box_of r.over g)) (set_distinct r.over Preserve (exists_edits (exists_plan g b r) g)) (exists_edits (exists_plan g b r) g) ≡ on_box b.id K g1
  turned = elim (permit_found (box_of r.over g)) as (λ (t : Bool). cond t (set_distinct r.over Preserve (exists_edits (exists_plan g b r) g)) (exists_edits (exists_plan g b r) g) ≡ on_box b.id K (cond t (set_distinct r.over Preserve g) g)) [
    | true ↦ ap (set_distinct r.over Preserve) edits-are ∙ ap (λ (z : List Node). record g { boxes = z }) (commute b.id r.over apart K (with_distinct Preserve) (λ y. refl) (λ y. refl) g.boxes)
    | false ↦ edits-are
  ]

  pub done : exists_steps (exists_plan g b r) g ≡ exists_joined g b us r vs xs c ys D
  done =
      ap (keep (reached (g.root ∷ []) g.boxes)) turned
      ∙ ap (λ ms. keep ms (on_box b.id K g1)) (reached-after g r.over)
      ∙ kept-one g1 (keeps.k g u f b us r vs xs c ys in-b m.existing).once (keeps.f1 g u f b us r vs xs c ys in-b m.existing) b (keeps.here1 g u f b us r vs xs c ys in-b m.existing) K (λ y. refl)
      (λ x. overs-last g (sound g u f) b in-b us r vs m.existing.split x)

  ordered : Ordered g.boxes
  ordered = (sound g u f).ordered

  -- with the distinctness that it gets
  pub may-so : MayExistsToJoinAt p g b us r vs xs c ys D
  may-so = record { no_second = m.no_second; at = m.at; nth = m.nth; existing = m.existing; fits = fits-from g ordered b r (fits-to g ordered b r d m.fits) }

  module _ (x : ExistsPlan) (plans : ExistsPlansAt p g x) where
    is : x ≡ exists_plan g b r
    is = plans b us r vs xs c ys d m

    pub there-box : HasBox x.b g
    there-box = subst (λ (z : ExistsPlan). HasBox z.b g) (sym is) (in-has b g.boxes in-b)

    pub there-quant : HasQuant x.q g
    there-quant = subst (λ (z : ExistsPlan). HasQuant z.q g) (sym is) (any-from (owns r.id) b g.boxes in-b own)

    pub there-over : HasBox x.c g
    there-over =
        let y = under-there g (sound g u f) b in-b r in-r in
        let i = some-in (is_box r.over) g.boxes y.0 y.1 in
        subst (λ (z : ExistsPlan). HasBox z.c g) (sym is) (any-from (is_box r.over) y.0 g.boxes i.0 i.1)

    pub made : (h : QueryGraph) → h ≡ exists_steps x g → h ≡ exists_joined g b us r vs xs c ys D
    made h e = e ∙ ap (λ (z : ExistsPlan). exists_steps z g) is ∙ done

-- ---- at a place

module _ (p : Place) (g : QueryGraph) (h : MayExistsToJoin p g) where
  pub no-box : box_of p.at g ≡ None → ⊥
  unfolding MayExistsToJoin
  no-box e = not-none g p.at h.0 h.1.1.1.1.1.1.1.1.at e

  pub box-there : HasBox p.at g
  unfolding MayExistsToJoin
  box-there = box-held g p.at h.0 h.1.1.1.1.1.1.1.1.at

  pub first-there : 1 ≤ p.i
  unfolding MayExistsToJoin
  first-there = let m = h.1.1.1.1.1.1.1.1 in from-one g p.at h.0 m.at p.i h.1.0 h.1.1.0 h.1.1.1.0 m.existing.split m.nth

  pub within-there : p.i ≤ length (quants_of p.at g)
  unfolding MayExistsToJoin
  within-there = let m = h.1.1.1.1.1.1.1.1 in within g p.at h.0 m.at p.i h.1.0 h.1.1.0 h.1.1.1.0 m.existing.split m.nth

  module _ (u : EachOnce (numbers g.boxes)) (w : WellFormed g) (x : ExistsPlan) (plans : ExistsPlansAt p g x) where
    pub plan-box : HasBox x.b g
    unfolding MayExistsToJoin
    plan-box = there-box p g u w h.0 h.1.0 h.1.1.0 h.1.1.1.0 h.1.1.1.1.0 h.1.1.1.1.1.0 h.1.1.1.1.1.1.0 h.1.1.1.1.1.1.1.0 h.1.1.1.1.1.1.1.1 x plans

    pub plan-quant : HasQuant x.q g
    unfolding MayExistsToJoin
    plan-quant = there-quant p g u w h.0 h.1.0 h.1.1.0 h.1.1.1.0 h.1.1.1.1.0 h.1.1.1.1.1.0 h.1.1.1.1.1.1.0 h.1.1.1.1.1.1.1.0 h.1.1.1.1.1.1.1.1 x plans

    pub plan-over : HasBox x.c g
    unfolding MayExistsToJoin
    plan-over = there-over p g u w h.0 h.1.0 h.1.1.0 h.1.1.1.0 h.1.1.1.1.0 h.1.1.1.1.1.0 h.1.1.1.1.1.1.0 h.1.1.1.1.1.1.1.0 h.1.1.1.1.1.1.1.1 x plans

    pub acts : (k : QueryGraph) → k ≡ exists_steps x g → JoinsExists p g k
    unfolding MayExistsToJoin JoinsExists
    acts k e =
        let b = h.0 in
        let us = h.1.0 in
        let r = h.1.1.0 in
        let vs = h.1.1.1.0 in
        let xs = h.1.1.1.1.0 in
        let c = h.1.1.1.1.1.0 in
        let ys = h.1.1.1.1.1.1.0 in
        let d = h.1.1.1.1.1.1.1.0 in
        let m = h.1.1.1.1.1.1.1.1 in
        (b, (us, (r, (vs, (xs, (c, (ys, (distinct_after g.boxes b r, (may-so p g u w b us r vs xs c ys d m, made p g u w b us r vs xs c ys d m x plans k e)))))))))

    pub preserves : (k : QueryGraph) → k ≡ exists_steps x g → Preserves g k
    preserves k e = exists-to-join-preserves g k u w p h (acts k e)

-- what is found at a place is planned
pub planned : (p : Place) (g : QueryGraph) (y : Node) → box_of p.at g ≡ Some y → (s : OwnedQuant) → Some s ≡ slice_get (quants_of p.at g) (p.i - 1) → ExistsPlansAt p g (exists_plan g y s)
planned p g y e s q b us r vs xs c ys d m = ap₂ (exists_plan g) (box-is g p.at b m.at y e) (quant-is g p.at b m.at p.i us r vs m.existing.split m.nth s q)
