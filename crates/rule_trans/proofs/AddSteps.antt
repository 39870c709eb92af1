-- The steps add a conjunct to a box.
use Rattle.std.proofs.Common.{ℕ, ◌≡◌, ◌==◌, cond, Bool, List, [], ◌∷◌, ◌++◌, map, filter, refl, sym, ap, ap₂, ◌∙◌, eqb-true, inl, inr}
use Rattle.std.proofs.lemmas.Bool.{cases_Bool}
use Rattle.qgm_core.specs.Boxes.{HasBox, Ordered, QueryGraph, has_box, is_box, numbers}
use Rattle.qgm_core.specs.Edits.{compact, with_terms}
use Rattle.qgm_core.specs.Free.{marked, reached}
use Rattle.list_laws.specs.Lists.{EachOnce, In, change, holds}
use Rattle.qgm_core.specs.declared.node.Node.{Node}
use Rattle.qgm_core.specs.declared.owned.OwnedQuant.{OwnedQuant}
use Rattle.qgm_core.proofs.Reaching.{in-has}
use Rattle.qgm_terms.specs.Terms.{Cond, col, compare, equal}
use Rattle.qgm_edit_laws.proofs.CheckedParts.{sound}
use Rattle.qgm_edit_laws.proofs.Edits.{once-each}
use Rattle.qgm_edit_laws.proofs.Levels.{some-in}
use Rattle.qgm_edit_laws.proofs.OneBox.{at, change-at}
use Rattle.qgm_edit_laws.proofs.PartForms.{at-all}
use Rattle.qgm_edit_laws.proofs.Ranks.{same-box}
use Rattle.qgm_edit_laws.specs.ConjunctEdits.{more, put_conjunct}
use Rattle.qgm_wellformed.specs.Sentences.{WellFormed}
use Rattle.qgm_wellformed.proofs.Faults.{finds-none}
use Rattle.rule_api.specs.Rules.{Preserves}
use Rattle.rule_api.specs.declared.place.Place.{Place}
use Rattle.rule_trans.specs.Adding.{add_plan, add_steps}
use Rattle.rule_trans.specs.EqualColumns.{AddsEqualColumns}
use Rattle.rule_trans.specs.EqualColumnsExact.{PlansAt}
use Rattle.rule_trans.specs.declared.adding.AddPlan.{AddPlan}
use Rattle.rule_trans.proofs.Preserving.{equal-columns-preserves}

reached-same : (f : Node → Node) → ((y : Node) → (f y).id ≡ y.id) → ((y : Node) → (f y).quants ≡ y.quants) → (ns : List Node) (marks : List ℕ) → reached marks (map f ns) ≡ reached marks ns
reached-same f id quants [] marks = refl
reached-same f id quants (n ∷ ns) marks = reached-same f id quants ns (marked marks (f n)) ∙ ap (λ z. reached z ns) (ap₂ (λ (i : ℕ) (rs : List OwnedQuant). marked marks (record n { id = i; quants = rs })) (id n) (quants n))

-- a box found by its number
module _ (bs : List Node) (ordered : Ordered bs) (n : Node) (in-n : In n bs) (f h : Node → Node) (same : f n ≡ h n) where
  pointwise : (ns : List Node) → ((y : Node) → In y ns → In y bs) → map (at n.id f) ns ≡ map (at n.id h) ns
  pointwise [] sub = refl
  pointwise (y ∷ ns) sub = ap₂ (λ (z : Node) (zs : List Node). z ∷ zs) (elim (cases_Bool (y.id == n.id)) [
    | inr e ↦ ap (λ (t : Bool). cond t (f y) y) e ∙ sym (ap (λ (t : Bool). cond t (h y) y) e)
    | inl t ↦ (
        let s : y ≡ n = same-box bs y n ordered (sub y (inl refl)) in-n (eqb-true y.id n.id t) in
        ap (λ (t : Bool). cond t (f y) y) t ∙ (ap f s ∙ same ∙ sym (ap h s)) ∙ sym (ap (λ (t : Bool). cond t (h y) y) t))
  ]) (pointwise ns (λ x i. sub x (inr i)))

  changed : change (is_box n.id) f bs ≡ map (at n.id h) bs
  changed = change-at n.id f bs (once-each bs ordered) ∙ pointwise bs (λ y i. i)

pub steps-add : (g : QueryGraph) → Ordered g.boxes → (n : Node) → In n g.boxes → (p : Cond) → add_steps (add_plan n p) g ≡ compact (put_conjunct n p g)
steps-add g o n i p = ap₂ (λ (marks : List ℕ) (boxes : List Node). record g { boxes = filter (λ (y : Node). holds y.id marks) boxes })
    (sym (reached-same (at n.id (more p)) (λ y. at-all n.id (more p) (λ z. z.id) (λ z. refl) y) (λ y. at-all n.id (more p) (λ z. z.quants) (λ z. refl) y) g.boxes (g.root ∷ [])))
    (changed g.boxes o n i (with_terms (record n.parts.conds { items = n.parts.conds.items ++ p ∷ [] }) n.parts.head) (more p) refl)

-- ---- J1

module _ (g : QueryGraph) (w : WellFormed g) (u : EachOnce (numbers g.boxes)) (pl : Place) (x : AddPlan) (plans : PlansAt pl g x) where
  in-n : In plans.0.n g.boxes
  in-n = (some-in (is_box pl.at) g.boxes plans.0.n plans.0.implied.found).0

  pub there : HasBox x.n g
  there = ap (λ (z : AddPlan). has_box g.boxes z.n) plans.1 ∙ in-has plans.0.n g.boxes in-n

  done : add_steps x g ≡ compact (put_conjunct plans.0.n (compare equal (col plans.0.p plans.0.j) (col plans.0.s plans.0.l)) g)
  done = ap (λ (z : AddPlan). add_steps z g) plans.1 ∙ steps-add g (sound g u ((finds-none g u).1 w)).ordered plans.0.n in-n (compare equal (col plans.0.p plans.0.j) (col plans.0.s plans.0.l))

  pub acts : (h : QueryGraph) → h ≡ add_steps x g → AddsEqualColumns pl g h
  acts h e = record { may = plans.0; after = e ∙ done }

  pub preserves : (h : QueryGraph) → h ≡ add_steps x g → Preserves g h
  preserves h e = equal-columns-preserves g h u w pl (acts h e)
