-- What the root reaches may be marked before an edit of one box that keeps what the box ranges over.
use Rattle.std.proofs.Common.{ℕ, ◌==◌, ◌≡◌, cond, Bool, ◌∷◌, [], None, sym, ap, ◌∙◌, eqb-true, inl, inr}
use Rattle.std.proofs.lemmas.Bool.{cases_Bool}
use Rattle.qgm_core.specs.Boxes.{QueryGraph, numbers, overs_of}
use Rattle.qgm_core.specs.Edits.{compact, keep, on_box}
use Rattle.qgm_core.specs.Free.{reached}
use Rattle.list_laws.specs.Lists.{EachOnce, In, holds}
use Rattle.qgm_core.specs.declared.node.Node.{Node}
use Rattle.qgm_wellformed.specs.WellFormed.{fault}
use Rattle.qgm_edit_laws.specs.Adds.{at}
use Rattle.qgm_edit_laws.proofs.CheckedParts.{sound}
use Rattle.qgm_edit_laws.proofs.PartForms.{at-all}
use Rattle.qgm_edit_laws.proofs.Ranks.{same-box}
use Rattle.rule_facts.proofs.Actions.{on-is}
use Rattle.rule_facts.proofs.MarksBefore.{changed_kept}

module _ (g : QueryGraph) (u : EachOnce (numbers g.boxes)) (f : fault g ≡ None) (o : Node) (i : In o g.boxes) (k : Node → Node) (same : (y : Node) → (k y).id ≡ y.id) (overs : (x : ℕ) → holds x (overs_of (k o)) ≡ holds x (overs_of o)) where
  pub overs-at : (y : Node) → In y g.boxes → (x : ℕ) → holds x (overs_of (at o.id k y)) ≡ holds x (overs_of y)
  overs-at y j x = elim (cases_Bool (y.id == o.id)) [
    | inr e ↦ ap (λ (t : Bool). holds x (overs_of (cond t (k y) y))) e
    | inl t ↦ (
        let is : y ≡ o = same-box g.boxes y o (sound g u f).ordered j i (eqb-true y.id o.id t) in
        ap (λ (t : Bool). holds x (overs_of (cond t (k y) y))) t ∙ ap (λ (z : Node). holds x (overs_of (k z))) is ∙ overs x ∙ sym (ap (λ (z : Node). holds x (overs_of z)) is))
  ]

  pub kept-one : keep (reached (g.root ∷ []) g.boxes) (on_box o.id k g) ≡ compact (on_box o.id k g)
  kept-one =
      ap (keep (reached (g.root ∷ []) g.boxes)) (on-is g u f o.id k)
      ∙ changed_kept (at o.id k) (at-all o.id k (λ z. z.id) same) g overs-at
      ∙ ap compact (sym (on-is g u f o.id k))
