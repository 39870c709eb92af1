-- U4: what is found at a place, and what its steps do.
use Rattle.std.proofs.Common.{ℕ, ◌<◌, ◌≤◌, ◌≡◌, true, List, [], ◌∷◌, length, None, Some, refl, sym, ap, ap₂, subst, ◌∙◌, inl, inr, slice_index_or, arith}
use Rattle.sql_value.specs.declared.order_key.SqlType.{SqlType}
use Rattle.qgm_core.specs.Boxes.{HasBox, HasQuant, QueryGraph, is_box, is_quant, numbers, overs_of, owns}
use Rattle.list_laws.specs.Lists.{EachOnce, In, first, holds}
use Rattle.qgm_core.specs.Edits.{keep}
use Rattle.qgm_core.specs.Free.{reached}
use Rattle.qgm_core.specs.declared.kinds.BoxKind.TheVariants.{Select, SetOp}
use Rattle.qgm_core.specs.declared.kinds.Distinct.TheVariants.{Enforce}
use Rattle.qgm_core.specs.declared.kinds.SetOperator.{SetOperator}
use Rattle.qgm_core.specs.declared.node.Node.{Node}
use Rattle.qgm_core.specs.declared.owned.OwnedQuant.{OwnedQuant}
use Rattle.qgm_core.proofs.Reaching.{in-has}
use Rattle.qgm_wellformed.specs.Sentences.{WellFormed}
use Rattle.qgm_wellformed.specs.WellFormed.{fault}
use Rattle.qgm_wellformed.proofs.Faults.{finds-none}
use Rattle.qgm_edit_laws.proofs.CheckedParts.{sound}
use Rattle.rule_api.specs.Rules.{Preserves}
use Rattle.rule_api.specs.declared.place.Place.{Place}
use Rattle.rule_facts.proofs.FactsThere.{here-at}
use Rattle.rule_subquery.specs.SetToExists.{MaySetToExists, MaySetToExistsAt, SelectsSet, set_box, set_selected}
use Rattle.rule_subquery.specs.SetToExistsSteps.{SetPlansAt, set_plan, set_steps}
use Rattle.rule_subquery.specs.declared.set_to_exists.action.SetPlan.{SetPlan}
use Rattle.rule_subquery.proofs.KeptOne.{kept-one}
use Rattle.rule_subquery.proofs.SetToExistsEdits.{set-to-exists-edits}
use Rattle.rule_subquery.proofs.SetToExistsKeeps.{set-to-exists-preserves}
use Rattle.list_laws.proofs.Membership.{any-from, eq-itself}

-- ---- what is found

module _ (p : Place) (g : QueryGraph) (b : Node) (form : SetOperator) (types : List SqlType) (l r : OwnedQuant) (m : MaySetToExistsAt p g b form types l r) where
  box-is : (y : Node) → first (is_box p.at) g.boxes ≡ Some y → y ≡ b
  box-is y e = let x : Some y ≡ Some b = sym e ∙ m.at in cc

  pub planned : (y : Node) → first (is_box p.at) g.boxes ≡ Some y → (form' : SetOperator) (types' : List SqlType) → y.parts.kind ≡ SetOp form' types' → (l' r' : OwnedQuant) → y.quants ≡ l' ∷ r' ∷ [] → set_plan y form' (length types') l' r' ≡ set_plan b form (length types) l r
  planned y e form' types' k l' r' q =
      let kind : SetOp form' types' ≡ SetOp form types = sym k ∙ ap (λ (z : Node). z.parts.kind) (box-is y e) ∙ m.kind in
      let ranges : l' ∷ r' ∷ [] ≡ l ∷ r ∷ [] = sym q ∙ ap (λ (z : Node). z.quants) (box-is y e) ∙ m.split in
      let form-is : form' ≡ form = cc in
      let types-is : types' ≡ types = cc in
      let l-is : l' ≡ l = cc in
      let r-is : r' ≡ r = cc in
      ap₂ (λ (z : Node) (s : SetOperator). set_plan z s (length types') l' r') (box-is y e) form-is
      ∙ ap (λ (z : List SqlType). set_plan b form (length z) l' r') types-is
      ∙ ap₂ (λ (x y : OwnedQuant). set_plan b form (length types) x y) l-is r-is

  pub kind-is : (y : Node) → first (is_box p.at) g.boxes ≡ Some y → y.parts.kind ≡ SetOp form types
  kind-is y e = ap (λ (z : Node). z.parts.kind) (box-is y e) ∙ m.kind

  pub quants-are : (y : Node) → first (is_box p.at) g.boxes ≡ Some y → y.quants ≡ l ∷ r ∷ []
  quants-are y e = ap (λ (z : Node). z.quants) (box-is y e) ∙ m.split

-- ---- what the steps do

module _ (p : Place) (g : QueryGraph) (u : EachOnce (numbers g.boxes)) (w : WellFormed g) (b : Node) (form : SetOperator) (types : List SqlType) (l r : OwnedQuant) (m : MaySetToExistsAt p g b form types l r) where
  f : fault g ≡ None
  f = (finds-none g u).1 w

  in-b : In b g.boxes
  in-b = here-at g u f b p.at m.at

  own : owns r.id b ≡ true
  own = any-from (is_quant r.id) r b.quants (subst (λ z. In r z) (sym m.split) (inr (inl refl))) (eq-itself r.id)

  overs : (x : ℕ) → holds x (overs_of (set_box form l r (length types) b)) ≡ holds x (overs_of b)
  overs x = sym (ap (λ (z : List OwnedQuant). holds x (overs_of (record b { quants = z }))) m.split)

  done : set_steps (set_plan b form (length types) l r) g ≡ set_selected g b form types l r
  done =
      ap (keep (reached (g.root ∷ []) g.boxes)) (set-to-exists-edits g (sound g u f) b in-b l r m.split Enforce Select b.parts.role (set_plan b form (length types) l r).conds (set_plan b form (length types) l r).head (set_box form l r (length types)) refl)
      ∙ kept-one g u f b in-b (set_box form l r (length types)) (λ y. refl) overs

  module _ (x : SetPlan) (plans : SetPlansAt p g x) where
    is : x ≡ set_plan b form (length types) l r
    is = plans b form types l r m

    pub there-box : HasBox x.b g
    there-box = subst (λ (z : SetPlan). HasBox z.b g) (sym is) (in-has b g.boxes in-b)

    pub there-quant : HasQuant x.q g
    there-quant = subst (λ (z : SetPlan). HasQuant z.q g) (sym is) (any-from (owns r.id) b g.boxes in-b own)

    pub made : (h : QueryGraph) → h ≡ set_steps x g → h ≡ set_selected g b form types l r
    made h e = e ∙ ap (λ (z : SetPlan). set_steps z g) is ∙ done

-- ---- at a place

module _ (p : Place) (g : QueryGraph) (h : MaySetToExists p g) where
  pub no-box : first (is_box p.at) g.boxes ≡ None → ⊥
  unfolding MaySetToExists
  no-box e = let x : None ≡ Some h.0 = sym e ∙ h.1.1.1.1.1.at in let z : ⊥ = cc in z

  pub kind-at : (y : Node) → first (is_box p.at) g.boxes ≡ Some y → (form : SetOperator) × ((types : List SqlType) × (y.parts.kind ≡ SetOp form types))
  unfolding MaySetToExists
  kind-at y e = (h.1.0, (h.1.1.0, kind-is p g h.0 h.1.0 h.1.1.0 h.1.1.1.0 h.1.1.1.1.0 h.1.1.1.1.1 y e))

  pub quants-at : (y : Node) → first (is_box p.at) g.boxes ≡ Some y → (l : OwnedQuant) × ((r : OwnedQuant) × (y.quants ≡ l ∷ r ∷ []))
  unfolding MaySetToExists
  quants-at y e = (h.1.1.1.0, (h.1.1.1.1.0, quants-are p g h.0 h.1.0 h.1.1.0 h.1.1.1.0 h.1.1.1.1.0 h.1.1.1.1.1 y e))

  module _ (u : EachOnce (numbers g.boxes)) (w : WellFormed g) (x : SetPlan) (plans : SetPlansAt p g x) where
    pub box-there : HasBox x.b g
    unfolding MaySetToExists
    box-there = there-box p g u w h.0 h.1.0 h.1.1.0 h.1.1.1.0 h.1.1.1.1.0 h.1.1.1.1.1 x plans

    pub quant-there : HasQuant x.q g
    unfolding MaySetToExists
    quant-there = there-quant p g u w h.0 h.1.0 h.1.1.0 h.1.1.1.0 h.1.1.1.1.0 h.1.1.1.1.1 x plans

    pub acts : (k : QueryGraph) → k ≡ set_steps x g → SelectsSet p g k
    unfolding MaySetToExists SelectsSet
    acts k e = (h.0, (h.1.0, (h.1.1.0, (h.1.1.1.0, (h.1.1.1.1.0, (h.1.1.1.1.1, made p g u w h.0 h.1.0 h.1.1.0 h.1.1.1.0 h.1.1.1.1.0 h.1.1.1.1.1 x plans k e))))))

    pub preserves : (k : QueryGraph) → k ≡ set_steps x g → Preserves g k
    preserves k e = set-to-exists-preserves g k u w p h (acts k e)

-- ---- two quantifiers, by their places

pub two-are : (xs : List OwnedQuant) (d e : OwnedQuant) → 2 ≤ length xs → length xs < 3 → xs ≡ slice_index_or xs 0 d ∷ slice_index_or xs 1 e ∷ []
two-are [] d e a b = absurd (omega (arith, a))
two-are (x ∷ []) d e a b = absurd (omega (arith, a))
two-are (x ∷ y ∷ []) d e a b = refl
two-are (x ∷ y ∷ z ∷ xs) d e a b = absurd (omega (arith, b))

pub not-two : (xs : List OwnedQuant) (l r : OwnedQuant) → xs ≡ l ∷ r ∷ [] → length xs ≡ 2
not-two xs l r e = ap length e
