-- At a place of G4 its steps come to its action, which preserves.
use Rattle.std.proofs.Common.{◌≡◌, cond, false, List, Some, None, sym, ap, subst, ◌∙◌, inl, inr}
use Rattle.std.proofs.lemmas.Bool.{cases_Bool}
use Rattle.sql_value.specs.declared.order_key.SqlType.{SqlType}
use Rattle.qgm_core.specs.Boxes.{QueryGraph, numbers, width}
use Rattle.qgm_core.specs.Edits.{compact}
use Rattle.list_laws.specs.Lists.{EachOnce}
use Rattle.qgm_core.specs.declared.kinds.Role.{Role}
use Rattle.qgm_core.specs.declared.kinds.SetOperator.{SetOperator}
use Rattle.qgm_core.specs.declared.node.Node.{Node}
use Rattle.qgm_edit_laws.proofs.WellFormedKept.{numbers-once}
use Rattle.qgm_meaning.specs.Tags.{columns_from}
use Rattle.qgm_props.specs.Calm.{is_closed}
use Rattle.qgm_wellformed.specs.Sentences.{WellFormed}
use Rattle.qgm_wellformed.specs.Types.{lookup_of}
use Rattle.qgm_wellformed.proofs.Faults.{well-ordered}
use Rattle.rule_api.specs.Rules.{Preserves}
use Rattle.rule_api.specs.declared.place.Place.{Place}
use Rattle.rule_magic.specs.AbsorbArms.{role_over}
use Rattle.rule_magic.specs.AbsorbExact.{feeding_by, inferred-told, is-feeding, may-found}
use Rattle.rule_magic.specs.AbsorbSetOperation.{AbsorbsSet, AbsorbsSetAt, MayAbsorbSet, MayAbsorbSetAt, SetAt, absorbed_set, operator_of, renamed_set, tagged_set}
use Rattle.rule_magic.specs.AbsorbSetSteps.{CanAbsorbSet, IsSelectNew, StepsSet, known_types, set_steps, with_set}
use Rattle.rule_magic.specs.Feeding.{Feeding, feeding, inferred_facts}
use Rattle.rule_magic.specs.Operands.{OperandPair, pair_under}
use Rattle.rule_magic.specs.RenameSteps.{rename_below}
use Rattle.rule_magic.specs.declared.absorb_set.action.NewSelect.{NewSelect}
use Rattle.rule_magic.proofs.AbsorbOpenSet as after
use Rattle.rule_magic.proofs.AbsorbSetActs as steps
use Rattle.rule_magic.proofs.AbsorbSetFormed as made
use Rattle.rule_magic.proofs.AbsorbSetTagged.{is-open, set-absorbed}
use Rattle.rule_magic.proofs.FedTypes.{set-types}
use Rattle.rule_magic.proofs.RenameSteps.{rename-below-is}

module _ (g : QueryGraph) (once : EachOnce (numbers g.boxes)) (wf : WellFormed g) (p : Place) (d : Node) (may : MayAbsorbSetAt p g d) (z : NewSelect) (new : IsSelectNew g z) where
  abbrev both : steps.HasOperands g once wf may.ready.c may.ready.in_c may.form may.types may.a_set
  both = steps.both g once wf p d may

  abbrev k : OperandPair
  k = steps.k g once wf p d may

  abbrev up : List Node
  up = steps.up g once wf p d may

  abbrev l1 : List Node
  l1 = steps.l1 g once wf p d may

  abbrev l2 : List Node
  l2 = steps.l2 g once wf p d may

  abbrev mt : List SqlType
  mt = known_types (lookup_of g.boxes) d.parts.head

  set-at : SetAt g (inferred_facts g.boxes) d may.ready may.form may.types mt both.l both.r both.x both.y z.s z.u z.p up l1 l2
  set-at = record {
    once = once;
    formed = wf;
    tells = inferred-told g.boxes;
    a_set = may.a_set;
    two = both.two;
    in_x = both.in_x;
    over_x = both.over_x;
    in_y = both.in_y;
    over_y = both.over_y;
    typed = set-types g once wf (inferred_facts g.boxes) (inferred-told g.boxes) d may.ready may.form may.types may.a_set;
    s_new = (steps.is-fresh g once wf p d may z new).s_new;
    u_new = (steps.is-fresh g once wf p d may z new).u_new;
    p_new = (steps.is-fresh g once wf p d may z new).p_new;
    apart = (steps.is-fresh g once wf p d may z new).apart;
    before = steps.before g once wf p d may;
  }

  abbrev left : Role
  left = role_over g.boxes both.x.id

  abbrev right : Role
  right = role_over g.boxes both.y.id

  abbrev made_set : QueryGraph
  made_set = absorbed_set g (inferred_facts g.boxes) d may.ready may.form mt both.l both.r both.x both.y z.s z.u z.p left right up l1 l2

  abbrev renamed : QueryGraph
  renamed = renamed_set g (inferred_facts g.boxes) d may.ready may.form mt both.l both.r both.x both.y z.s z.u z.p left right up l1 l2

  abbrev before_names : QueryGraph
  before_names = with_set (steps.f g once wf p d may) may.form (steps.k g once wf p d may) z left right mt g

  abbrev with_names : QueryGraph → QueryGraph
  with_names h = rename_below g.boxes both.r.over may.ready.a.id (columns_from z.p 1 (width may.ready.m)) h

  set-made : before_names ≡ made_set
  set-made = ap (λ (ns : List Node). record g { boxes = ns }) (steps.set-is g once wf p d may z new left right mt)

  names-made : is_closed g.boxes both.y.id ≡ false → with_names made_set ≡ renamed
  names-made f = rename-below-is g.boxes both.r.over may.ready.a.id (columns_from z.p 1 (width may.ready.m)) made_set once
      (numbers-once made_set.boxes (made.ordered g (inferred_facts g.boxes) d may.ready may.form may.types mt both.l both.r both.x both.y z.s z.u z.p left right up l1 l2 set-at))
      (after.region g (inferred_facts g.boxes) d may.ready may.form may.types mt both.l both.r both.x both.y z.s z.u z.p left right up l1 l2 set-at
      (is-open g (inferred_facts g.boxes) d may.ready may.form may.types mt both.l both.r both.x both.y z.s z.u z.p up l1 l2 set-at f)).there

  steps-are : set_steps (steps.f g once wf p d may) may.form k z g ≡ compact (tagged_set g (inferred_facts g.boxes) d may.ready may.form mt both.l both.r both.x both.y z.s z.u z.p up l1 l2)
  steps-are = ap compact (elim (cases_Bool (is_closed g.boxes both.y.id)) [
    | inl t ↦ ap (λ b. cond b before_names (with_names before_names)) t ∙ set-made ∙ sym (ap (λ b. cond b made_set renamed) t)
    | inr f ↦ ap (λ b. cond b before_names (with_names before_names)) f ∙ ap with_names set-made ∙ names-made f ∙ sym (ap (λ b. cond b made_set renamed) f)
  ])

  pub acts-by : (h : QueryGraph) → h ≡ set_steps (steps.f g once wf p d may) may.form k z g → AbsorbsSetAt p g h d
  acts-by h e = record {
    may = may;
    l = both.l;
    r = both.r;
    x = both.x;
    y = both.y;
    two = both.two;
    in_x = both.in_x;
    over_x = both.over_x;
    in_y = both.in_y;
    over_y = both.over_y;
    mt = mt;
    typed = set-at.typed;
    s = z.s;
    u = z.u;
    t = z.p;
    fresh = steps.is-fresh g once wf p d may z new;
    up = up;
    l1 = l1;
    l2 = l2;
    before = set-at.before;
    after = e ∙ steps-are;
  }

-- ---- the action

pub action-at : (g h : QueryGraph) → EachOnce (numbers g.boxes) → WellFormed g → (p : Place) (d : Node) (x : AbsorbsSetAt p g h d) → SetAt g (inferred_facts g.boxes) d x.may.ready x.may.form x.may.types x.mt x.l x.r x.x x.y x.s x.u x.t x.up x.l1 x.l2
action-at g h once wf p d x = record {
  once = once;
  formed = wf;
  tells = inferred-told g.boxes;
  a_set = x.may.a_set;
  two = x.two;
  in_x = x.in_x;
  over_x = x.over_x;
  in_y = x.in_y;
  over_y = x.over_y;
  typed = x.typed;
  s_new = x.fresh.s_new;
  u_new = x.fresh.u_new;
  p_new = x.fresh.p_new;
  apart = x.fresh.apart;
  before = x.before;
}

set-acts-preserves : (g h : QueryGraph) → EachOnce (numbers g.boxes) → WellFormed g → (p : Place) (d : Node) → AbsorbsSetAt p g h d → Preserves g h
set-acts-preserves g h once wf p d x = subst (Preserves g) (sym x.after) (set-absorbed g (inferred_facts g.boxes) d x.may.ready x.may.form x.may.types x.mt x.l x.r x.x x.y x.s x.u x.t x.up x.l1 x.l2 (action-at g h once wf p d x)).preserves

-- ---- at a place

module _ (g : QueryGraph) (once : EachOnce (numbers g.boxes)) (wf : WellFormed g) (p : Place) (may : MayAbsorbSet p g) where
  -- one is found
  pub found : feeding g p.at ≡ None → ⊥
  unfolding MayAbsorbSet
  found e = absurd (
      let m = may.1 in
      let k : Some (feeding_by g may.0 m.ready) ≡ None = sym (is-feeding g p.at (feeding_by g may.0 m.ready) (may-found g (well-ordered g once wf) p.at may.0 m.at m.ready)) ∙ e in
      let z : ⊥ = cc in z)

  module _ (f : Feeding) (e : feeding g p.at ≡ Some f) where
    found-is : (d : Node) (m : MayAbsorbSetAt p g d) → feeding_by g d m.ready ≡ f
    found-is d m =
        let k : Some (feeding_by g d m.ready) ≡ Some f = sym (is-feeding g p.at (feeding_by g d m.ready) (may-found g (well-ordered g once wf) p.at d m.at m.ready)) ∙ e in
        cc

    found-form : (d : Node) (m : MayAbsorbSetAt p g d) → operator_of f.c.parts.kind ≡ Some m.form
    found-form d m = subst (λ (z : Feeding). operator_of z.c.parts.kind ≡ Some m.form) (found-is d m) (ap operator_of m.a_set)

    found-pair : (d : Node) (m : MayAbsorbSetAt p g d) → pair_under g.boxes f.c.quants ≡ Some (steps.k g once wf p d m)
    found-pair d m = subst (λ (z : Feeding). pair_under g.boxes z.c.quants ≡ Some (steps.k g once wf p d m)) (found-is d m) (steps.pair-found g once wf p d m)

    -- with a set operation
    pub form-there : operator_of f.c.parts.kind ≡ None → ⊥
    unfolding MayAbsorbSet
    form-there n = absurd (let z : Some may.1.form ≡ None = sym (found-form may.0 may.1) ∙ n in let y : ⊥ = cc in y)

    -- and its operands
    pub pair-there : pair_under g.boxes f.c.quants ≡ None → ⊥
    unfolding MayAbsorbSet
    pair-there n = absurd (let z : Some (steps.k g once wf p may.0 may.1) ≡ None = sym (found-pair may.0 may.1) ∙ n in let y : ⊥ = cc in y)

    module _ (form : SetOperator) (is : operator_of f.c.parts.kind ≡ Some form) (k : OperandPair) (are : pair_under g.boxes f.c.quants ≡ Some k) where
      form-is : (d : Node) (m : MayAbsorbSetAt p g d) → form ≡ m.form
      form-is d m = let z : Some form ≡ Some m.form = sym is ∙ found-form d m in cc

      pair-is : (d : Node) (m : MayAbsorbSetAt p g d) → k ≡ steps.k g once wf p d m
      pair-is d m = let z : Some k ≡ Some (steps.k g once wf p d m) = sym are ∙ found-pair d m in cc

      pub can-there : CanAbsorbSet g f k
      unfolding MayAbsorbSet
      can-there = subst (λ (z : OperandPair). CanAbsorbSet g f z) (sym (pair-is may.0 may.1)) (subst (λ (z : Feeding). CanAbsorbSet g z (steps.k g once wf p may.0 may.1)) (found-is may.0 may.1) (steps.can g once wf p may.0 may.1))

      acts-there : (h : QueryGraph) → StepsSet g h f form k → (d : Node) → MayAbsorbSetAt p g d → AbsorbsSetAt p g h d
      acts-there h s d m = acts-by g once wf p d m s.z s.fresh h (
          s.after
          ∙ ap (λ (y : SetOperator). set_steps f y k s.z g) (form-is d m)
          ∙ ap (λ (y : OperandPair). set_steps f m.form y s.z g) (pair-is d m)
          ∙ ap (λ (y : Feeding). set_steps y m.form (steps.k g once wf p d m) s.z g) (sym (found-is d m)))

      pub acts : (h : QueryGraph) → StepsSet g h f form k → AbsorbsSet p g h
      unfolding MayAbsorbSet AbsorbsSet
      acts h s = (may.0, acts-there h s may.0 may.1)

      pub preserves : (h : QueryGraph) → StepsSet g h f form k → Preserves g h
      unfolding MayAbsorbSet
      preserves h s = set-acts-preserves g h once wf p may.0 (acts-there h s may.0 may.1)
