-- G4 keeps a graph settled.
use Rattle.std.proofs.Common.{ℕ, ◌≡◌, cond, true, List, refl, sym, ap, ap₂, subst, ◌∙◌, inl, inr}
use Rattle.std.proofs.lemmas.Bool.{cases_Bool}
use Rattle.sql_value.specs.declared.order_key.SqlType.{SqlType}
use Rattle.list_laws.specs.Lists.{In}
use Rattle.list_laws.proofs.Booleans.{clash}
use Rattle.qgm_core.specs.Boxes.{QueryGraph}
use Rattle.qgm_core.specs.Free.{IsFree}
use Rattle.qgm_core.specs.declared.kinds.Role.{Role}
use Rattle.qgm_core.specs.declared.kinds.Role.TheVariants.{Fed, Plain}
use Rattle.qgm_core.specs.declared.kinds.SetOperator.{SetOperator}
use Rattle.qgm_core.specs.declared.node.Node.{Node}
use Rattle.qgm_core.specs.declared.owned.OwnedQuant.{OwnedQuant}
use Rattle.qgm_meaning.specs.Scope.{loose}
use Rattle.qgm_edit_laws.specs.Graph.{Sound}
use Rattle.qgm_props.specs.Calm.{is_closed}
use Rattle.qgm_props.specs.Inferred.{Facts}
use Rattle.rule_api.specs.declared.rule_id.RuleId.TheVariants.{G4}
use Rattle.rule_magic.specs.AbsorbArms.{role_over}
use Rattle.rule_magic.specs.AbsorbSetOperation.{AbsorbsSet, SetAt, absorbed_set, renamed_set, tagged_set}
use Rattle.rule_magic.specs.Feeding.{inferred_facts}
use Rattle.rule_magic.specs.Places.{MayAbsorb}
use Rattle.rule_magic.proofs.AbsorbSetFormed as made
use Rattle.rule_magic.proofs.AbsorbSetPlaces.{action-at}
use Rattle.rule_magic.proofs.AbsorbSetTagged.{is-open, set-absorbed}
use Rattle.rule_magic.proofs.AbsorbShared.{closed-looks, role-over-is}
use Rattle.rule_magic.proofs.CalmFires.{closed-is}
use Rattle.rule_calm.specs.Settled.{IsSettled, SettledBox}
use Rattle.rule_calm.specs.SettledKept.{KeepsSettled}
use Rattle.rule_calm.proofs.FiringSettled.{by-inferred, settled-compact}
use Rattle.rule_calm.proofs.OpenSetSettled.{open-set-settled}
use Rattle.rule_calm.proofs.SetSettled.{set-settled}

module _ (g : QueryGraph) (known : Facts) (d : Node) (may : MayAbsorb g.boxes known d) (form : SetOperator) (ts mt : List SqlType) (l r1 : OwnedQuant) (x y : Node) (s u p : ℕ) (up l1 l2 : List Node) (at : SetAt g known d may form ts mt l r1 x y s u p up l1 l2)
    (each : (n : Node) → In n g.boxes → SettledBox g.boxes known g.root n) where
  abbrev after_by : Role → Role → QueryGraph
  after_by lr rr = absorbed_set g known d may form mt l r1 x y s u p lr rr up l1 l2

  abbrev renamed_by : Role → Role → QueryGraph
  renamed_by lr rr = renamed_set g known d may form mt l r1 x y s u p lr rr up l1 l2

  w : Sound g.boxes g.root
  w = made.w g known d may form ts mt l r1 x y s u p Fed Fed up l1 l2 at

  -- where the right operand is closed the left one is open
  module _ (t : is_closed g.boxes y.id ≡ true) where
    shut : (q : ℕ) → IsFree g.boxes y.id q → ⊥
    shut = closed-is g.boxes w.ordered y.id t

    left-fed : role_over g.boxes x.id ≡ Fed
    left-fed = elim (cases_Bool (is_closed g.boxes x.id)) [
      | inr f ↦ ap (λ b. cond b Plain Fed) f
      | inl e ↦ absurd (clash (loose g.boxes x.id may.a.id) (made.x-open g known d may form ts mt l r1 x y s u p Fed Plain up l1 l2 at refl refl shut) (closed-looks g.boxes g.root w x.id e may.a.id))
    ]

    tagged-closed : tagged_set g known d may form mt l r1 x y s u p up l1 l2 ≡ after_by Fed Plain
    tagged-closed = ap (λ b. cond b (after_by (role_over g.boxes x.id) (role_over g.boxes y.id)) (renamed_by (role_over g.boxes x.id) (role_over g.boxes y.id))) t ∙ ap₂ after_by left-fed (ap (λ b. cond b Plain Fed) t)

  pub tagged-settled : IsSettled (tagged_set g known d may form mt l r1 x y s u p up l1 l2)
  tagged-settled = elim (cases_Bool (is_closed g.boxes y.id)) [
    | inl t ↦ subst IsSettled (sym (tagged-closed t)) (set-settled g known d may form ts mt l r1 x y s u p up l1 l2 at (shut t) each)
    | inr f ↦ subst IsSettled (sym (ap (λ b. cond b (after_by (role_over g.boxes x.id) (role_over g.boxes y.id)) (renamed_by (role_over g.boxes x.id) (role_over g.boxes y.id))) f))
        (open-set-settled g known d may form ts mt l r1 x y s u p (role_over g.boxes x.id) (role_over g.boxes y.id) up l1 l2 at (is-open g known d may form ts mt l r1 x y s u p up l1 l2 at f)
        (role-over-is g.boxes g.root w x.id) (role-over-is g.boxes g.root w y.id) each)
  ]

pub set-keeps : KeepsSettled G4
unfolding AbsorbsSet
set-keeps = λ p g h once wf s acts. (
    let d = acts.0 in
    let x = acts.1 in
    let known = inferred_facts g.boxes in
    let at = action-at g h once wf p d x in
    let after = tagged_set g known d x.may.ready x.may.form x.mt x.l x.r x.x x.y x.s x.u x.t x.up x.l1 x.l2 in
    let k = set-absorbed g known d x.may.ready x.may.form x.may.types x.mt x.l x.r x.x x.y x.s x.u x.t x.up x.l1 x.l2 at in
    subst IsSettled (sym x.after) (settled-compact after k.once k.faultless (tagged-settled g known d x.may.ready x.may.form x.may.types x.mt x.l x.r x.x x.y x.s x.u x.t x.up x.l1 x.l2 at (by-inferred g s))))
