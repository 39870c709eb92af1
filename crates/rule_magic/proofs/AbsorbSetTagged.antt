-- G4 with its right operand open or closed: what holds of the graph after it.
use Rattle.std.proofs.Common.{ℕ, ◌≡◌, cond, true, false, List, None, sym, ap, ap₂, subst, ◌∙◌, refl, inl, inr}
use Rattle.std.proofs.lemmas.Bool.{cases_Bool}
use Rattle.sql_value.specs.declared.order_key.SqlType.{SqlType}
use Rattle.qgm_core.specs.Boxes.{QueryGraph, numbers}
use Rattle.qgm_core.specs.Edits.{compact}
use Rattle.qgm_core.specs.Free.{IsFree}
use Rattle.list_laws.specs.Lists.{EachOnce}
use Rattle.qgm_core.specs.declared.kinds.Role.{Role}
use Rattle.qgm_core.specs.declared.kinds.Role.TheVariants.{Fed, Plain}
use Rattle.qgm_core.specs.declared.kinds.SetOperator.{SetOperator}
use Rattle.qgm_core.specs.declared.node.Node.{Node}
use Rattle.qgm_core.specs.declared.owned.OwnedQuant.{OwnedQuant}
use Rattle.qgm_edit_laws.specs.Graph.{Sound}
use Rattle.qgm_edit_laws.proofs.FreeLoose.{looks-free, open-looks}
use Rattle.qgm_edit_laws.proofs.WellFormedKept.{numbers-once}
use Rattle.qgm_meaning.specs.Scope.{loose}
use Rattle.qgm_props.specs.Calm.{is_closed}
use Rattle.qgm_props.specs.Inferred.{Facts}
use Rattle.qgm_props.specs.Measure.{Lowers}
use Rattle.qgm_wellformed.specs.WellFormed.{fault}
use Rattle.rule_api.specs.Rules.{Preserves}
use Rattle.rule_magic.specs.AbsorbArms.{role_over}
use Rattle.rule_magic.specs.AbsorbSetOperation.{SetAt, absorbed_set, renamed_set, tagged_set}
use Rattle.rule_magic.specs.Places.{MayAbsorb}
use Rattle.rule_magic.proofs.AbsorbOpenFormed.{open-formed}
use Rattle.rule_magic.proofs.AbsorbOpenKeeps.{set-open-preserves}
use Rattle.rule_magic.proofs.AbsorbOpenLowers.{set-open-lowers}
use Rattle.rule_magic.proofs.AbsorbOpenSet as after
use Rattle.rule_magic.proofs.AbsorbSetFormed as made
use Rattle.rule_magic.proofs.AbsorbSetKeeps as closed
use Rattle.rule_magic.proofs.AbsorbSetKeeps.{set-lowers, set-preserves}
use Rattle.rule_magic.proofs.AbsorbShared.{closed-looks, role-over-is}
use Rattle.rule_magic.proofs.CalmFires.{closed-is}
use Rattle.list_laws.proofs.Booleans.{clash}

-- boxes have numbers of their own, the check finds nothing, the measure is lower, and the graph is preserved
pub record IsAbsorbed (g h : QueryGraph) : Type 0 where
  pub once : EachOnce (numbers h.boxes)
  pub faultless : fault h ≡ None
  pub lowers : Lowers g.boxes h.boxes
  pub preserves : Preserves g (compact h)

module _ (g : QueryGraph) (known : Facts) (d : Node) (may : MayAbsorb g.boxes known d) (form : SetOperator) (ts mt : List SqlType) (l r1 : OwnedQuant) (x y : Node) (s u p : ℕ) (up l1 l2 : List Node) (at : SetAt g known d may form ts mt l r1 x y s u p up l1 l2) where
  abbrev after_by : Role → Role → QueryGraph
  after_by lr rr = absorbed_set g known d may form mt l r1 x y s u p lr rr up l1 l2

  abbrev renamed_by : Role → Role → QueryGraph
  renamed_by lr rr = renamed_set g known d may form mt l r1 x y s u p lr rr up l1 l2

  abbrev tagged : QueryGraph
  tagged = tagged_set g known d may form mt l r1 x y s u p up l1 l2

  abbrev left : Role
  left = role_over g.boxes x.id

  abbrev right : Role
  right = role_over g.boxes y.id

  w : Sound g.boxes g.root
  w = made.w g known d may form ts mt l r1 x y s u p Fed Fed up l1 l2 at

  -- an operand that isn't closed has the magic box's quantifier free
  pub is-open : is_closed g.boxes y.id ≡ false → loose g.boxes y.id may.a.id ≡ true
  is-open f =
      let k = open-looks g.boxes g.root w y.id f in
      subst (λ q. loose g.boxes y.id q ≡ true) (made.arm-alone g known d may form ts mt l r1 x y s u p Fed Fed up l1 l2 at r1 y (made.in-r1 g known d may form ts mt l r1 x y s u p Fed Fed up l1 l2 at) at.over_y k.0 k.1) k.1

  module _ (t : is_closed g.boxes y.id ≡ true) where
    shut : (q : ℕ) → IsFree g.boxes y.id q → ⊥
    shut = closed-is g.boxes w.ordered y.id t

    left-fed : left ≡ Fed
    left-fed = elim (cases_Bool (is_closed g.boxes x.id)) [
      | inr f ↦ ap (λ b. cond b Plain Fed) f
      | inl e ↦ absurd (clash (loose g.boxes x.id may.a.id) (made.x-open g known d may form ts mt l r1 x y s u p Fed Plain up l1 l2 at refl refl shut) (closed-looks g.boxes g.root w x.id e may.a.id))
    ]

    tagged-closed : tagged ≡ after_by Fed Plain
    tagged-closed = ap (λ b. cond b (after_by left right) (renamed_by left right)) t ∙ ap₂ after_by left-fed (ap (λ b. cond b Plain Fed) t)

    closed-absorbed : IsAbsorbed g (after_by Fed Plain)
    closed-absorbed = record {
      once = numbers-once (after_by Fed Plain).boxes (closed.ordered g known d may form ts mt l r1 x y s u p up l1 l2 at shut);
      faultless = closed.faultless g known d may form ts mt l r1 x y s u p up l1 l2 at shut;
      lowers = set-lowers g known d may form ts mt l r1 x y s u p up l1 l2 at shut;
      preserves = set-preserves g known d may form ts mt l r1 x y s u p up l1 l2 at shut;
    }

  module _ (f : is_closed g.boxes y.id ≡ false) where
    tagged-open : tagged ≡ renamed_by left right
    tagged-open = ap (λ b. cond b (after_by left right) (renamed_by left right)) f

    free : IsFree g.boxes y.id may.a.id
    free = looks-free g.boxes g.root w y.id may.a.id (is-open f)

    open-absorbed : IsAbsorbed g (renamed_by left right)
    open-absorbed = record {
      once = numbers-once (renamed_by left right).boxes (after.ordered g known d may form ts mt l r1 x y s u p left right up l1 l2 at (is-open f));
      faultless = open-formed g known d may form ts mt l r1 x y s u p left right up l1 l2 at (is-open f) (role-over-is g.boxes g.root w x.id) (role-over-is g.boxes g.root w y.id);
      lowers = set-open-lowers g known d may form ts mt l r1 x y s u p left right up l1 l2 at free;
      preserves = set-open-preserves g known d may form ts mt l r1 x y s u p up l1 l2 at free;
    }

  pub set-absorbed : IsAbsorbed g tagged
  set-absorbed = elim (cases_Bool (is_closed g.boxes y.id)) [ inl t ↦ subst (IsAbsorbed g) (sym (tagged-closed t)) (closed-absorbed t) | inr f ↦ subst (IsAbsorbed g) (sym (tagged-open f)) (open-absorbed f) ]
