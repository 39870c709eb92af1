-- A firing of a rule of class magic lowers the measure.
use Rattle.std.proofs.Common.{◌≡◌, ◌<◌, None, ap, sym, subst, ◌∙◌, inl, inr}
use Rattle.qgm_core.specs.Boxes.{QueryGraph, numbers}
use Rattle.qgm_core.specs.Edits.{compact}
use Rattle.list_laws.specs.Lists.{EachOnce}
use Rattle.qgm_core.specs.declared.kinds.BoxKind.{BoxKind}
use Rattle.qgm_core.specs.declared.kinds.BoxKind.TheVariants.{Group}
use Rattle.qgm_wellformed.specs.WellFormed.{fault}
use Rattle.qgm_wellformed.proofs.Faults.{finds-none}
use Rattle.qgm_edit_laws.proofs.Compact.{compact-sound}
use Rattle.qgm_edit_laws.proofs.Formed.{sound-checked}
use Rattle.qgm_edit_laws.proofs.WellFormedKept.{compact-formed, numbers-once}
use Rattle.qgm_props.specs.Measure.{Lowers}
use Rattle.qgm_props.proofs.MeasureLaws.{measure-falls}
use Rattle.rule_magic.specs.AbsorbExact.{inferred-told}
use Rattle.rule_magic.specs.AbsorbGroup.{AbsorbsGroup, GroupAt, KeylessAt, absorbed_group, absorbed_keyless}
use Rattle.rule_magic.specs.AbsorbMeasure.{FeedFiringLowers, GroupFiringLowers, IsLower, OuterFiringLowers, ScalarFiringLowers, SelectFiringLowers, SetFiringLowers}
use Rattle.rule_magic.specs.AbsorbArms.{role_over}
use Rattle.rule_magic.specs.AbsorbOuterJoin.{AbsorbsOuter, absorbed_left, renamed_arms}
use Rattle.rule_magic.specs.AbsorbSelect.{AbsorbsSelect, SelectAt, absorbed_select}
use Rattle.rule_magic.specs.AbsorbSetOperation.{AbsorbsSet, tagged_set}
use Rattle.rule_magic.specs.Feeding.{inferred_facts}
use Rattle.rule_magic.specs.Places.{AbsorbsBy}
use Rattle.rule_feed.proofs.FeedKeeps.{firing-lowers}
use Rattle.rule_subquery.specs.ScalarToGroup.{GroupsScalar}
use Rattle.rule_subquery.specs.ScalarToGroupLaws.{singled}
use Rattle.rule_subquery.proofs.ScalarToGroupKeeps.{group-preserves}
use Rattle.rule_magic.proofs.AbsorbArmsFormed as opened
use Rattle.rule_magic.proofs.AbsorbArmsKeeps as arms
use Rattle.rule_magic.proofs.AbsorbGroupKeeps as keyed
use Rattle.rule_magic.proofs.AbsorbKeylessKeeps as keyless
use Rattle.rule_magic.proofs.AbsorbLeftKeeps as left
use Rattle.rule_magic.proofs.AbsorbOuterActs.{arms-at, arms-open, left-at, left-shut}
use Rattle.rule_magic.proofs.AbsorbOuterFacts as outer
use Rattle.rule_magic.proofs.AbsorbSelectKeeps as select
use Rattle.rule_magic.proofs.AbsorbSetPlaces.{action-at}
use Rattle.rule_magic.proofs.AbsorbSetTagged.{set-absorbed}
use Rattle.rule_magic.proofs.AbsorbShared.{role-over-is}
use Rattle.rule_magic.proofs.CompactMeasure.{compact-lowers}
use Rattle.rule_magic.proofs.ScalarToGroupMeasure.{scalar-lowers, scalar-ordered}

-- a graph that is lower and in which the check finds nothing is lower without the boxes that the root doesn't reach
falls : (g h : QueryGraph) → EachOnce (numbers h.boxes) → fault h ≡ None → Lowers g.boxes h.boxes → IsLower g (compact h)
falls g h u f l =
    let sound = compact-sound h.boxes h.root ((sound-checked h u).0 f).0 in
    let once = numbers-once (compact h).boxes sound.ordered in
    record { once = once; lower = measure-falls g (compact h) once ((finds-none (compact h) once).0 (compact-formed h u f)) (compact-lowers g h u ((finds-none h u).0 f) l) }

pub feed-firing-lowers : FeedFiringLowers
feed-firing-lowers = λ p g h once wf acts. (
    let x = firing-lowers p g h once wf acts in
    subst (IsLower g) (sym x.1.0) (falls g x.0 x.1.1.0 ((finds-none x.0 x.1.1.0).1 x.1.1.1.0) x.1.1.1.1))

pub scalar-firing-lowers : ScalarFiringLowers
unfolding GroupsScalar
scalar-firing-lowers = λ p g h once wf e. (
    let f = (finds-none g once).1 wf in
    let b = e.0 in let us = e.1.0 in let r = e.1.1.0 in let vs = e.1.1.1.0 in let m = e.1.1.1.1.0 in let a = e.1.1.1.1.1 in
    let made : QueryGraph = singled a.xs a.ys a.group a.quant b a.c r g in
    let apart = numbers-once made.boxes (scalar-ordered g once f p b us r vs m h a) in
    subst (IsLower g) (sym a.after)
    (falls g made apart ((finds-none made apart).1 (group-preserves g once f p b us r vs m h a).formed) (scalar-lowers g once f p b us r vs m h a)))

pub select-firing-lowers : SelectFiringLowers
unfolding AbsorbsSelect
select-firing-lowers = λ p g h once wf acts. (
    let d = acts.0 in
    let x = acts.1 in
    let known = inferred_facts g.boxes in
    let may = x.may.ready in
    let at : SelectAt g known d may x.up x.l1 x.l2 = record {
      once = once;
      formed = wf;
      tells = inferred-told g.boxes;
      a_select = x.may.a_select;
      plain = subst (λ (k : BoxKind). AbsorbsBy g.boxes (inferred_facts g.boxes) k may.c) x.may.a_select may.absorbs;
      before = x.before;
    } in
    let after = absorbed_select g known d may x.up x.l1 x.l2 in
    subst (IsLower g) (sym x.after)
    (falls g after (numbers-once after.boxes (select.ordered g known d may x.up x.l1 x.l2 at)) (select.faultless g known d may x.up x.l1 x.l2 at) (select.lowers g known d may x.up x.l1 x.l2 at)))

pub group-firing-lowers : GroupFiringLowers
unfolding AbsorbsGroup
group-firing-lowers = λ p g h once wf acts. (
    let d = acts.0 in
    let known = inferred_facts g.boxes in
    elim acts.1 [
      | inl x ↦ (
          let may = x.may.ready in
          let at : GroupAt g known d may x.k x.q x.x x.up x.l1 x.l2 = record {
            once = once;
            formed = wf;
            tells = inferred-told g.boxes;
            a_group = x.may.a_group ∙ ap Group x.keyed;
            alone = x.alone;
            in_x = x.in_x;
            over_x = x.over_x;
            before = x.before;
          } in
          let after = absorbed_group g known d may x.k x.q x.x x.up x.l1 x.l2 in
          subst (IsLower g) (sym x.after)
          (falls g after (numbers-once after.boxes (keyed.ordered g known d may x.k x.q x.x x.up x.l1 x.l2 at)) (keyed.faultless g known d may x.k x.q x.x x.up x.l1 x.l2 at) (keyed.lowers g known d may x.k x.q x.x x.up x.l1 x.l2 at)))
      | inr x ↦ (
          let may = x.may.ready in
          let at : KeylessAt g known d may x.q x.x x.o x.n x.om x.oc x.t x.up x.l1 x.l2 = record {
            once = once;
            formed = wf;
            tells = inferred-told g.boxes;
            a_group = x.may.a_group ∙ ap Group x.keyless;
            alone = x.alone;
            in_x = x.in_x;
            over_x = x.over_x;
            fresh = x.fresh;
            before = x.before;
          } in
          let after = absorbed_keyless g known d may x.q x.x x.o x.n x.om x.oc x.t x.up x.l1 x.l2 in
          subst (IsLower g) (sym x.after)
          (falls g after (numbers-once after.boxes (keyless.ordered-after g known d may x.q x.x x.o x.n x.om x.oc x.t x.up x.l1 x.l2 at)) (keyless.faultless-after g known d may x.q x.x x.o x.n x.om x.oc x.t x.up x.l1 x.l2 at)
          (keyless.lowers g known d may x.q x.x x.o x.n x.om x.oc x.t x.up x.l1 x.l2 at)))
    ])

pub set-firing-lowers : SetFiringLowers
unfolding AbsorbsSet
set-firing-lowers = λ p g h once wf acts. (
    let d = acts.0 in
    let x = acts.1 in
    let known = inferred_facts g.boxes in
    let after = tagged_set g known d x.may.ready x.may.form x.mt x.l x.r x.x x.y x.s x.u x.t x.up x.l1 x.l2 in
    let k = set-absorbed g known d x.may.ready x.may.form x.may.types x.mt x.l x.r x.x x.y x.s x.u x.t x.up x.l1 x.l2 (action-at g h once wf p d x) in
    subst (IsLower g) (sym x.after) (falls g after k.once k.faultless k.lowers))

pub outer-firing-lowers : OuterFiringLowers
unfolding AbsorbsOuter
outer-firing-lowers = λ p g h once wf acts. (
    let d = acts.0 in
    let known = inferred_facts g.boxes in
    elim acts.1 [
      | inl x ↦ (
          let may = x.may.ready in
          let role = role_over g.boxes x.x.id in
          let at = left-at g h once wf p d x in
          let fits = role-over-is g.boxes g.root (outer.w g known d may x.l x.r x.x x.y x.up x.l1 x.l2 at) x.x.id in
          let shut = left-shut g h once wf p d x in
          let after = absorbed_left g known d may x.l x.r x.x x.y role x.up x.l1 x.l2 in
          subst (IsLower g) (sym x.after)
          (falls g after (numbers-once after.boxes (left.ordered g known d may x.l x.r x.x x.y role x.up x.l1 x.l2 at fits shut)) (left.faultless g known d may x.l x.r x.x x.y role x.up x.l1 x.l2 at fits shut)
          (left.lowers g known d may x.l x.r x.x x.y role x.up x.l1 x.l2 at fits shut)))
      | inr x ↦ (
          let may = x.may.ready in
          let lr = role_over g.boxes x.x.id in
          let rr = role_over g.boxes x.y.id in
          let at = arms-at g h once wf p d x in
          let w = outer.w g known d may x.l x.r x.x x.y x.up x.l1 x.l2 at in
          let o = arms-open g h once wf p d x in
          let after = renamed_arms g known d may x.l x.r x.x x.y x.s x.u x.t lr rr x.up x.l1 x.l2 in
          subst (IsLower g) (sym x.after)
          (falls g after (numbers-once after.boxes (opened.ordered g known d may x.l x.r x.x x.y x.s x.u x.t lr rr x.up x.l1 x.l2 at x.fresh o))
          (opened.arms-formed g known d may x.l x.r x.x x.y x.s x.u x.t lr rr x.up x.l1 x.l2 at x.fresh o (role-over-is g.boxes g.root w x.x.id) (role-over-is g.boxes g.root w x.y.id))
          (arms.lowers g known d may x.l x.r x.x x.y x.s x.u x.t lr rr x.up x.l1 x.l2 at x.fresh o)))
    ])
